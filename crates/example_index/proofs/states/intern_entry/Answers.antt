use Rattle.std.proofs.Common.{◌++◌, ◌∷◌, [], sym, subst}
use Rattle.std.proofs.lemmas.List.{append-nil}
use Rattle.std.proofs.lemmas.Result.{on_ok_weaker}
use Rattle.index_text.specs.Entries.{Needs}
use Rattle.example_index.proofs.Words.{AreEntries, Favored, Limits, Locked, plain_entry, plain_need, plain_set}
use Rattle.example_index.proofs.Words.{with_bytes}
use Rattle.example_index.proofs.EntryLemmas.{entries_more}
use Rattle.example_index.proofs.Later.{later_bytes, later_itself}
use Rattle.example_index.proofs.states.intern_entry.Goals as goal

pub returns-in-Needs-clause-is : goal.returns-in-Needs-clause-is
returns-in-Needs-clause-is c =
    let old = c.args.pool.now in
    let new = c.add_need.new.pool in
    let found = c.args.found.now in
    on_ok_weaker c.add_need.result (λ pushed before h.
    subst (λ entry. AreEntries (with_bytes new)
    (record { requirements = c.add_need.new.needs; constrains = found.constrains })
    (before ++ plain_entry entry ∷ []))
    (sym c.in-Needs.is)
    (entries_more (with_bytes old) (with_bytes new) (later_bytes old new c.add_need.ensures.later)
    found.requirements.items c.add_need.new.needs.items (pushed.0 ∷ []) found.constrains.items found.constrains.items []
    before (Needs (plain_need c.in-Needs.need)) pushed.1 (sym (append-nil found.constrains.items)) h.0 h.1
    (pushed.2, tt) tt)) c.add_need.ensures.is

pub returns-in-Limits-clause-is : goal.returns-in-Limits-clause-is
returns-in-Limits-clause-is c =
    let old = c.args.pool.now in
    let new = c.add_limit.new.pool in
    let found = c.args.found.now in
    on_ok_weaker c.add_limit.result (λ pushed before h.
    subst (λ entry. AreEntries (with_bytes new)
    (record { requirements = found.requirements; constrains = c.add_limit.new.limits })
    (before ++ plain_entry entry ∷ []))
    (sym c.in-Limits.is)
    (entries_more (with_bytes old) (with_bytes new) (later_bytes old new c.add_limit.ensures.later)
    found.requirements.items found.requirements.items [] found.constrains.items c.add_limit.new.limits.items
    (pushed.0 ∷ [])
    before (Limits (plain_set c.in-Limits.set)) (sym (append-nil found.requirements.items)) pushed.1 h.0 h.1 tt
    (pushed.2, tt))) c.add_limit.ensures.is

pub returns-in-Favored-clause-is : goal.returns-in-Favored-clause-is
returns-in-Favored-clause-is c before h =
    let found = c.args.found.now in
    subst (λ entry. AreEntries (with_bytes c.args.pool.now) found (before ++ plain_entry entry ∷ []))
    (sym c.in-Favored.is)
    (entries_more (with_bytes c.args.pool.now) (with_bytes c.args.pool.now) (later_itself (with_bytes c.args.pool.now))
    found.requirements.items found.requirements.items [] found.constrains.items found.constrains.items []
    before Favored (sym (append-nil found.requirements.items)) (sym (append-nil found.constrains.items)) h.0 h.1 tt tt)

pub returns-in-Locked-clause-is : goal.returns-in-Locked-clause-is
returns-in-Locked-clause-is c before h =
    let found = c.args.found.now in
    subst (λ entry. AreEntries (with_bytes c.args.pool.now) found (before ++ plain_entry entry ∷ []))
    (sym c.in-Locked.is)
    (entries_more (with_bytes c.args.pool.now) (with_bytes c.args.pool.now) (later_itself (with_bytes c.args.pool.now))
    found.requirements.items found.requirements.items [] found.constrains.items found.constrains.items []
    before Locked (sym (append-nil found.requirements.items)) (sym (append-nil found.constrains.items)) h.0 h.1 tt tt)
