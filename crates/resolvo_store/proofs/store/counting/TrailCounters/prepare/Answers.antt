use Rattle.std.proofs.Common.{◌≡◌, ◌∙◌, ap, subst, sym, length, Result, Ok, Err}
use Rattle.std.specs.Prelude.{List}
use Rattle.resolvo_store.proofs.Words.{counted, Counting, Counts, Follows, IfOk, is_false_literal, no_false}
use Rattle.resolvo_store.proofs.Words.{PlacedDemand, values_in}
use Rattle.resolvo_store.specs.contracts.store.counting.TrailCounters.prepare.{A-type}
use Rattle.resolvo_store.proofs.CountedLemmas.{counts_all, follows_all}
use Rattle.resolvo_store.proofs.store.counting.TrailCounters.prepare.Given.{Over}
use Rattle.resolvo_store.proofs.store.counting.TrailCounters.prepare.Goals as goal

if_ok : {T E : Type 0} (r : Result T E) (P Q : T → Type 0) → ((t : T) → P t → Q t) → IfOk r P → IfOk r Q
if_ok (Ok t) P Q f h = f t h
if_ok (Err e) P Q f h = h

-- how many entries are counted once the counters have caught up
all_counted : (g : Over) (c : goal.After-prepare g) → c.self.inside.counted ≡ length c.args.trail.now.entries
all_counted g c = ap (λ (k : Counting). k.counted) c.self.view_is ∙ c.catch_up.ensures.all

-- what is counted then
counts_now : (g : Over) (c : goal.After-prepare g) (cs : List PlacedDemand)
    → Follows {A = A-type g.row.A} c.args.self.now c.args.trail.now.entries
    (counted c.args.lists.now c.args.disjunctions.now cs no_false)
    → Counts c.self.inside.clauses (counted c.args.lists.now c.args.disjunctions.now cs
    (is_false_literal (values_in c.map.result.now)))
counts_now g c cs h =
    let es = c.args.trail.now.entries in
    let s = counted c.args.lists.now c.args.disjunctions.now cs no_false in
    let kept : Counting = record {
      clauses = c.self.inside.clauses;
      known = c.self.inside.known;
      counted =
          c.self.inside.counted;
    } in
    let was = subst (λ (k : Counting). Follows k es s) (sym c.self.view_is) (c.catch_up.ensures.follows s h) in
    subst (λ val. Counts c.self.inside.clauses (counted c.args.lists.now c.args.disjunctions.now cs
    (is_false_literal val))) (sym c.map.ensures.values)
    (counts_all kept s es (all_counted g c) was)

pub returns-clause-same : goal.returns-clause-same
returns-clause-same g c cs h =
    let es = c.args.trail.now.entries in
    let s = counted c.args.lists.now c.args.disjunctions.now cs no_false in
    let after = subst (λ val. Counts c.prepare.new.self (counted c.args.lists.now c.args.disjunctions.now cs
    (is_false_literal val))) c.map.ensures.values
    (c.prepare.ensures.same cs (counts_now g c cs h)) in
    follows_all (record {
      clauses = c.prepare.new.self;
      known = c.self.inside.known;
      counted =
          c.self.inside.counted;
    }) s es (all_counted g c) after

pub returns-clause-ready : goal.returns-clause-ready
returns-clause-ready g c = if_ok c.prepare.result _ _ (λ groups ready cs h. ready cs (counts_now g c cs h))
    c.prepare.ensures.ready
