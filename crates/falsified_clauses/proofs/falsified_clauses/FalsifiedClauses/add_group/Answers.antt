use Rattle.std.proofs.Common.{◌≡◌, Some, [], ◌∷◌, length, refl, sym, ap, subst, ◌∙◌, arith}
use Rattle.std.proofs.lemmas.List.{length-append}
use Rattle.falsified_clauses.proofs.Words.{counted_under, Counts, FindsKeys, grouped_by, IsUpdate, KeyedCounters}
use Rattle.falsified_clauses.proofs.Words.{number_in, number_of}
use Rattle.falsified_clauses.proofs.KeyLaws.{finds_pushed}
use Rattle.falsified_clauses.proofs.CountLaws.{counts_key}
use Rattle.falsified_clauses.proofs.falsified_clauses.FalsifiedClauses.add_group.Goals as goal

pub invariant_of-self-2 : goal.invariant_of-self-2
invariant_of-self-2 g c =
    let keys = c.self.inside.keys.items in
    let key = c.args.key.now in
    let room = number_of c.make_room.new.self in
    let now = number_of c.put.new.self in
    let more = c.and-self-inside.ensures in
    let longer = length-append keys (key ∷ []) in
    let absent : number_in keys key ≡ length keys =
    subst (λ k. number_in k.keys key ≡ length k.keys) (sym c.self.view_is) c.requires.new in
    let finds : FindsKeys room keys = λ q. c.make_room.ensures.same q ∙ c.self.invariant.1 q in
    let put : IsUpdate room key (Some (length keys)) now =
    subst (λ n. IsUpdate room key (Some n) now) (c.in_ok-group.ensures.number ∙ c.self.invariant.0) c.put.ensures in (
      omega (arith, ap length more, longer, c.self.invariant.0, c.in_ok-group.ensures.groups),
      subst (FindsKeys now) (sym more) (finds_pushed room now keys key finds absent put),
    )

pub returns-clause-same : goal.returns-clause-same
returns-clause-same g c clauses counts =
    let s = counted_under c.args.lists.now c.args.disjunctions.now c.args.values.now clauses in
    let keys = c.self.inside.keys.items in
    let at = subst (λ k. Counts k s) (sym c.self.view_is) counts in
    let made = c.in_ok-group.ensures.ok (grouped_by keys s) at.represents (λ k d l. refl) in
    subst (λ ks. Counts (record { keys = ks; counters = c.add_key_group.new.counters }) s)
    (sym c.and-self-inside.ensures) (counts_key _ _ s at c.args.key.now c.requires.known made.1)

pub returns-clause-number : goal.returns-clause-number
returns-clause-number g c =
    c.in_ok-group.ensures.number ∙ (c.self.invariant.0 ∙ ap (λ (k : KeyedCounters). length k.keys) c.self.view_is)
