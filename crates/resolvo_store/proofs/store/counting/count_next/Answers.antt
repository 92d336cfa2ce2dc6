use Rattle.std.proofs.Common.{◌≡◌, ◌∙◌, ◌+◌, ◌++◌, ◌∷◌, [], ap, subst, sym, take, Some}
use Rattle.std.specs.Prelude.{ℕ, slice_get}
use Rattle.resolvo_store.proofs.Words.{counted, Counting, demand_of, Follows, no_false, placed, PlacedDemand}
use Rattle.resolvo_store.proofs.CountedLemmas.{keeps_counted, one_counted}
use Rattle.resolvo_store.proofs.store.counting.count_next.Goals as goal

pub add-requires-clause-groups : goal.add-requires-clause-groups
add-requires-clause-groups g c =
    (c.in_ok-groups.ensures.ready (take c.args.counters.now.known (placed c.args.queue.now.clauses))
    c.requires.counted.follows).can_add

pub returns-in_err-groups-clause-counted : goal.returns-in_err-groups-clause-counted
returns-in_err-groups-clause-counted g c =
    keeps_counted c.prepare.ensures.known.0 (c.prepare.ensures.same _) c.requires.counted

pub returns-clause-counted : goal.returns-clause-counted
returns-clause-counted g c =
    let cs = c.args.queue.now.clauses in
    let es = c.args.trail.now.entries in
    let lists = c.args.lists.now in
    let ds = c.args.disjunctions.now in
    let before = take c.args.counters.now.known (placed cs) in
    let clause = c.in-Some.clause in
    let one : ℕ → PlacedDemand = λ n. record { demand = demand_of clause; first_of_parent = n } in
    let added = c.add.ensures.follows (counted lists ds before no_false) (demand_of clause) es
    (c.in_ok-groups.ensures.ready before c.requires.counted.follows)
    (c.prepare.ensures.same before c.requires.counted.follows) in
    one_counted c.args.counters.now clause (ap (slice_get cs)
    (ap (λ (k : Counting). k.known) (sym c.counters.view_is))
    ∙ (sym c.clause.ensures ∙ c.in-Some.is)) c.requires.some (c.add.ensures.known.0
    ∙ ap (λ n. n + 1) c.prepare.ensures.known.0)
    (subst (λ n. Follows c.add.new.self es (counted lists ds (before ++ one n ∷ []) no_false)) c.first_of.ensures added)
