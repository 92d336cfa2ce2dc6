use Rattle.std.proofs.Common.{subst}
use Rattle.resolvo_store.proofs.CallerLaws.{solved}
use Rattle.test_store_calls.proofs.Words.{Decide, gathered, next, Provider, Step, store_of}
use Rattle.test_store_calls.proofs.AnswerLaws.{falsified_told}
use Rattle.test_store_calls.proofs.searching.search.Given.{Over}
use Rattle.test_store_calls.proofs.searching.search.Goals as goal

-- the provider's functions
abbrev given : (g : Over) → g.row.D.Denot → Provider g.row.D-NameId.Denot g.row.D-SolvableId.Denot
given g = gathered g.D.NameId.PartialEq.eq g.D.SolvableId.PartialEq.eq g.D.NameId.Slots.IdMap.is_too_large
    g.D.SolvableId.Slots.IdMap.is_too_large g.D.SolvableId.Set.IdSet.is_too_large g.D.NameId.SolverId.are_many
    g.D.Interner.universe g.D.DependencyProvider.answers

pub returns-in-Done : goal.returns-in-Done
returns-in-Done g c =
    let store = store_of (given g) g.D.NameId.Scores.IdMap.value_at in
    let old = store c.loop-level.store in
    let new = store c.decide.new.self in
    solved old new (subst (λ found. Step old Decide (next found) new) c.in-Done.is c.in_ok-chosen.ensures.step)

pub returns-in-Falsified : goal.returns-in-Falsified
returns-in-Falsified g c =
    let store = store_of (given g) g.D.NameId.Scores.IdMap.value_at in
    let old = store c.loop-level.store in
    let new = store c.decide.new.self in
    falsified_told old new c.in-Falsified.clause
    (subst (λ found. Step old Decide (next found) new) c.in-Falsified.is c.in_ok-chosen.ensures.step)
