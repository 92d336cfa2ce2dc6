use Rattle.test_store_calls.proofs.Words.{gathered, Provider, store_of}
use Rattle.test_store_calls.proofs.ClauseLaws.{excluded_literals, found_some, found_same}
use Rattle.test_store_calls.proofs.clause_callers.exclude.Given.{Over}
use Rattle.test_store_calls.proofs.clause_callers.exclude.Goals as goal

-- the provider's functions
abbrev given : (g : Over) → g.row.D.Denot → Provider g.row.D-NameId.Denot g.row.D-SolvableId.Denot
given g = gathered g.D.NameId.PartialEq.eq g.D.SolvableId.PartialEq.eq g.D.NameId.Slots.IdMap.is_too_large
    g.D.SolvableId.Slots.IdMap.is_too_large g.D.SolvableId.Set.IdSet.is_too_large g.D.NameId.SolverId.are_many
    g.D.Interner.universe g.D.DependencyProvider.answers

pub returns-clause-known : goal.returns-clause-known
returns-clause-known g c =
    let store = store_of (given g) g.D.NameId.Scores.IdMap.value_at in
    let added = c.in_ok-added.added in
    found_some c.literals.result (λ literals. literals.items) _ _ c.literals.ensures.ok
    (excluded_literals (store c.args.store.now) (store c.exclude.new.self) c.args.variable c.args.reason added.clause
    added.is_conflict c.in_ok-added.ensures.step)

pub returns-clause-literals : goal.returns-clause-literals
returns-clause-literals g c =
    let store = store_of (given g) g.D.NameId.Scores.IdMap.value_at in
    let added = c.in_ok-added.added in
    found_same c.literals.result (λ literals. literals.items) _ _ c.literals.ensures.ok
    (excluded_literals (store c.args.store.now) (store c.exclude.new.self) c.args.variable c.args.reason added.clause
    added.is_conflict c.in_ok-added.ensures.step)
