use Rattle.test_store_calls.proofs.Words.{gathered, Provider, store_of}
use Rattle.test_store_calls.proofs.AnswerLaws.{load_keeps_clauses}
use Rattle.test_store_calls.proofs.requirement_callers.load.Given.{Over}
use Rattle.test_store_calls.proofs.requirement_callers.load.Goals as goal

-- the provider's functions
abbrev given : (g : Over) → g.row.D.Denot → Provider g.row.D-NameId.Denot g.row.D-SolvableId.Denot
given g = gathered g.D.NameId.PartialEq.eq g.D.SolvableId.PartialEq.eq g.D.NameId.Slots.IdMap.is_too_large
    g.D.SolvableId.Slots.IdMap.is_too_large g.D.SolvableId.Set.IdSet.is_too_large g.D.NameId.SolverId.are_many
    g.D.Interner.universe g.D.DependencyProvider.answers

pub returns-clause-clauses : goal.returns-clause-clauses
returns-clause-clauses g c =
    let store = store_of (given g) g.D.NameId.Scores.IdMap.value_at in
    load_keeps_clauses (store c.args.store.now) (store c.load.new.self) c.args.requirement c.load.result
    c.load.ensures.kept c.load.ensures.refused
