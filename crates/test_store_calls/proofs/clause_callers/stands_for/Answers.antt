use Rattle.std.proofs.Common.{◌∙◌}
use Rattle.test_store_calls.proofs.Words.{gathered, Provider, store_of}
use Rattle.test_store_calls.proofs.ClauseLaws.{helper_stands}
use Rattle.test_store_calls.proofs.clause_callers.stands_for.Given.{Over}
use Rattle.test_store_calls.proofs.clause_callers.stands_for.Goals as goal

-- the provider's functions
abbrev given : (g : Over) → g.row.D.Denot → Provider g.row.D-NameId.Denot g.row.D-SolvableId.Denot
given g = gathered g.D.NameId.PartialEq.eq g.D.SolvableId.PartialEq.eq g.D.NameId.Slots.IdMap.is_too_large
    g.D.SolvableId.Slots.IdMap.is_too_large g.D.SolvableId.Set.IdSet.is_too_large g.D.NameId.SolverId.are_many
    g.D.Interner.universe g.D.DependencyProvider.answers

pub returns : goal.returns
returns g c =
    let store = store_of (given g) g.D.NameId.Scores.IdMap.value_at in
    c.origin.ensures
    ∙ helper_stands (store c.args.store.now) (store c.helper.new.self) c.args.origin c.in_ok-variable.variable
    c.in_ok-variable.ensures.step
