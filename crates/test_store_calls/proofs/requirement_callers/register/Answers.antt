use Rattle.std.proofs.Common.{None, refl}
use Rattle.test_store_calls.proofs.Words.{gathered, Provider, Requires, store_of}
use Rattle.test_store_calls.proofs.AnswerLaws.{on_error, refused_stays, registered}
use Rattle.test_store_calls.proofs.requirement_callers.register.Given.{Over}
use Rattle.test_store_calls.proofs.requirement_callers.register.Goals as goal

-- the provider's functions
abbrev given : (g : Over) → g.row.D.Denot → Provider g.row.D-NameId.Denot g.row.D-SolvableId.Denot
given g = gathered g.D.NameId.PartialEq.eq g.D.SolvableId.PartialEq.eq g.D.NameId.Slots.IdMap.is_too_large
    g.D.SolvableId.Slots.IdMap.is_too_large g.D.SolvableId.Set.IdSet.is_too_large g.D.NameId.SolverId.are_many
    g.D.Interner.universe g.D.DependencyProvider.answers

pub returns-clause-added : goal.returns-clause-added
returns-clause-added g c =
    let store = store_of (given g) g.D.NameId.Scores.IdMap.value_at in
    let added = c.in_ok-added.added in
    registered (store c.args.store.now) (store c.requires_clause.new.self) c.args.parent c.args.requirement
    added.clause added.is_conflict c.in_ok-added.ensures.step

pub returns-in_err-added-clause-refused : goal.returns-in_err-added-clause-refused
returns-in_err-added-clause-refused g c =
    let store = store_of (given g) g.D.NameId.Scores.IdMap.value_at in
    let old = store c.args.store.now in
    let new = store c.requires_clause.new.self in
    on_error _ c.from_residual.result (refused_stays old new
    (Requires c.args.parent c.args.requirement None) _ refl c.in_err-added.ensures.step)
