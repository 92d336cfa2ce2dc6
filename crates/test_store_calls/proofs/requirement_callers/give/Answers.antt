use Rattle.std.proofs.Common.{◌≡◌, Some, cond, not, subst, inl, inr}
use Rattle.test_store_calls.proofs.Words.{Assign, assignment, Decision, gathered, Provider, Step, store_of, values}
use Rattle.test_store_calls.proofs.AnswerLaws.{given_value, is_given}
use Rattle.test_store_calls.proofs.requirement_callers.give.Given.{Over}
use Rattle.test_store_calls.proofs.requirement_callers.give.Goals as goal

-- the provider's functions
abbrev given : (g : Over) → g.row.D.Denot → Provider g.row.D-NameId.Denot g.row.D-SolvableId.Denot
given g = gathered g.D.NameId.PartialEq.eq g.D.SolvableId.PartialEq.eq g.D.NameId.Slots.IdMap.is_too_large
    g.D.SolvableId.Slots.IdMap.is_too_large g.D.SolvableId.Set.IdSet.is_too_large g.D.NameId.SolverId.are_many
    g.D.Interner.universe g.D.DependencyProvider.answers

pub returns-in-New-clause-given : goal.returns-in-New-clause-given
returns-in-New-clause-given g c =
    let store = store_of (given g) g.D.NameId.Scores.IdMap.value_at in
    let old = store c.args.store.now in
    let new = store c.assign.new.self in
    let v = c.args.variable in
    let value = c.args.value in
    let made = c.in_ok-assign.field-0 in
    let step = subst (λ (d : Decision). Step old (Assign d.variable d.value d.derived_from c.args.level)
    (assignment made) new) c.new.ensures c.in_ok-assign.ensures.step in
    let told = given_value old new v value c.args.clause c.args.level made step in
    elim c.in-New.is [
      | inl is ↦ subst (λ m. values new v ≡ Some (cond (is_given m) value (not value))) is told
      | inr is ↦ subst (λ m. values new v ≡ Some (cond (is_given m) value (not value))) is told
    ]

pub returns-in-Clash-clause-given : goal.returns-in-Clash-clause-given
returns-in-Clash-clause-given g c =
    let store = store_of (given g) g.D.NameId.Scores.IdMap.value_at in
    let old = store c.args.store.now in
    let new = store c.assign.new.self in
    let v = c.args.variable in
    let value = c.args.value in
    let made = c.in_ok-assign.field-0 in
    let step = subst (λ (d : Decision). Step old (Assign d.variable d.value d.derived_from c.args.level)
    (assignment made) new) c.new.ensures c.in_ok-assign.ensures.step in
    subst (λ m. values new v ≡ Some (cond (is_given m) value (not value))) c.in-Clash.is
    (given_value old new v value c.args.clause c.args.level made step)
