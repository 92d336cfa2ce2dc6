use Rattle.std.proofs.Common.{◌≡◌, ◌∙◌, sym, ap, length, Some, None}
use Rattle.variables.specs.Forgetting.{forgotten}
use Rattle.variables.specs.Variables.{solvable_of, variable_of_solvable}
use Rattle.variables.proofs.VariableLemmas.{variable-forgotten, variable-other}
use Rattle.variables.proofs.forget.forget_last.Goals as goal

pub returns-in-Some-as_solvable-clause-agrees : goal.returns-in-Some-as_solvable-clause-agrees
returns-in-Some-as_solvable-clause-agrees g c s =
    let same = g.S.PartialEq.eq in
    let x = c.in-Some-as_solvable.solvable in
    let is : solvable_of c.in-Some.last ≡ Some x = ap solvable_of (sym c.origin.ensures) ∙ sym c.as_solvable.ensures
    ∙ c.in-Some-as_solvable.is in
    let size : c.len.result ≡ length c.pop.new.self.items = c.len.ensures ∙ c.pop.new.self.ok.0 in
    c.forget_solvable.ensures s
    ∙ ap (forgotten (same x s) c.len.result) (c.requires.agrees s
    ∙ ap (λ l. variable_of_solvable same l s) c.in-Some.ensures.items)
    ∙ variable-forgotten same s x c.len.result c.in-Some.last c.pop.new.self.items is size

pub returns-in_default-clause-agrees : goal.returns-in_default-clause-agrees
returns-in_default-clause-agrees g c s =
    let same = g.S.PartialEq.eq in
    let other : solvable_of c.in-Some.last ≡ None = ap solvable_of (sym c.origin.ensures) ∙ sym c.as_solvable.ensures
    ∙ c.in_default.is in
    c.requires.agrees s ∙ ap (λ l. variable_of_solvable same l s) c.in-Some.ensures.items
    ∙ variable-other same s c.in-Some.last c.pop.new.self.items other
