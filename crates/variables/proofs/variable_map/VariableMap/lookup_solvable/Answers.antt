use Rattle.std.proofs.Common.{arith, rules, ◌≡◌, sym, ◌∙◌, ap, Some}
use Rattle.variables.specs.Variables.{is_solvable, variable_of_solvable}
use Rattle.variables.proofs.VariableLemmas.{position_within, stands_there}
use Rattle.variables.proofs.variable_map.VariableMap.lookup_solvable.Goals as goal

pub from_index-requires : goal.from_index-requires
from_index-requires g c =
    let same = g.S.PartialEq.eq in
    let there : c.number.result ≡ Some c.in_ok-index.index = search rules in
    let at : variable_of_solvable same c.self.inside.origins.items c.args.solvable ≡ Some c.in_ok-index.index =
    sym (c.self.invariant.agrees c.args.solvable) ∙ sym c.get.ensures ∙ sym c.number.ensures ∙ there in
    omega (
      arith,
      position_within (is_solvable same c.args.solvable) 0 c.in_ok-index.index
          c.self.inside.origins.items at,
      c.self.invariant.few,
    )

pub returns-clause-origin : goal.returns-clause-origin
returns-clause-origin g c =
    let same = g.S.PartialEq.eq in
    let there : c.number.result ≡ Some c.in_ok-index.index = search rules in
    let at : variable_of_solvable same c.args.self.now c.args.solvable ≡ Some c.from_index.result =
    ap (λ os. variable_of_solvable same os c.args.solvable) (sym c.self.view_is)
    ∙ sym (c.self.invariant.agrees c.args.solvable) ∙ sym c.get.ensures ∙ sym c.number.ensures ∙ there
    ∙ ap (λ v. Some v) (sym c.from_index.ensures) in
    stands_there same g.met.S.Eq.laws.refl g.met.S.SameValue.same c.args.solvable c.from_index.result c.args.self.now at
