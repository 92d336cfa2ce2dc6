use Rattle.std.proofs.lemmas.Grind.{common_steps}
use Rattle.std.proofs.Common.{arith, rules, ◌<◌, ◌≡◌, sym, ◌∙◌, None, length, length-append}
use Rattle.variables.specs.Variables.{solvable_of}
use Rattle.variables.proofs.VariableLemmas.{distinct-other, no_solvable, root-append, variable-other}
use Rattle.variables.proofs.variable_map.VariableMap.alloc.Goals as goal

pub invariant_of-self-then-in_range : goal.invariant_of-self-then-in_range
invariant_of-self-then-in_range g c =
    let same = g.S.PartialEq.eq in
    let os = c.self.inside.origins.items in
    let o = c.args.origin in
    let other : solvable_of o ≡ None = no_solvable o c.requires in
    let size : c.len-index.result ≡ length os = c.len-index.ensures ∙ c.self.inside.origins.ok.0 in
    let below : c.len-index.result < 2147483647 = search rules in
    rw c.in_ok-push.ensures.items record {
      agrees = λ s. c.self.invariant.agrees s ∙ sym (variable-other same s o os other);
      few = simp length-append (omega (arith, size, below));
      root_first = root-append os o c.self.invariant.root_first;
      distinct = distinct-other same g.met.S.Eq.laws.refl g.met.S.SameValue.same o os other c.self.invariant.distinct;
    }

pub from_index-requires : goal.from_index-requires
from_index-requires g c = grind (arith, common_steps)

pub returns-in_ok-push-clause-variable : goal.returns-in_ok-push-clause-variable
returns-in_ok-push-clause-variable g c = grind (arith, common_steps)
