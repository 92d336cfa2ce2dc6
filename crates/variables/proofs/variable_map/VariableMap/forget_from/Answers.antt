use Rattle.std.proofs.Common.{arith, length-take}
use Rattle.variables.proofs.VariableLemmas.{distinct-take, root-take}
use Rattle.variables.proofs.variable_map.VariableMap.forget_from.Goals as goal

pub invariant_of-self : goal.invariant_of-self
invariant_of-self g c =
    let os = c.self.inside.origins.items in
    rw c.forget_rest.ensures.kept record {
      agrees = rw c.forget_rest.ensures.kept at c.forget_rest.ensures.agrees;
      few = omega (arith, length-take c.args.count os, c.self.invariant.few);
      root_first = root-take c.args.count os c.requires.0 c.self.invariant.root_first;
      distinct = distinct-take g.S.PartialEq.eq c.args.count os c.self.invariant.distinct;
    }
