use Rattle.providers.specs.Conditions.{normal_form}
use Rattle.providers.proofs.ExpansionLaws.{Goes, formula_of, steps_left}
use Rattle.providers.proofs.normal_form.expand_all.Given as goal

abbrev pub invariant-loop-alternative : goal.invariant-loop-alternative
invariant-loop-alternative g l =
    record {
      goes : Goes (g.I.Interner.universe l.interner) (g.met.I.Interner.operands_known l.interner)
          (normal_form (formula_of (g.I.Interner.universe l.interner)
          (g.met.I.Interner.operands_known l.interner) l.fn.condition)) l.expansion.lists l.expansion.alternatives;
    }

abbrev pub decreases-loop-alternative : goal.decreases-loop-alternative
decreases-loop-alternative g l = steps_left
    (formula_of (g.I.Interner.universe l.interner) (g.met.I.Interner.operands_known l.interner))
    l.expansion.alternatives
