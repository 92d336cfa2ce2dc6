use Rattle.std.proofs.Common.{◌∙◌, subst}
use Rattle.providers.specs.Conditions.{normal_form}
use Rattle.providers.proofs.ExpansionLaws.{Goes, formula_of, begins, turned, kept, ends}
use Rattle.providers.proofs.normal_form.expand_all.Goals as goal

pub loop-alternative-init : goal.loop-alternative-init
loop-alternative-init g c =
    record {
      goes = rw (c.in_ok-begin.ensures.ok, c.requires.empty)
          (begins (g.I.Interner.universe c.args.interner.now)
          (g.met.I.Interner.operands_known c.args.interner.now) c.args.condition c.requires.known);
    }

pub loop-alternative-preserved-in-Continue-branch-2 : goal.loop-alternative-preserved-in-Continue-branch-2
loop-alternative-preserved-in-Continue-branch-2 g c = record {
  goes =
      (turned (g.I.Interner.universe c.args.interner.now) (g.met.I.Interner.operands_known c.args.interner.now)
      (normal_form (formula_of (g.I.Interner.universe c.args.interner.now)
      (g.met.I.Interner.operands_known c.args.interner.now) c.args.condition))
      c.loop-alternative.expansion c.take_next.new.self c.expand.new.self c.in-Some.alternative c.next.new.self
      c.in-Some-next.condition c.resolve_condition.result
      c.in-Some.ensures.alternatives c.in-Some.ensures.lists c.in-Some-next.ensures.sets
      c.in-Some-next.ensures.pending c.resolve_condition.ensures
      c.in_ok-expand-in-Some-next.ensures.ok c.loop-alternative.invariant.goes).0;
}

pub loop-alternative-smaller-in-Continue-branch-2 : goal.loop-alternative-smaller-in-Continue-branch-2
loop-alternative-smaller-in-Continue-branch-2 g c =
    (turned (g.I.Interner.universe c.args.interner.now) (g.met.I.Interner.operands_known c.args.interner.now)
    (normal_form (formula_of (g.I.Interner.universe c.args.interner.now)
    (g.met.I.Interner.operands_known c.args.interner.now) c.args.condition))
    c.loop-alternative.expansion c.take_next.new.self c.expand.new.self c.in-Some.alternative c.next.new.self
    c.in-Some-next.condition c.resolve_condition.result
    c.in-Some.ensures.alternatives c.in-Some.ensures.lists c.in-Some-next.ensures.sets c.in-Some-next.ensures.pending
    c.resolve_condition.ensures
    c.in_ok-expand-in-Some-next.ensures.ok c.loop-alternative.invariant.goes).1

pub loop-alternative-preserved : goal.loop-alternative-preserved
loop-alternative-preserved g c = record {
  goes =
      (kept (g.I.Interner.universe c.args.interner.now) (g.met.I.Interner.operands_known c.args.interner.now)
      (normal_form (formula_of (g.I.Interner.universe c.args.interner.now)
      (g.met.I.Interner.operands_known c.args.interner.now) c.args.condition))
      c.loop-alternative.expansion c.take_next.new.self c.finish.new.self c.in-Some.alternative c.next.new.self
      c.in-Some.ensures.alternatives c.in-Some.ensures.lists c.in-None.ensures.sets c.in-None.ensures.none
      c.in_ok-finish-in-None.ensures.ok c.loop-alternative.invariant.goes).0;
}

pub loop-alternative-smaller : goal.loop-alternative-smaller
loop-alternative-smaller g c =
    (kept (g.I.Interner.universe c.args.interner.now) (g.met.I.Interner.operands_known c.args.interner.now)
    (normal_form (formula_of (g.I.Interner.universe c.args.interner.now)
    (g.met.I.Interner.operands_known c.args.interner.now) c.args.condition))
    c.loop-alternative.expansion c.take_next.new.self c.finish.new.self c.in-Some.alternative c.next.new.self
    c.in-Some.ensures.alternatives c.in-Some.ensures.lists c.in-None.ensures.sets c.in-None.ensures.none
    c.in_ok-finish-in-None.ensures.ok c.loop-alternative.invariant.goes).1

pub returns-clause-form : goal.returns-clause-form
returns-clause-form g c f denotes =
    c.in_default.ensures.lists
    ∙ ends (g.I.Interner.universe c.args.interner.now)
    (g.met.I.Interner.operands_known c.args.interner.now) c.args.condition c.loop-alternative.expansion.lists
    f c.requires.known
    (subst (Goes (g.I.Interner.universe c.args.interner.now) (g.met.I.Interner.operands_known c.args.interner.now)
    (normal_form (formula_of (g.I.Interner.universe c.args.interner.now)
    (g.met.I.Interner.operands_known c.args.interner.now) c.args.condition)) c.loop-alternative.expansion.lists)
    c.in_default.ensures.none c.loop-alternative.invariant.goes) denotes
