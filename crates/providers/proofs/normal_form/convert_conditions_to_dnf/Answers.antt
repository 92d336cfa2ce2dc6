use Rattle.std.proofs.Common.{ap, ◌∙◌}
use Rattle.providers.specs.Conditions.{form_holds}
use Rattle.providers.proofs.ConditionLaws.{is_formula, form_keeps_truth}
use Rattle.providers.proofs.normal_form.convert_conditions_to_dnf.Goals as goal

pub returns-in-Ok-clause-written : goal.returns-in-Ok-clause-written
returns-in-Ok-clause-written g c = is_formula (g.I.Interner.universe c.args.interner.now)
    (g.met.I.Interner.operands_known c.args.interner.now) c.args.condition c.requires

pub returns-in-Err-clause-written : goal.returns-in-Err-clause-written
returns-in-Err-clause-written g c = is_formula (g.I.Interner.universe c.args.interner.now)
    (g.met.I.Interner.operands_known c.args.interner.now) c.args.condition c.requires

pub returns-in-Ok-clause-truth : goal.returns-in-Ok-clause-truth
returns-in-Ok-clause-truth g c f denotes holds =
    ap (form_holds holds) (c.into_lists.ensures ∙ c.in-Ok.ensures.form f denotes) ∙ form_keeps_truth holds f
