use Rattle.std.proofs.Common.{◌≡◌, true, sym, ap, subst, ◌∙◌}
use Rattle.watch_map.proofs.Words.{Decision, is_true_literal, Trail, val}
use Rattle.watch_map.specs.Visits.{literals_at}
use Rattle.watch_map.proofs.ImplicationLaws.{forces_parts, deciding_open, deciding_true}
use Rattle.watch_map.proofs.saturation.visit.assign_implied.Goals as goal

pub push-requires-clause-undecided : goal.push-requires-clause-undecided
push-requires-clause-undecided g c =
    let es = c.args.trail.now.entries in
    deciding_open es c.args.literal c.new-decision.result
    (ap (λ (d : Decision). d.variable) c.new-decision.ensures ∙ c.variable.ensures)
    (forces_parts (val es) (literals_at c.args.input.now c.args.id) c.args.literal c.requires.is_unit).is_open

pub returns-clause-ok : goal.returns-clause-ok
returns-clause-ok g c =
    let t = c.args.trail.now in
    let made = c.new-decision.ensures in
    subst (λ (x : Trail). is_true_literal (val x.entries) c.args.literal ≡ true) (sym c.in_ok-push.ensures.ok)
    (deciding_true t.entries c.args.literal c.new-decision.result
    (ap (λ (d : Decision). d.variable) made ∙ c.variable.ensures)
    (forces_parts (val t.entries) (literals_at c.args.input.now c.args.id) c.args.literal c.requires.is_unit).is_open
    c.args.input.now.level (ap (λ (d : Decision). d.value) made ∙ c.satisfying_value.ensures))
