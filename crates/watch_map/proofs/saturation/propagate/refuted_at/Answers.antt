use Rattle.std.proofs.Common.{◌≡◌, ◌∙◌, sym, ap, subst, true}
use Rattle.watch_map.proofs.Words.{is_false_literal, refuted_literal, val}
use Rattle.watch_map.proofs.ValueLaws.{val_at, refuted_is_false}
use Rattle.watch_map.proofs.RoundLaws.{has_entry, decision_at}
use Rattle.watch_map.proofs.saturation.propagate.refuted_at.Goals as goal

pub returns-clause-entry : goal.returns-clause-entry
returns-clause-entry g c e at =
    c.new.ensures ∙ ap refuted_literal (decision_at c.args.trail.now.entries c.assignments.result.now c.args.place e
    c.index-assignments-place.result c.assignments.ensures.decisions at c.index-assignments-place.is)

pub returns-clause-is_false : goal.returns-clause-is_false
returns-clause-is_false g c =
    let es = c.args.trail.now.entries in
    let has = has_entry es c.args.place c.requires in
    let same = decision_at es c.assignments.result.now c.args.place has.0 c.index-assignments-place.result
    c.assignments.ensures.decisions has.1 c.index-assignments-place.is in
    subst (λ x. is_false_literal (val es) x ≡ true) (sym (c.new.ensures ∙ ap refuted_literal same))
    (refuted_is_false (val es) has.0.decision (val_at es c.args.place has.0 c.assignments.ensures.trail.once has.1))
