use Rattle.std.proofs.Common.{◌≡◌, ◌∙◌, ◌&&◌, true, get_or, sym, ap, rules}
use Rattle.std.proofs.lemmas.List.{take_all}
use Rattle.std.proofs.lemmas.List.Folds.{list_all_more}
use Rattle.solutions.proofs.Words.{is_kept, list_all}
use Rattle.solutions.specs.Solutions.{has_picked}
use Rattle.solutions.proofs.selection.Selection.has_all.Invariants.{provided}
use Rattle.solutions.proofs.selection.Selection.has_all.Goals as goal

pub loop-set-preserved : goal.loop-set-preserved
loop-set-preserved g c =
    let test = has_picked (provided g c.args.self.now.provider.now)
    (is_kept g.D.SolvableId.PartialEq.eq (g.D.SolvableId.Set.IdSet.has c.args.self.now.picked)
    c.args.self.now.left_out) in
    let sets = c.args.sets.now in
    let i = c.loop-set.set-index in
    let set = get_or sets i (record { 0 = 0 }) in
    let more : c.in_ok-has_picked.field-0 ≡ true = search rules in
    list_all_more test sets i (record { 0 = 0 }) c.loop-set-test.true ∙ ap (λ b. b && test set) c.loop-set.invariant
    ∙ sym c.in_ok-has_picked.ensures.ok ∙ more

pub returns-clause-ok : goal.returns-clause-ok
returns-clause-ok g c =
    let test = has_picked (provided g c.args.self.now.provider.now)
    (is_kept g.D.SolvableId.PartialEq.eq (g.D.SolvableId.Set.IdSet.has c.args.self.now.picked)
    c.args.self.now.left_out) in
    let sets = c.args.sets.now in
    let i = c.loop-set.set-index in
    sym (ap (list_all test) (sym (take_all i sets c.loop-set-test.false)) ∙ c.loop-set.invariant)
