use Rattle.std.proofs.Common.{◌≡◌, ◌∙◌, ◌&&◌, true, false, get_or, sym, ap, rules}
use Rattle.std.proofs.lemmas.List.{take_all}
use Rattle.std.proofs.lemmas.List.Folds.{list_all_at, list_all_more}
use Rattle.solutions.proofs.Words.{is_kept, is_respected, list_all}
use Rattle.solutions.proofs.solution.are_respected.Invariants.{provided}
use Rattle.solutions.proofs.solution.are_respected.Goals as goal

pub loop-set-preserved : goal.loop-set-preserved
loop-set-preserved g c =
    let test = is_respected (provided g c.args.selection.now.provider.now)
    (is_kept g.D.SolvableId.PartialEq.eq (g.D.SolvableId.Set.IdSet.has c.args.selection.now.picked)
    c.args.selection.now.left_out) in
    let sets = c.args.sets.now in
    let i = c.loop-set.set-index in
    let set = get_or sets i (record { 0 = 0 }) in
    let more : c.in_ok-respects.field-0 ≡ true = search rules in
    list_all_more test sets i (record { 0 = 0 }) c.loop-set-test.true ∙ ap (λ b. b && test set) c.loop-set.invariant
    ∙ sym c.in_ok-respects.ensures.ok ∙ more

pub returns-then-not-branch : goal.returns-then-not-branch
returns-then-not-branch g c =
    let test = is_respected (provided g c.args.selection.now.provider.now)
    (is_kept g.D.SolvableId.PartialEq.eq (g.D.SolvableId.Set.IdSet.has c.args.selection.now.picked)
    c.args.selection.now.left_out) in
    let sets = c.args.sets.now in
    let i = c.loop-set.set-index in
    let last : c.in_ok-respects.field-0 ≡ false = search rules in
    sym (list_all_at test sets i (record { 0 = 0 }) c.loop-set-test.true (sym c.in_ok-respects.ensures.ok ∙ last))

pub returns : goal.returns
returns g c =
    let test = is_respected (provided g c.args.selection.now.provider.now)
    (is_kept g.D.SolvableId.PartialEq.eq (g.D.SolvableId.Set.IdSet.has c.args.selection.now.picked)
    c.args.selection.now.left_out) in
    let sets = c.args.sets.now in
    let i = c.loop-set.set-index in
    sym (ap (list_all test) (sym (take_all i sets c.loop-set-test.false)) ∙ c.loop-set.invariant)
