use Rattle.std.proofs.Common.{◌≡◌, ◌∙◌, ◌<◌, true, length, ltb-true, refl, rules, ap, subst, sym, take, arith}
use Rattle.std.specs.Prelude.{Some, slice_get}
use Rattle.std.proofs.Math.Path.{fun_ext}
use Rattle.std.proofs.lemmas.List.{take_all}
use Rattle.std.proofs.lemmas.List.Elements.{All-nil}
use Rattle.std.proofs.lemmas.Option.{slice_get-get_or, slice_get_read}
use Rattle.solutions.proofs.Words.{All, alternatives_of, is_among, is_kept, IsCausedBy, IsNeeded}
use Rattle.solutions.proofs.DecisionLemmas.{next_holds}
use Rattle.solutions.proofs.NeededLemmas.{caused_all, caused_next, needed_by}
use Rattle.solutions.proofs.needed.are_needed.Invariants.{provided}
use Rattle.solutions.proofs.needed.are_needed.Goals as goal

pub loop-place-init : goal.loop-place-init
loop-place-init g c = record {
  caused = λ place solvable less. absurd (omega arith);
  needed = All-nil (IsNeeded (provided g c.args.provider.now) c.args.request.now.requirements.now
      (alternatives_of c.args.request.now.wishes.now) c.args.picked.now);
}

pub loop-place-preserved : goal.loop-place-preserved
loop-place-preserved g c =
    let p = provided g c.args.provider.now in
    let picked = c.args.picked.now in
    let requirements = c.args.request.now.requirements.now in
    let wishes = alternatives_of c.args.request.now.wishes.now in
    let place = c.loop-place.place in
    let x = c.index-picked-place.result in
    let cause = c.in-Some.cause.now in
    let selection = c.in_ok-selection.selection in
    let has = is_kept g.D.SolvableId.PartialEq.eq (g.D.SolvableId.Set.IdSet.has selection.picked) selection.left_out in
    let before = c.before-in-loop-place.result.now in
    let yes : c.in_ok-is_caused_by.field-0 ≡ true = search rules in
    let selected : IsCausedBy (provided g selection.provider.now) has requirements wishes before cause x =
    c.in_ok-is_caused_by.ensures yes in
    let given : IsCausedBy p has requirements wishes before cause x =
    subst (λ provider. IsCausedBy (provided g provider) has requirements wishes before cause x)
    c.in_ok-selection.ensures.provider selected in
    let among : IsCausedBy p (is_among p picked) requirements wishes before cause x =
    subst (λ h. IsCausedBy p h requirements wishes before cause x) (fun_ext c.in_ok-selection.ensures.picked) given in
    let caused : IsCausedBy p (is_among p picked) requirements wishes (take place picked) cause x =
    subst (λ list. IsCausedBy p (is_among p picked) requirements wishes list cause x) c.before-in-loop-place.ensures
    among in
    let causes = c.args.causes.now in
    let so_far = c.loop-place.invariant in
    let at : slice_get picked place ≡ Some x =
    slice_get-get_or picked place x c.loop-place-test.true ∙ ap Some (sym c.index-picked-place.is) in
    let below : place < length causes = ltb-true place (length causes) (sym c.in-Some.ensures.lookup.0) in
    let its : slice_get causes place ≡ Some cause =
    slice_get_read causes (length causes) place cause refl below c.in-Some.ensures.lookup.1 in
    record {
      caused = caused_next p requirements wishes picked causes place x at (cause, its, caused) so_far.caused;
      needed = next_holds (IsNeeded p requirements wishes picked) picked place x c.loop-place-test.true
          c.index-picked-place.is
          (needed_by p requirements wishes picked place so_far.needed cause x caused) so_far.needed;
    }

pub returns-clause-caused : goal.returns-clause-caused
returns-clause-caused g c =
    let p = provided g c.args.provider.now in
    λ e. caused_all p c.args.request.now.requirements.now (alternatives_of c.args.request.now.wishes.now)
    c.args.picked.now c.args.causes.now
    c.loop-place.place c.loop-place-test.false c.loop-place.invariant.caused

pub returns-clause-needed : goal.returns-clause-needed
returns-clause-needed g c =
    let p = provided g c.args.provider.now in
    let picked = c.args.picked.now in
    λ e. subst (All (IsNeeded p c.args.request.now.requirements.now
    (alternatives_of c.args.request.now.wishes.now) picked))
    (take_all c.loop-place.place picked c.loop-place-test.false) c.loop-place.invariant.needed
