use Rattle.std.proofs.Common.{◌≡◌, ◌∙◌, true, false, map, ap, rules, refl, subst}
use Rattle.std.proofs.Math.Path.{fun_ext}
use Rattle.std.proofs.lemmas.List.{take_all}
use Rattle.std.proofs.lemmas.List.Elements.{All-nil}
use Rattle.std.proofs.lemmas.Option.{slice_get_read}
use Rattle.std.specs.Prelude.{length}
use Rattle.solutions.proofs.Words.{All, alternatives_of, Decides, is_kept, IsSpare, list_any, rank_by}
use Rattle.solutions.proofs.DecisionLemmas.{next_holds, refuted}
use Rattle.solutions.proofs.SpareLemmas.{others_kept}
use Rattle.solutions.proofs.spare.find_spare.Invariants.{provided}
use Rattle.solutions.proofs.spare.find_spare.Goals as goal

pub loop-place-init : goal.loop-place-init
loop-place-init g c =
    let request = c.args.request.now in
    let picked = c.args.picked.now in
    let selection = c.in_ok-selection.selection in
    let same = g.D.SolvableId.PartialEq.eq in
    let has = g.D.SolvableId.Set.IdSet.has selection.picked in
    record {
      none = All-nil (λ s. IsSpare (provided g c.args.provider.now) request.requirements.now
          (alternatives_of request.wishes.now) picked s → ⊥);
      kept = subst (λ left_out. (s : g.row.D-SolvableId.Denot) → is_kept same has left_out s ≡ list_any (same s) picked)
          c.in_ok-selection.ensures.left_out c.in_ok-selection.ensures.picked;
      provider = c.in_ok-selection.ensures.provider;
    }

pub is_spare-requires-clause-rest : goal.is_spare-requires-clause-rest
is_spare-requires-clause-rest g c =
    others_kept g.D.SolvableId.PartialEq.eq g.met.D.SolvableId.SameValue.same
    (g.D.SolvableId.Set.IdSet.has c.loop-place.selection.picked) c.args.picked.now
    c.index-picked-place.result c.loop-place.invariant.kept

pub is_spare-requires-clause-ranks : goal.is_spare-requires-clause-ranks
is_spare-requires-clause-ranks g c =
    let wishes = alternatives_of c.args.request.now.wishes.now in
    c.in_ok-ranks.ensures ∙ ap (λ h. map (rank_by h) wishes) (fun_ext c.in_ok-selection.ensures.picked)

pub loop-place-preserved : goal.loop-place-preserved
loop-place-preserved g c =
    let request = c.args.request.now in
    let picked = c.args.picked.now in
    let b = c.in_ok-is_spare.field-0 in
    let no : b ≡ false = search rules in
    let Spare = λ (provider : g.row.D.Denot). IsSpare (provided g provider) request.requirements.now
    (alternatives_of request.wishes.now) picked in
    let decides = subst (λ provider. Decides b (Spare provider c.index-picked-place.result))
    c.loop-place.invariant.provider c.in_ok-is_spare.ensures in
    record {
      none = next_holds (λ s. Spare c.args.provider.now s → ⊥) picked c.loop-place.place c.index-picked-place.result
          c.loop-place-test.true
          c.index-picked-place.is (refuted no decides) c.loop-place.invariant.none;
      kept = c.loop-place.invariant.kept;
      provider = c.loop-place.invariant.provider;
    }

pub returns-then-branch-clause-spare : goal.returns-then-branch-clause-spare
returns-then-branch-clause-spare g c =
    let picked = c.args.picked.now in
    let request = c.args.request.now in
    let x = c.index-picked-place.result in
    let b = c.in_ok-is_spare.field-0 in
    let yes : b ≡ true = search rules in
    let decides = subst (λ provider. Decides b (IsSpare (provided g provider) request.requirements.now
    (alternatives_of request.wishes.now) picked x))
    c.loop-place.invariant.provider c.in_ok-is_spare.ensures in (
      x,
      slice_get_read picked (length picked) c.loop-place.place x refl c.loop-place-test.true
          c.index-picked-place.is,
      decides.0 yes,
    )

pub returns-clause-none : goal.returns-clause-none
returns-clause-none g c =
    let p = provided g c.args.provider.now in
    let request = c.args.request.now in
    λ e. subst (All (λ s. IsSpare p request.requirements.now
    (alternatives_of request.wishes.now) c.args.picked.now s → ⊥))
    (take_all c.loop-place.place c.args.picked.now c.loop-place-test.false) c.loop-place.invariant.none
