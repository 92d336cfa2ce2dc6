-- What can't be left out.
use Rattle.std.proofs.Common.{◌≡◌, ◌∙◌, ℕ, Bool, true, false, not, ◌&&◌, List, [], ◌∷◌, map, ap, refl, sym, subst}
use Rattle.std.proofs.Common.{true≢false, nat_eq}
use Rattle.std.proofs.lemmas.Bool.Decides.{Decides-eqb, Decides-like}
use Rattle.std.proofs.lemmas.List.Elements.{All-cons, All-head, All-nil, All-tail}
use Rattle.std.proofs.lemmas.List.Folds.{Any-from_list_any}
use Rattle.std.proofs.lemmas.Slice.Eq.{slice_eq-Decides}
use Rattle.std.proofs.Math.Path.{fun_ext}
use Rattle.std.proofs.lemmas.Map.Views.{any-filter_same}
use Rattle.std.proofs.lemmas.Option.{get_or_from_slice_get, slice_get_within}
use Rattle.std.specs.Prelude.{Some, slice_get}
use Rattle.solutions.proofs.Words.{All, Alternative, AreNeedsSatisfied, AreRanksSame, ConditionalRequirement, Decides}
use Rattle.solutions.proofs.Words.{filter, is_among, is_kept, IsNoSolution, IsSatisfied, list_any, pointwise, Provider}
use Rattle.solutions.proofs.Words.{rank}
use Rattle.solutions.proofs.DecisionLemmas.{refuted}

pub not_true : (b : Bool) → not b ≡ true → b ≡ false
not_true true e = absurd (true≢false (sym e))
not_true false e = refl

pub not_false : (b : Bool) → not b ≡ false → b ≡ true
not_false true e = refl
not_false false e = absurd (true≢false e)

module _ {X Y : Type 0} (f g : X → Y) where
  -- two functions that agree at each member
  pub agree_from_maps : (xs : List X) → map f xs ≡ map g xs → All (λ x. f x ≡ g x) xs
  agree_from_maps [] e = All-nil (λ x. f x ≡ g x)
  agree_from_maps (x ∷ xs) e =
      let first : f x ≡ g x = cc in
      let others : map f xs ≡ map g xs = cc in
      All-cons (λ x. f x ≡ g x) x xs first (agree_from_maps xs others)

  pub maps_from_agree : (xs : List X) → All (λ x. f x ≡ g x) xs → map f xs ≡ map g xs
  maps_from_agree [] all = refl
  maps_from_agree (x ∷ xs) all =
      let first : f x ≡ g x = All-head (λ x. f x ≡ g x) x xs all in
      let others : map f xs ≡ map g xs = maps_from_agree xs (All-tail (λ x. f x ≡ g x) x xs all) in
      cc

module _ {N S : Type 0} (p : Provider N S) where
  -- whether two choices have the same ranks, from the lists of them
  pub ranks_decide : (picked other : List S) (wishes : List (List (Alternative S))) (of_one of_other : List ℕ)
      → of_one ≡ map (rank p picked) wishes → of_other ≡ map (rank p other) wishes
      → Decides (pointwise nat_eq of_one of_other) (AreRanksSame p picked other wishes)
  ranks_decide picked other wishes of_one of_other one_is other_is =
      Decides-like {P = of_one ≡ of_other} (pointwise nat_eq of_one of_other)
      (λ e. agree_from_maps (rank p picked) (rank p other) wishes (sym one_is ∙ e ∙ other_is))
      (λ all. one_is ∙ maps_from_agree (rank p picked) (rank p other) wishes all ∙ sym other_is)
      (slice_eq-Decides {E = nat_eq} Decides-eqb of_one of_other (pointwise nat_eq of_one of_other) refl)

  module _ (requested : List ConditionalRequirement) (has : S → Bool) where
    -- what doesn't satisfy the requirement at a place is no solution
    pub requirement_fails : (place : ℕ) (c : ConditionalRequirement) → slice_get requested place ≡ Some c →
        (b : Bool) → b ≡ false
        → Decides b (IsSatisfied p has c) → IsNoSolution p requested has
    requirement_fails place c at b is_false decides = λ rest is solution.
        let here : IsSatisfied p (is_among p rest) c =
        subst (IsSatisfied p (is_among p rest)) (get_or_from_slice_get requested place c c at)
        (solution.satisfied place c (slice_get_within requested place c at)) in
        refuted is_false decides (subst (λ h. IsSatisfied p h c) (sym (fun_ext is)) here)

    -- what doesn't satisfy the needs of one of its own is no solution
    pub needs_fail : ((s t : S) → p.same_solvable s t ≡ true → s ≡ t) → (parent : S) → has parent ≡ true →
        (b : Bool) → b ≡ false
        → Decides b (AreNeedsSatisfied p has (p.answers.needs parent)) → IsNoSolution p requested has
    needs_fail equal parent among b is_false decides = λ rest is solution.
        let found : list_any (p.same_solvable parent) rest ≡ true = sym (is parent) ∙ among in
        let any = Any-from_list_any (p.same_solvable parent) rest found in
        let k = any.0 in
        let x = any.1 in
        let same : x ≡ parent = sym (equal parent x any.4) in
        let Satisfied : S → Type 0 = λ s. AreNeedsSatisfied p (is_among p rest) (p.answers.needs s) in
        let here : Satisfied parent = subst Satisfied (any.3 ∙ same) (solution.needs_satisfied k x any.2) in
        refuted is_false decides (subst (λ h. AreNeedsSatisfied p h (p.answers.needs parent)) (sym (fun_ext is)) here)

-- a set of solvables from which one is left out has the others
pub others_kept : {S : Type 0} (same : S → S → Bool) → ((s t : S) → same s t ≡ true → s ≡ t) →
    (has : S → Bool) (solvables : List S) (left_out : S)
    → ((s : S) → has s ≡ list_any (same s) solvables) → (s : S)
    → is_kept same has (Some left_out) s ≡ list_any (same s) (filter (λ t. not (same t left_out)) solvables)
others_kept same equal has solvables left_out is s =
    ap (λ b. not (same s left_out) && b) (is s)
    ∙ sym (any-filter_same (same s) (λ t. not (same t left_out)) (not (same s left_out))
    (λ t e. ap (λ u. not (same u left_out)) (sym (equal s t e))) solvables)
