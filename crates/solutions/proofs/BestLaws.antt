-- Two choices that are both best have the same ranks.
use Rattle.std.proofs.Common.{◌≡◌, ℕ, zero, suc, ◌+◌, ◌≤◌, List, Some, length, take, get_or, sym, subst, slice_get}
use Rattle.std.proofs.Common.{arith}
use mathlib.Core.Logic.{⊎_elim}
use Rattle.std.proofs.lemmas.List.{take_all}
use Rattle.std.proofs.lemmas.List.Elements.{All-nil, All-more}
use Rattle.std.proofs.lemmas.Option.{slice_get_cases, slice_get-get_or}
use Rattle.solutions.proofs.Words.{Alternative, AreRanksSame, ConditionalRequirement, IsBest, Provider, rank}

alike : (m n : ℕ) → m ≤ n → n ≤ m → m ≡ n
alike m n up down = omega arith

module _ {N S : Type 0} (p : Provider N S) (requested : List ConditionalRequirement)
    (wishes : List (List (Alternative S)))
    (one other : List S) (best : IsBest p requested wishes one) (others : IsBest p requested wishes other) where
  -- by the wishes up to a place
  same_up_to : (n : ℕ) → n ≤ length wishes → AreRanksSame p one other (take n wishes)
      × AreRanksSame p other one (take n wishes)
  same_up_to zero within = (
    All-nil (λ wish. rank p one wish ≡ rank p other wish),
    All-nil (λ wish. rank p other wish ≡ rank p one wish),
  )
  same_up_to (suc n) within =
      let more : n + 1 ≡ suc n = omega arith in
      let before = same_up_to n (omega arith) in
      subst (λ k. AreRanksSame p one other (take k wishes) × AreRanksSame p other one (take k wishes)) more
      (⊎_elim
      (λ found.
      let x = found.0 in
      let wish = get_or wishes n x in
      let at : slice_get wishes n ≡ Some wish = slice_get-get_or wishes n x found.1 in
      let same : rank p one wish ≡ rank p other wish = alike (rank p one wish) (rank p other wish)
      (best.unbeaten n wish at other others.solution before.0)
      (others.unbeaten n wish at one best.solution before.1) in (
        All-more (λ w. rank p one w ≡ rank p other w) wishes n x found.1 before.0 same,
        All-more (λ w. rank p other w ≡ rank p one w) wishes n x found.1 before.1 (sym same),
      ))
      (λ past. let end = past.0 in absurd (omega arith))
      (slice_get_cases wishes n).1)

  -- by each wish
  pub same_ranks : AreRanksSame p one other wishes
  same_ranks =
      let n = length wishes in
      subst (AreRanksSame p one other) (take_all n wishes (omega arith)) (same_up_to n (omega arith)).0
