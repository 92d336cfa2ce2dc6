-- The favored one in front of the others.
use Rattle.std.proofs.Common.{◌≡◌, ℕ, ◌+◌, ◌-◌, ◌<◌, ◌≤◌, Bool, true, false, cond, List, [], ◌∷◌}
use Rattle.std.proofs.Common.{◌++◌, length, take, drop, get_or, Some, suc, ap, sym, ◌∙◌, refl, arith}
use Rattle.std.specs.Prelude.{None}
use Rattle.std.proofs.Math.Seq.{take-append_seam, drop-append_seam}
use Rattle.std.proofs.lemmas.List.{take_more, length-append}
use Rattle.solver_cache.proofs.Words.{from_place, position_from}

module _ {S : Type 0} (same : S → S → Bool) (sameness : (a b : S) → same a b ≡ true → a ≡ b) (s : S) where
  -- at its first place it stands
  pub stands_there : (list : List S) (first place : ℕ) → position_from (λ t. same t s) first list ≡ Some place
      → (first ≤ place) × (place - first < length list) × (get_or list (place - first) s ≡ s)
  stands_there [] first place h = let no : None ≡ Some place = h in cc
  stands_there (t ∷ list) first place h = by_test (same t s) refl (stands_there list (first + 1) place) h
    where
      by_test : (b : Bool) → same t s ≡ b
          → (position_from (λ t. same t s) (first + 1) list ≡ Some place
          → (first + 1 ≤ place) × (place - (first + 1) < length list) × (get_or list (place - (first + 1)) s ≡ s))
          → cond b (Some first) (position_from (λ t. same t s) (first + 1) list) ≡ Some place
          → (first ≤ place) × (place - first < length (t ∷ list)) × (get_or (t ∷ list) (place - first) s ≡ s)
      by_test true e later found =
          let at : first ≡ place = cc in
          let none : place - first ≡ 0 = omega (arith, at) in
          (omega (arith, at), omega (arith, none), ap (λ n. get_or (t ∷ list) n s) none ∙ sameness t s e)
      by_test false e later found =
          let behind = later found in
          let more : place - first ≡ suc (place - (first + 1)) = omega (arith, behind.0) in
          (omega (arith, behind.0), omega (arith, more, behind.1), ap (λ n. get_or (t ∷ list) n s) more ∙ behind.2)

  -- once the items up to it are turned by one, it is in front
  pub brought_forward : (list turned : List S) (place : ℕ) → position_from (λ t. same t s) 0 list ≡ Some place
      → turned ≡ drop (length (take (place + 1) list) - 1) (take (place + 1) list) ++ take
      (length (take (place + 1) list) - 1) (take (place + 1) list)
      → turned ++ drop (place + 1) list ≡ from_place s list (position_from (λ t. same t s) 0 list)
  brought_forward list turned place found is =
      let there = stands_there list 0 place found in
      let all : place - 0 ≡ place = omega arith in
      let next : place + 1 ≡ suc place = omega arith in
      let before = take place list in
      let upto : take (place + 1) list ≡ before ++ s ∷ [] =
      take_more list place s (omega (arith, all, there.1))
      ∙ ap (λ t. before ++ t ∷ []) (ap (λ n. get_or list n s) (sym all) ∙ there.2) in
      let count : length (before ++ s ∷ []) - 1 ≡ length before = omega (arith, length-append before (s ∷ [])) in
      let front : turned ≡ s ∷ before =
      is ∙ ap (λ l. drop (length l - 1) l ++ take (length l - 1) l) upto
      ∙ ap (λ n. drop n (before ++ s ∷ []) ++ take n (before ++ s ∷ [])) count
      ∙ (ap (λ l. l ++ take (length before) (before ++ s ∷ [])) (drop-append_seam before (s ∷ []))
      ∙ ap (λ l. s ∷ l) (take-append_seam before (s ∷ []))) in
      ap (λ l. l ++ drop (place + 1) list) front ∙ ap (λ n. s ∷ (before ++ drop n list)) next
      ∙ sym (ap (from_place s list) found)
