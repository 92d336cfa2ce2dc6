-- How many are false before the first that is true.
use Rattle.std.proofs.Common.{◌≡◌, ◌∙◌, ℕ, zero, suc, ◌+◌, ◌<◌, ◌≤◌, Bool, true, false, ◌||◌, List, [], ◌∷◌, ◌++◌}
use Rattle.std.proofs.Common.{length, map, take, get_or, ap, refl, sym, true≢false, add-one, arith}
use Rattle.std.proofs.Common.{inl, inr}
use Rattle.std.specs.Prelude.{◌⊎◌}
use mathlib.Core.Logic.{⊎_elim}
use Rattle.std.proofs.lemmas.List.{map_more}
use Rattle.std.proofs.lemmas.Simd.{map-map}
use Rattle.solutions.proofs.Words.{Alternative, alternatives_of, before_true, list_any, Wish}

-- by a test
module _ {X : Type 0} (test : X → Bool) where
  -- none
  pub before_none : (xs : List X) → list_any test xs ≡ false → before_true (map test xs) ≡ length xs
  before_none [] none = refl
  before_none (x ∷ xs) none =
      (elim (test x) as (λ b. test x ≡ b → (b || list_any test xs) ≡ false →
      before_true (b ∷ map test xs) ≡ suc (length xs)) [
        | true ↦ λ e h. absurd (true≢false h)
        | false ↦ λ e h. ap suc (before_none xs h)
      ]) refl none

  -- the first
  pub before_first : (xs : List X) (i : ℕ) (d : X) → i < length xs → list_any test (take i xs) ≡ false →
      test (get_or xs i d) ≡ true
      → before_true (map test xs) ≡ i
  before_first [] i d below none is = absurd (omega arith)
  before_first (x ∷ xs) zero d below none is = ap (λ b. before_true (b ∷ map test xs)) is
  before_first (x ∷ xs) (suc i) d below none is =
      (elim (test x) as (λ b. test x ≡ b → (b || list_any test (take i xs)) ≡ false →
      before_true (b ∷ map test xs) ≡ suc i) [
        | true ↦ λ e h. absurd (true≢false h)
        | false ↦ λ e h. ap suc (before_first xs i d (omega arith) h is)
      ]) refl none

  -- one more is false
  pub before_more : (xs : List X) (i : ℕ) (x : X) → i < length xs → x ≡ get_or xs i x → test x ≡ false →
      i ≤ before_true (map test xs)
      → i + 1 ≤ before_true (map test xs)
  before_more [] i x below is fails so_far = absurd (omega arith)
  before_more (y ∷ ys) zero x below is fails so_far =
      let no : test y ≡ false = ap test (sym is) ∙ fails in
      let next : before_true (map test (y ∷ ys)) ≡ suc (before_true (map test ys)) =
      ap (λ b. before_true (b ∷ map test ys)) no in
      omega arith
  before_more (y ∷ ys) (suc i) x below is fails so_far =
      (elim (test y) as (λ b. suc i ≤ before_true (b ∷ map test ys) → suc i + 1 ≤ before_true (b ∷ map test ys)) [
        | true ↦ λ h. absurd (omega arith)
        | false ↦ λ h. let rest = before_more ys i x (omega arith) is fails (omega arith) in omega arith
      ]) so_far

  -- the one that is found is true
  pub before_at : (xs : List X) (i : ℕ) (x : X) → i < length xs → x ≡ get_or xs i x → before_true (map test xs) ≡ i →
      test x ≡ true
  before_at [] i x below is found = absurd (omega arith)
  before_at (y ∷ ys) zero x below is found =
      (elim (test y) as (λ b. test y ≡ b → before_true (b ∷ map test ys) ≡ zero → test x ≡ true) [
        | true ↦ λ e h. ap test is ∙ e
        | false ↦ λ e h. absurd (omega arith)
      ]) refl found
  before_at (y ∷ ys) (suc i) x below is found =
      (elim (test y) as (λ b. before_true (b ∷ map test ys) ≡ suc i → test x ≡ true) [
        | true ↦ λ h. absurd (omega arith)
        | false ↦ λ h. before_at ys i x (omega arith) is (omega arith)
      ]) found

-- up to a rank: the same, or both above it
pub before_taken : (bs : List Bool) (n : ℕ) → (before_true (take (n + 1) bs) ≡ before_true bs)
    ⊎ ((n < before_true (take (n + 1) bs)) × (n < before_true bs))
before_taken [] n = rw add-one (inl refl)
before_taken (true ∷ bs) n = rw add-one (inl refl)
before_taken (false ∷ bs) zero = inr (omega arith, omega arith)
before_taken (false ∷ bs) (suc n) =
    let is : suc n + 1 ≡ suc (n + 1) = omega arith in
    rw is (⊎_elim (λ same. inl (ap suc same)) (λ above. let low = above.0 in let high = above.1 in
    inr (omega arith, omega arith)) (before_taken bs n))

-- one more wish, by a function of alternatives
pub ranks_more : {S A : Type 0} (rank_of : List (Alternative S) →
    ℕ) (wishes : List (Wish S A)) (i : ℕ) (wish : Wish S A) (ranks next : List ℕ) (n : ℕ)
    → i < length wishes → wish ≡ get_or wishes i wish → next ≡ ranks ++ n ∷ [] → n ≡ rank_of wish.alternatives.items
    → ranks ≡ map rank_of (alternatives_of (take i wishes)) → next ≡ map rank_of (alternatives_of (take (i + 1) wishes))
ranks_more {S} {A} rank_of wishes i wish ranks next n below is pushed same so_far =
    let f = λ (w : Wish S A). rank_of w.alternatives.items in
    let items = λ (w : Wish S A). w.alternatives.items in
    pushed ∙ ap (λ ns. ns ++ n ∷ []) (so_far ∙ map-map rank_of items (take i wishes))
    ∙ ap (λ m. map f (take i wishes) ++ m ∷ []) (same ∙ ap f is)
    ∙ sym (map_more f wishes i wish below) ∙ sym (map-map rank_of items (take (i + 1) wishes))
