-- Places of lists: which are so, and what stands at them after a change.
use Rattle.std.proofs.Common.{◌≡◌, ◌⊎◌, inl, inr, ℕ, zero, suc, ◌<◌, Bool, false, if◌then◌else◌}
use Rattle.std.proofs.Common.{List, [], ◌∷◌, ◌++◌, length, Option, None, Some, arith, refl, ap, ap₂, sym, subst}
use Rattle.std.specs.Prelude.{◌==◌}
use Rattle.std.proofs.lemmas.Slice.Zip.{AllZip-long}
use Rattle.example_index.proofs.Words.{AllZip, last_where, places_where, slice_get}

-- ---- places below a number
pub places_same : (f g : ℕ → Bool) (n : ℕ) → ((s : ℕ) → s < n → f s ≡ g s) → places_where f n ≡ places_where g n
places_same f g zero same = refl
places_same f g (suc n) same =
    let top : n < suc n = omega arith in
    ap₂ (λ (b : Bool) (ps : List ℕ). if b then ps ++ n ∷ [] else ps) (same n top)
    (places_same f g n (λ s below. same s (omega arith)))

pub last_same : (f g : ℕ → Bool) (n : ℕ) → ((s : ℕ) → s < n → f s ≡ g s) → last_where f n ≡ last_where g n
last_same f g zero same = refl
last_same f g (suc n) same =
    let top : n < suc n = omega arith in
    ap₂ (λ (b : Bool) (last : Option ℕ). if b then Some n else last) (same n top)
    (last_same f g n (λ s below. same s (omega arith)))

pub get_before : {X : Type 0} (xs : List X) (x : X) (s : ℕ) → s < length xs
    → slice_get (xs ++ x ∷ []) s ≡ slice_get xs s
get_before [] x s h = absurd (omega arith)
get_before (y ∷ ys) x zero h = refl
get_before (y ∷ ys) x (suc s) h = get_before ys x s (omega arith)

-- ---- two lists, place by place
pub zip_length : {A B : Type 0} (R : A → B → Type 0) (xs : List A) (ys : List B)
    → AllZip R xs ys → length xs ≡ length ys
zip_length R xs ys h = sym (AllZip-long R xs ys h)
