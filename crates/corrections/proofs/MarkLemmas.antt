-- Sets of places.
use Rattle.std.proofs.Common.{◌≡◌, ◌∙◌, ◌≢◌, ℕ, ◌+◌, ◌<◌, ◌≤◌, suc, zero, Bool, true, false, cond, List, [], ◌∷◌}
use Rattle.std.proofs.Common.{◌++◌, length, take, replicate, get_or, set, ap, refl, sym, subst, true≢false, arith}
use Rattle.std.proofs.Common.{inl, inr, add-one, zero-add}
use Rattle.std.proofs.lemmas.Bool.{cases_eq}
use Rattle.std.proofs.lemmas.List.{get_or-set_other, take_at}
use Rattle.std.proofs.lemmas.List.Elements.{All-contains, All-take, Contains-push}
use Rattle.std.proofs.lemmas.List.Sums.{sum_by-cons}
use Rattle.corrections.proofs.Words.{All, Any, Contains, ExtendsAt, HasNone, is_marked, IsWithin, kept, size, Vec}

size-marked : (marks : List Bool) → size (true ∷ marks) ≡ 1 + size marks
size-marked marks = sum_by-cons (λ mark. cond mark 1 0) true marks

size-unmarked : (marks : List Bool) → size (false ∷ marks) ≡ size marks
size-unmarked marks = sum_by-cons (λ mark. cond mark 1 0) false marks ∙ zero-add (size marks)

-- a set within another one has no more places
pub size-le : (few many : List Bool) → IsWithin few many → size few ≤ size many
size-le [] many within = omega arith
size-le (true ∷ few) [] within = absurd (true≢false (sym (within 0 refl)))
size-le (false ∷ few) [] within = rw size-unmarked (size-le few [] (λ k. within (suc k)))
size-le (true ∷ few) (true ∷ many) within = omega
    (arith, size-marked few, size-marked many, size-le few many (λ k. within (suc k)))
size-le (true ∷ few) (false ∷ many) within = absurd (true≢false (sym (within 0 refl)))
size-le (false ∷ few) (true ∷ many) within = omega
    (arith, size-unmarked few, size-marked many, size-le few many (λ k. within (suc k)))
size-le (false ∷ few) (false ∷ many) within = omega
    (arith, size-unmarked few, size-unmarked many, size-le few many (λ k. within (suc k)))

-- an empty set
pub unmarked : (n place : ℕ) → is_marked (replicate n false) place ≡ false
unmarked zero place = refl
unmarked (suc n) zero = refl
unmarked (suc n) (suc place) = unmarked n place

unless : (b : Bool) → (b ≡ true → ⊥) → b ≡ false
unless true none = absurd (none refl)
unless false none = refl

-- what has a set within it, and a place, has the set with the place within it
within_more : (marks other : List Bool) (place : ℕ) → IsWithin marks other → is_marked other place ≡ true → IsWithin
    (set marks place true) other
within_more marks other place within has k marked = elim (cases_eq k place) [
  | inl same ↦ subst (λ j. is_marked other j ≡ true) (sym same) has
  | inr differs ↦ within k (sym (get_or-set_other marks place k true false differs) ∙ marked)
]

module _ {A : Type 0} (marks : List Bool) (place : ℕ) (more : List Bool) (is : more ≡ set marks place true)
    (old : List (Vec Bool A)) where
  not_both : (other : List Bool) → (IsWithin more other → ⊥) → IsWithin marks other → is_marked other place ≡ false
  not_both other none within = unless (is_marked other place)
      (λ has. none (subst (λ m. IsWithin m other) (sym is) (within_more marks other place within has)))

  -- one of the sets is within it already
  pub extended_already : Any (λ s. IsWithin s.items more) old → ExtendsAt old old marks place
  extended_already any other none = (
    none,
    not_both other (λ within.
        subst (λ (s : Vec Bool A). IsWithin s.items other → ⊥) any.3 (none any.0 any.1 any.2)
        (λ k marked. within k (any.4 k marked))),
  )

  -- it comes last
  pub extended_last : (new : List (Vec Bool A)) (last : Vec Bool A) → last.items ≡ more → new ≡ old ++ last ∷ [] →
      ExtendsAt old new marks place
  extended_last new last items pushed other none =
      let P = λ (s : Vec Bool A). IsWithin s.items other → ⊥ in
      let all : All P (old ++ last ∷ []) = subst (HasNone other) pushed none in (
        subst (All P) (take_at old (last ∷ []) (length old) refl) (All-take P (length old) (old ++ last ∷ []) all),
        not_both other (subst (λ m. IsWithin m other → ⊥) items
            (All-contains P (old ++ last ∷ []) last all (Contains-push old last))),
      )

-- the places that stay
module _ {X : Type 0} where
  pub kept_nothing : (marks : List Bool) → kept {X = X} marks [] ≡ []
  kept_nothing [] = refl
  kept_nothing (mark ∷ marks) = refl

  -- one that is kept has a place that isn't marked
  pub kept_place : (marks : List Bool) (xs : List X) (x : X) (k : ℕ) → k < length (kept marks xs) → get_or
      (kept marks xs) k x ≡ x
      → (place : ℕ) × (place < length xs) × (is_marked marks place ≡ false) × (get_or xs place x ≡ x)
  kept_place [] xs x k below is = (k, below, refl, is)
  kept_place (mark ∷ marks) [] x k below is = absurd (omega (arith, below))
  kept_place (true ∷ marks) (y ∷ xs) x k below is =
      let rest = kept_place marks xs x k below is in
      (suc rest.0, omega (arith, rest.1), rest.2, rest.3)
  kept_place (false ∷ marks) (y ∷ xs) x zero below is = (0, omega arith, refl, is)
  kept_place (false ∷ marks) (y ∷ xs) x (suc k) below is =
      let rest = kept_place marks xs x k (omega (arith, below)) is in
      (suc rest.0, omega (arith, rest.1), rest.2, rest.3)

  -- one at a place that isn't marked is kept
  pub kept_has : (marks : List Bool) (xs : List X) (x : X) (place : ℕ) → place < length xs → is_marked marks place ≡
      false
      → get_or xs place x ≡ x → Contains (kept marks xs) x
  kept_has [] xs x place below out is = (place, below, is)
  kept_has (mark ∷ marks) [] x place below out is = absurd (omega (arith, below))
  kept_has (true ∷ marks) (y ∷ xs) x zero below out is = absurd (true≢false out)
  kept_has (true ∷ marks) (y ∷ xs) x (suc place) below out is = kept_has marks xs x place (omega (arith, below)) out is
  kept_has (false ∷ marks) (y ∷ xs) x zero below out is = (0, omega arith, is)
  kept_has (false ∷ marks) (y ∷ xs) x (suc place) below out is =
      let rest = kept_has marks xs x place (omega (arith, below)) out is in
      (suc rest.0, omega (arith, rest.1), rest.2)

  -- one more element
  pub kept_more : (marks : List Bool) (xs : List X) (i : ℕ) (d : X) → i < length xs → is_marked marks i ≡ false
      → kept marks (take (suc i) xs) ≡ kept marks (take i xs) ++ get_or xs i d ∷ []
  kept_more [] (x ∷ xs) zero d below out = refl
  kept_more [] (x ∷ xs) (suc i) d below out = ap (λ ys. x ∷ ys) (kept_more [] xs i d (omega (arith, below)) out)
  kept_more marks [] i d below out = absurd (omega (arith, below))
  kept_more (true ∷ marks) (x ∷ xs) zero d below out = absurd (true≢false out)
  kept_more (false ∷ []) (x ∷ xs) zero d below out = refl
  kept_more (false ∷ m ∷ marks) (x ∷ xs) zero d below out = refl
  kept_more (true ∷ marks) (x ∷ xs) (suc i) d below out = kept_more marks xs i d (omega (arith, below)) out
  kept_more (false ∷ marks) (x ∷ xs) (suc i) d below out = ap (λ ys. x ∷ ys)
      (kept_more marks xs i d (omega (arith, below)) out)

  pub kept_skip : (marks : List Bool) (xs : List X) (i : ℕ) → is_marked marks i ≡ true → kept marks
      (take (suc i) xs) ≡ kept marks (take i xs)
  kept_skip [] xs i out = absurd (true≢false (sym out))
  kept_skip (mark ∷ marks) [] zero out = refl
  kept_skip (mark ∷ marks) [] (suc i) out = refl
  kept_skip (true ∷ marks) (x ∷ xs) zero out = kept_nothing marks
  kept_skip (false ∷ marks) (x ∷ xs) zero out = absurd (true≢false (sym out))
  kept_skip (true ∷ marks) (x ∷ xs) (suc i) out = kept_skip marks xs i out
  kept_skip (false ∷ marks) (x ∷ xs) (suc i) out = ap (λ ys. x ∷ ys) (kept_skip marks xs i out)

  pub kept_pushed : (marks : List Bool) (xs : List X) (i : ℕ) (x : X) (rest new : List X) → i < length xs → x ≡
      get_or xs i x → is_marked marks i ≡ false
      → new ≡ rest ++ x ∷ [] → rest ≡ kept marks (take i xs) → new ≡ kept marks (take (i + 1) xs)
  kept_pushed marks xs i x rest new below is out pushed had =
      pushed ∙ ap (λ ys. ys ++ x ∷ []) had ∙ ap (λ y. kept marks (take i xs) ++ y ∷ []) is
      ∙ sym (kept_more marks xs i x below out) ∙ ap (λ n. kept marks (take n xs)) (sym (add-one i))

  pub kept_passed : (marks : List Bool) (xs : List X) (i : ℕ) (rest : List X) → is_marked marks i ≡ true
      → rest ≡ kept marks (take i xs) → rest ≡ kept marks (take (i + 1) xs)
  kept_passed marks xs i rest out had = had ∙ sym (kept_skip marks xs i out) ∙ ap (λ n. kept marks (take n xs))
      (sym (add-one i))
