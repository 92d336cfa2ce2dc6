-- What a link more leaves of lists, and of sums over lists. R are literals or groups: whether one is closed, that is
-- false, and its list.
use Rattle.std.proofs.Common.{◌≡◌, ℕ, ◌+◌, ◌<◌, ◌≤◌, ◌⊎◌, Bool, true, false, not, ◌&&◌, cond, eqb, List, [], ◌∷◌, ◌++◌}
use Rattle.std.proofs.Common.{length, get_or, set}
use Rattle.std.proofs.Common.{refl, sym, ap, ◌∙◌, subst, arith, inl, inr}
use mir.Val.{bool_byte}
use Rattle.std.proofs.lemmas.Bool.{cases_eq, eq-eqb, ne_eqb, true≢false, false≢true}
use Rattle.std.proofs.lemmas.List.{get_or-set_same, get_or-set_other, length_push}
use Rattle.std.proofs.lemmas.List.Sums.{sum_by-cons, sum_by-set}
use Rattle.clause_counters.proofs.Words.{count, IsLinked, Link, numbers_at, sum_by}
use Rattle.clause_counters.proofs.ListLaws.{sum_same}
use Rattle.clause_counters.proofs.LinkLaws.{listed_kept, listed_pushed, linked_pushed}

-- a term changes by what a link adds
change : (a b e : Bool) (new old n : ℕ) → new + cond a 0 n ≡ old + cond b 0 (cond e 1 0 + n) → (a ≡ b) ⊎ (n ≡ 0)
    → new ≡ old + cond e (cond b 0 1) 0
change true true true new old n h why = omega (arith, h)
change true true false new old n h why = omega (arith, h)
change true false e new old n h (inl same) = absurd (true≢false same)
change true false true new old n h (inr none) = omega (arith, h, none)
change true false false new old n h (inr none) = omega (arith, h, none)
change false true e new old n h (inl same) = absurd (false≢true same)
change false true true new old n h (inr none) = omega (arith, h, none)
change false true false new old n h (inr none) = omega (arith, h, none)
change false false true new old n h why = omega (arith, h)
change false false false new old n h why = omega (arith, h)

-- a term that is added under a test
pub merged : (b : Bool) (new mid old x y z : ℕ) → new ≡ mid + cond b z 0 → mid ≡ old + cond b x 0 → y ≡ x + z
    → new ≡ old + cond b y 0
merged true new mid old x y z a c e = omega (arith, a, c, e)
merged false new mid old x y z a c e = omega (arith, a, c)

pub merged_le : (b : Bool) (new mid old x y z : ℕ) → new ≤ mid + cond b z 0 → mid ≤ old + cond b x 0 → y ≡ x + z
    → new ≤ old + cond b y 0
merged_le true new mid old x y z a c e = omega (arith, a, c, e)
merged_le false new mid old x y z a c e = omega (arith, a, c, e)

-- and under two
pub merged_twice : (a b : Bool) (new mid old x y z : ℕ) → new ≡ mid + cond a (cond b z 0) 0 → mid ≡ old + cond b x 0
    → y ≡ x + cond a z 0
    → new ≡ old + cond b y 0
merged_twice true true new mid old x y z h c e = omega (arith, h, c, e)
merged_twice true false new mid old x y z h c e = omega (arith, h, c, e)
merged_twice false true new mid old x y z h c e = omega (arith, h, c, e)
merged_twice false false new mid old x y z h c e = omega (arith, h, c, e)

-- one if a test fails
pub one_unless : (b : Bool) → ◌≡◌ {A = ℕ} (cond (not b) 1 0) (cond b 0 1)
one_unless true = refl
one_unless false = refl

module _ {R : Type 0} (closed : R → Bool) (list : R → ℕ) (nothing : R) (links : List Link) (linked : IsLinked links)
    (rows : List R)
    (within : (k : ℕ) → list (get_or rows k nothing) ≤ length links) (i : ℕ) (there : i < length rows) (value : ℕ)
    (row : R)
    (first : list row ≡ length links + 1) where
  -- the link that comes before the list of the row
  abbrev pub link_before : Link
  link_before = record { value = value; next = list (get_or rows i nothing) }

  -- the row's list has the number once more
  row_list : (n : ℕ) → count n (numbers_at (links ++ link_before ∷ []) (list row))
      ≡ cond (eqb value n) 1 0 + count n (numbers_at links (list (get_or rows i nothing)))
  row_list n = ap (λ place. count n (numbers_at (links ++ link_before ∷ []) place)) first
      ∙ (ap (count n) (listed_pushed links linked link_before (within i))
      ∙ sum_by-cons (λ other. cond (eqb other n) 1 0) value (numbers_at links (list (get_or rows i nothing))))

  other_list : (k n : ℕ) → count n (numbers_at (links ++ link_before ∷ []) (list (get_or rows k nothing)))
      ≡ count n (numbers_at links (list (get_or rows k nothing)))
  other_list k n = ap (count n) (listed_kept links linked link_before (list (get_or rows k nothing)) (within k))

  pub lists_pushed : (k n : ℕ) → count n (numbers_at (links ++ link_before ∷ [])
      (list (get_or (set rows i row) k nothing)))
      ≡ count n (numbers_at links (list (get_or rows k nothing))) + cond (eqb i k) (cond (eqb value n) 1 0) 0
  lists_pushed k n = elim (cases_eq k i) [
    | inl e ↦ subst (λ x. count n (numbers_at (links ++ link_before ∷ []) (list (get_or (set rows i row) x nothing)))
        ≡ count n (numbers_at links (list (get_or rows x nothing))) + cond (eqb i x) (cond (eqb value n) 1 0) 0) (sym e)
        (let at = ap (λ (r : R). count n (numbers_at (links ++ link_before ∷ []) (list r)))
        (get_or-set_same rows i row nothing there) in
        let is = row_list n in
        let one : ◌≡◌ {A = ℕ} (cond (eqb i i) (cond (eqb value n) 1 0) 0) (cond (eqb value n) 1 0) =
        ap (λ b. cond b (cond (eqb value n) 1 0) 0) (eq-eqb i i refl) in
        omega (arith, at, is, one))
    | inr ne ↦ (let at = ap (λ (r : R). count n (numbers_at (links ++ link_before ∷ []) (list r)))
        (get_or-set_other rows i k row nothing ne) in
        let is = other_list k n in
        let none : ◌≡◌ {A = ℕ} (cond (eqb i k) (cond (eqb value n) 1 0) 0) 0 =
        ap (λ b. cond b (cond (eqb value n) 1 0) 0) (ne_eqb i k (λ e. ne (sym e))) in
        omega (arith, at, is, none))
  ]

  pub within_pushed : (k : ℕ) → list (get_or (set rows i row) k nothing) ≤ length (links ++ link_before ∷ [])
  within_pushed k = elim (cases_eq k i) [
    | inl e ↦ subst (λ x. list (get_or (set rows i row) x nothing) ≤ length (links ++ link_before ∷ [])) (sym e)
        (let at = ap list (get_or-set_same rows i row nothing there) in let more = length_push links link_before in
        omega (arith, at, first, more))
    | inr ne ↦ (let at = ap list (get_or-set_other rows i k row nothing ne) in
        let more = length_push links link_before in
        let l = within k in omega (arith, at, l, more))
  ]

  pub pool_pushed : IsLinked (links ++ link_before ∷ [])
  pool_pushed = linked_pushed links linked link_before (within i)

  pub all_pushed : (n : ℕ) → sum_by (λ r. count n (numbers_at (links ++ link_before ∷ []) (list r))) (set rows i row)
      ≡ sum_by (λ r. count n (numbers_at links (list r))) rows + cond (eqb value n) 1 0
  all_pushed n =
      let f : R → ℕ = λ r. count n (numbers_at (links ++ link_before ∷ []) (list r)) in
      let same = sum_same f (λ r. count n (numbers_at links (list r))) nothing rows (λ k l. other_list k n) in
      let changed = sum_by-set f rows i row nothing there in
      let is = row_list n in
      let was = other_list i n in
      omega (arith, same, changed, is, was)

  pub open_pushed : (n : ℕ) → (closed (get_or rows i nothing) ≡ closed row) ⊎ (list (get_or rows i nothing) ≡ 0)
      → sum_by (λ r. cond (closed r) 0 (count n (numbers_at (links ++ link_before ∷ []) (list r)))) (set rows i row)
      ≡ sum_by (λ r. cond (closed r) 0 (count n (numbers_at links (list r)))) rows + cond (eqb value n)
      (cond (closed row) 0 1) 0
  open_pushed n why =
      let f : R → ℕ = λ r. cond (closed r) 0 (count n (numbers_at (links ++ link_before ∷ []) (list r))) in
      let same = sum_same f (λ r. cond (closed r) 0 (count n (numbers_at links (list r)))) nothing rows
      (λ k l. ap (cond (closed (get_or rows k nothing)) 0) (other_list k n)) in
      let changed = sum_by-set f rows i row nothing there in
      let is : f row ≡ cond (closed row) 0 (cond (eqb value n) 1 0 + count n
      (numbers_at links (list (get_or rows i nothing)))) = ap (cond (closed row) 0) (row_list n) in
      let was : f (get_or rows i nothing) ≡ cond (closed (get_or rows i nothing)) 0
      (count n (numbers_at links (list (get_or rows i nothing)))) =
      ap (cond (closed (get_or rows i nothing)) 0) (other_list i n) in
      change (closed (get_or rows i nothing)) (closed row) (eqb value n)
      (sum_by f (set rows i row)) (sum_by (λ r. cond (closed r) 0 (count n (numbers_at links (list r)))) rows)
      (count n (numbers_at links (list (get_or rows i nothing))))
      (omega (arith, same, changed, is, was))
      (elim why [
        | inl e ↦ inl e
        | inr e ↦ inr (ap (λ place. count n (numbers_at links place)) e)
      ])

-- as a byte, one if two tests fail
pub byte_neither : (a b : Bool) → bool_byte (not a && not b) ≡ cond a 0 (cond b 0 1)
byte_neither true b = refl
byte_neither false true = refl
byte_neither false false = refl

pub neither_le : (a b : Bool) → cond a 0 (cond b 0 1) ≤ 1
neither_le true b = omega arith
neither_le false true = omega arith
neither_le false false = omega arith

-- what holds of two values holds of their equals
pub moved : {X Y : Type 0} (P : X → Y → Type 0) (x x' : X) (y y' : Y) → x' ≡ x → y' ≡ y → P x y → P x' y'
moved P x x' y y' e f h = subst (λ a. P a y') (sym e) (subst (λ b. P x b) (sym f) h)
