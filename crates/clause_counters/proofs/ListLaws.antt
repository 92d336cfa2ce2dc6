-- Lists in which an element is replaced, or to which one comes, by what is read of each; sums and counts of elements.
use Rattle.std.proofs.Common.{◌≡◌, ℕ, suc, ◌+◌, ◌<◌, ◌≤◌, Bool, true, false, cond, eqb, List, [], ◌∷◌, ◌++◌, length}
use Rattle.std.proofs.Common.{map, get_or, set}
use Rattle.std.proofs.Common.{refl, sym, ap, ◌∙◌, subst, arith, inl, inr}
use Rattle.std.proofs.lemmas.Bool.{cases_eq, cases_lt, eq-eqb, ne_eqb}
use Rattle.std.proofs.lemmas.List.{get_or-set_same, get_or-set_other, get_or_append_left, get_or_push, get_or_past}
use Rattle.std.proofs.lemmas.List.{length_push, map-set, set_past, set-get_or}
use Rattle.std.proofs.lemmas.List.Sums.{get_or-le-sum_by, sum_by-cons}
use Rattle.clause_counters.proofs.Words.{count_by, sum_by}

-- an element is replaced by one of which the same is read
pub field_kept : {X Y : Type 0} (f : X → Y) (xs : List X) (d x : X) (i k : ℕ) → f x ≡ f (get_or xs i d)
    → f (get_or (set xs i x) k d) ≡ f (get_or xs k d)
field_kept f xs d x i k same = elim (cases_lt i (length xs)) [
  | inl l ↦ elim (cases_eq k i) [
    | inl e ↦ subst (λ n. f (get_or (set xs i x) n d) ≡ f (get_or xs n d)) (sym e) (ap f (get_or-set_same xs i x d l)
        ∙ same)
    | inr ne ↦ ap f (get_or-set_other xs i k x d ne)
  ]
  | inr past ↦ ap (λ ys. f (get_or ys k d)) (set_past xs i x past)
]

pub fields_kept : {X Y : Type 0} (f : X → Y) (xs : List X) (d x : X) (i : ℕ) → f x ≡ f (get_or xs i d)
    → map f (set xs i x) ≡ map f xs
fields_kept f xs d x i same =
    map-set f xs i x ∙ (ap (set (map f xs) i) same ∙ (sym (map-set f xs i (get_or xs i d))
    ∙ ap (map f) (set-get_or xs i d)))

-- an element is replaced by one whose number is more, or less
pub number_told : {X : Type 0} (f : X → ℕ) (xs : List X) (d x : X) (i k more less : ℕ) → i < length xs
    → f (get_or xs i d) + more ≡ f x + less
    → f (get_or xs k d) + cond (eqb i k) more 0 ≡ f (get_or (set xs i x) k d) + cond (eqb i k) less 0
number_told f xs d x i k more less l e = elim (cases_eq k i) [
  | inl is ↦ subst (λ n. f (get_or xs n d) + cond (eqb i n) more 0
      ≡ f (get_or (set xs i x) n d) + cond (eqb i n) less 0) (sym is)
      (let at = ap f (get_or-set_same xs i x d l) in
      let a : cond (eqb i i) more 0 ≡ more = ap (λ b. cond b more 0) (eq-eqb i i refl) in
      let b : cond (eqb i i) less 0 ≡ less = ap (λ b. cond b less 0) (eq-eqb i i refl) in omega (arith, at, a, b, e))
  | inr ne ↦ (let at = ap f (get_or-set_other xs i k x d ne) in
      let a : ◌≡◌ {A = ℕ} (cond (eqb i k) more 0) 0 = ap (λ b. cond b more 0) (ne_eqb i k (λ h. ne (sym h))) in
      let b : ◌≡◌ {A = ℕ} (cond (eqb i k) less 0) 0 = ap (λ b. cond b less 0) (ne_eqb i k (λ h. ne (sym h))) in
      omega (arith, at, a, b))
]

-- an element comes of which the same is read as of none
pub pushed_field : {X Y : Type 0} (f : X → Y) (xs : List X) (x d : X) (k : ℕ) → f x ≡ f d
    → f (get_or (xs ++ x ∷ []) k d) ≡ f (get_or xs k d)
pushed_field f xs x d k same = elim (cases_lt k (length xs)) [
  | inl l ↦ ap f (get_or_append_left xs (x ∷ []) d k l)
  | inr past ↦ (elim (cases_eq (length xs) k) [
    | inl e ↦ ap f (get_or_push xs x d k e) ∙ same
    | inr ne ↦ ap f (get_or_past (xs ++ x ∷ []) k d (let m = length_push xs x in omega (arith, m, past, ne)))
  ]) ∙ sym (ap f (get_or_past xs k d past))
]

-- an element comes, by a number of each
pub pushed_count : {X : Type 0} (f : X → ℕ) (xs : List X) (x d : X) (k : ℕ) → f d ≡ 0
    → f (get_or (xs ++ x ∷ []) k d) ≡ f (get_or xs k d) + cond (eqb (length xs) k) (f x) 0
pushed_count f xs x d k nothing = elim (cases_lt k (length xs)) [
  | inl l ↦ (let at = ap f (get_or_append_left xs (x ∷ []) d k l) in
      let none : ◌≡◌ {A = ℕ} (cond (eqb (length xs) k) (f x) 0) 0 =
      ap (λ b. cond b (f x) 0) (ne_eqb (length xs) k (λ e. omega (arith, e, l))) in
      omega (arith, at, none))
  | inr past ↦ (let was = ap f (get_or_past xs k d past) in elim (cases_eq (length xs) k) [
    | inl e ↦ (let at = ap f (get_or_push xs x d k e) in
        let all : cond (eqb (length xs) k) (f x) 0 ≡ f x = ap (λ b. cond b (f x) 0) (eq-eqb (length xs) k e) in
        omega (arith, at, all, was, nothing))
    | inr ne ↦ (let at = ap f (get_or_past (xs ++ x ∷ []) k d (let m = length_push xs x in
        omega (arith, m, past, ne))) in
        let none : ◌≡◌ {A = ℕ} (cond (eqb (length xs) k) (f x) 0) 0 =
        ap (λ b. cond b (f x) 0) (ne_eqb (length xs) k ne) in
        omega (arith, at, none, was, nothing))
  ])
]

-- what is counted stands somewhere
pub found : {X : Type 0} (p : X → Bool) (d : X) (xs : List X) → 1 ≤ count_by p xs → (k : ℕ) × (k < length xs)
    × (p (get_or xs k d) ≡ true)
found p d [] h = absurd (omega (arith, h))
found p d (x ∷ xs) h =
    (elim (p x) as (λ b. p x ≡ b → (k : ℕ) × (k < length (x ∷ xs)) × (p (get_or (x ∷ xs) k d) ≡ true)) [
      | true ↦ λ e. (0, omega arith, e)
      | false ↦ λ e.
          let cons = sum_by-cons (λ y. cond (p y) 1 0) x xs in
          let none : ◌≡◌ {A = ℕ} (cond (p x) 1 0) 0 = ap (λ b. cond b 1 0) e in
          let rest = found p d xs (omega (arith, h, cons, none)) in
          (suc rest.0, (let l = rest.1 in omega (arith, l)), rest.2)
    ]) refl

-- a sum of nothing but zeros
pub sum_none : {X : Type 0} (f : X → ℕ) (d : X) (xs : List X) → ((k : ℕ) → k < length xs → f (get_or xs k d) ≡ 0)
    → sum_by f xs ≡ 0
sum_none f d [] none = refl
sum_none f d (x ∷ xs) none =
    let first = none 0 (omega arith) in
    let rest = sum_none f d xs (λ k l. none (suc k) (omega (arith, l))) in
    let all = sum_by-cons f x xs in
    omega (arith, first, rest, all)

-- what stands in a list is counted
pub counted_there : {X : Type 0} (p : X → Bool) (d : X) (xs : List X) (k : ℕ) → k < length xs
    → p (get_or xs k d) ≡ true → 1 ≤ count_by p xs
counted_there p d xs k l e =
    let at = get_or-le-sum_by (λ x. cond (p x) 1 0) xs k d l in
    let one : ◌≡◌ {A = ℕ} (cond (p (get_or xs k d)) 1 0) 1 = ap (λ b. cond b 1 0) e in
    omega (arith, at, one)

-- sums whose terms are the same
pub sum_same : {X : Type 0} (f h : X → ℕ) (d : X) (xs : List X)
    → ((k : ℕ) → k < length xs → f (get_or xs k d) ≡ h (get_or xs k d)) → sum_by f xs ≡ sum_by h xs
sum_same f h d [] same = refl
sum_same f h d (x ∷ xs) same =
    let first = same 0 (omega arith) in
    let rest = sum_same f h d xs (λ k l. same (suc k) (omega (arith, l))) in
    let left = sum_by-cons f x xs in
    let right = sum_by-cons h x xs in
    omega (arith, first, rest, left, right)
