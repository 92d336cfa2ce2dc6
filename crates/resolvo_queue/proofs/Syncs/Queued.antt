-- What is queued only grows while clauses are woken, and stays a set of clauses' positions.
use Rattle.std.proofs.Common.{◌≡◌, ℕ, zero, suc, ◌+◌, ◌<◌, Bool, true, false, inl, inr, List, [], ◌∷◌}
use Rattle.std.proofs.Common.{◌++◌, take, length, get_or, None, Some, Result, Ok, Err, OnOk, slice_get, sym}
use Rattle.std.proofs.Common.{ap, ap₂, refl, ◌∙◌, subst, arith, nat_cmp, is_eq, ltb, ltb-true, ltb-false, ◌≤◌}
use Rattle.std.proofs.lemmas.Bool.Decides.{nat_tests}
use Rattle.std.proofs.lemmas.Cmp.{on_total, then_total}
use Rattle.std.proofs.lemmas.List.{take_more}
use Rattle.resolvo_queue.proofs.Words.{AllWokenFrom, AreWoken, GrowsBy, HaveNumbers, IsOfClause, IsQueued}
use Rattle.resolvo_queue.proofs.Words.{IsTotalOrder, IsWoken}
use Rattle.resolvo_queue.proofs.Words.{known_true, nat_cmp_total, ordering_then, Position, position_cmp, Queued}
use Rattle.resolvo_queue.proofs.Words.{same_position, TrackedClause, Values}
use Rattle.resolvo_queue.proofs.Lists.{same_some, stands_cases}

-- ---- positions

pub position_order : IsTotalOrder position_cmp
position_order = then_total (on_total (λ (p : Position). p.first_of_parent) nat_cmp_total)
    (on_total (λ (p : Position). p.number) nat_cmp_total)

both_same : (a b c d : ℕ) → is_eq (ordering_then (nat_cmp a c) (nat_cmp b d)) ≡ true → (a ≡ c) × (b ≡ d)
both_same a b c d e = (first a b c d e, second a b c d e)
  where
    first : (a b c d : ℕ) → is_eq (ordering_then (nat_cmp a c) (nat_cmp b d)) ≡ true → a ≡ c
    first a b c d e = grind (arith, nat_tests)

    second : (a b c d : ℕ) → is_eq (ordering_then (nat_cmp a c) (nat_cmp b d)) ≡ true → b ≡ d
    second a b c d e = grind (arith, nat_tests)

pub same_position_is : (p q : Position) → same_position p q ≡ true → p ≡ q
same_position_is p q e =
    let s = both_same p.first_of_parent p.number q.first_of_parent q.number e in
    ap₂ (λ (a b : ℕ). record { first_of_parent = a; number = b }) s.0 s.1

-- ---- growth

pub grows_none : (New : Position → Type 0) (q : Queued) → GrowsBy New q q
grows_none New q = record { all_kept = λ p h. h; hot_kept = λ p h. h; all_new = λ p h. inl h; hot_new = λ p h. inl h }

pub grows_both : (New : Position → Type 0) (a b c : Queued) → GrowsBy New a b → GrowsBy New b c → GrowsBy New a c
grows_both New a b c f g = record {
  all_kept = λ p h. g.all_kept p (f.all_kept p h);
  hot_kept = λ p h. g.hot_kept p (f.hot_kept p h);
  all_new = λ p h. elim (g.all_new p h) [ inl x ↦ f.all_new p x | inr y ↦ inr y ];
  hot_new = λ p h. elim (g.hot_new p h) [ inl x ↦ f.hot_new p x | inr y ↦ inr y ];
}

pub grows_along : (P Q : Position → Type 0) → ((p : Position) → P p → Q p) → (a b : Queued) →
    GrowsBy P a b → GrowsBy Q a b
grows_along P Q f a b g = record {
  all_kept = g.all_kept;
  hot_kept = g.hot_kept;
  all_new = λ p h. elim (g.all_new p h) [ inl x ↦ inl x | inr y ↦ inr (f p y) ];
  hot_new = λ p h. elim (g.hot_new p h) [ inl x ↦ inl x | inr y ↦ inr (f p y) ];
}

pub queued_stays : (New : Position → Type 0) (a b : Queued) (c : TrackedClause) → GrowsBy New a b →
    IsQueued a c → IsQueued b c
queued_stays New a b c g q = record { all = g.all_kept c.position q.all; hot = λ h. g.hot_kept c.position (q.hot h) }

module _ (clauses : List TrackedClause) where
  -- a clause's position is that of a clause
  pub of_clause : HaveNumbers clauses → (n : ℕ) (c : TrackedClause) → slice_get clauses n ≡ Some c →
      (p : Position) → same_position c.position p ≡ true → IsOfClause clauses p
  of_clause numbered n c e p s =
      let same : c.position ≡ p = same_position_is c.position p s in
      let number : p.number ≡ n = ap (λ (q : Position). q.number) (sym same) ∙ numbered n c e in
      (c, ap (slice_get clauses) number ∙ e, same)

  pub added_grows : HaveNumbers clauses → (n : ℕ) (c : TrackedClause) → slice_get clauses n ≡ Some c → (a b : Queued) →
      GrowsBy (λ p. same_position c.position p ≡ true) a b → GrowsBy (IsOfClause clauses) a b
  added_grows numbered n c e a b g = grows_along (λ p. same_position c.position p ≡ true) (IsOfClause clauses)
      (of_clause numbered n c e) a b g

  pub woken_stays : (New : Position → Type 0) (val : Values) (ns : List ℕ) (a b : Queued) → GrowsBy New a b →
      AreWoken clauses val ns a → AreWoken clauses val ns b
  woken_stays New val ns a b g w n c s e t = queued_stays New a b c g (w n c s e t)

  -- one number more
  pub woken_more : (val : Values) (ns : List ℕ) (m : ℕ) (q : Queued) → AreWoken clauses val ns q →
      ((c : TrackedClause) → slice_get clauses m ≡ Some c → known_true (val c.parent) ≡ true → IsQueued q c) →
      AreWoken clauses val (ns ++ m ∷ []) q
  woken_more val ns m q w here_too n c s e t =
      elim (stands_cases ns m n s) [ inl b ↦ w n c b e t | inr i ↦ here_too c (ap (slice_get clauses) (sym i) ∙ e) t ]

-- what was read at a place within the list is there
pub read_at : {X : Type 0} (xs : List X) (n : ℕ) (x : X) → n < length xs → x ≡ get_or xs n x → slice_get xs n ≡ Some x
read_at [] n x h e = absurd (omega arith)
read_at (y ∷ ys) zero x h e = ap Some (sym e)
read_at (y ∷ ys) (suc n) x h e = read_at ys n x (omega arith) e

-- what was found at a number
pub read_in : (clauses : List TrackedClause) (n : ℕ) (c : TrackedClause) → true ≡ ltb n (length clauses) →
    c ≡ get_or clauses n c → Some c ≡ slice_get clauses n
read_in clauses n c within read = sym (read_at clauses n c (ltb-true n (length clauses) (sym within)) read)

-- what stands below a number stands in the whole list, and the other way round
from_below : {X : Type 0} (xs : List X) (n k : ℕ) (x : X) → slice_get (take n xs) k ≡ Some x →
    slice_get xs k ≡ Some x
from_below xs zero k x e = cc
from_below [] (suc n) k x e = cc
from_below (y ∷ ys) (suc n) zero x e = e
from_below (y ∷ ys) (suc n) (suc k) x e = from_below ys n k x e

pub stays_below : {X : Type 0} (xs : List X) (n k : ℕ) (x : X) → k < n → slice_get xs k ≡ Some x →
    slice_get (take n xs) k ≡ Some x
stays_below xs zero k x h e = absurd (omega arith)
stays_below [] (suc n) k x h e = cc
stays_below (y ∷ ys) (suc n) zero x h e = e
stays_below (y ∷ ys) (suc n) (suc k) x h e = stays_below ys n k x (omega arith) e

-- of the clauses below a number
module _ (clauses part : List TrackedClause) (n : ℕ) (is : part ≡ take n clauses) where
  within_all : (k : ℕ) (c : TrackedClause) → slice_get part k ≡ Some c → slice_get clauses k ≡ Some c
  within_all k c e = from_below clauses n k c (ap (λ cs. slice_get cs k) (sym is) ∙ e)

  pub numbers_below : HaveNumbers clauses → HaveNumbers part
  numbers_below numbers k c e = numbers k c (within_all k c e)

  pub grows_below : (a b : Queued) → GrowsBy (IsOfClause part) a b → GrowsBy (IsOfClause clauses) a b
  grows_below a b = grows_along (IsOfClause part) (IsOfClause clauses)
      (λ p of. (of.0, within_all p.number of.0 of.1, of.2)) a b

-- a loop's step down the clauses
module _ (clauses : List TrackedClause) (numbered : HaveNumbers clauses) (val : Values) (i : ℕ) (c : TrackedClause)
    (it_is : slice_get clauses i ≡ Some c)
    (begin before now : Queued) (so_far : GrowsBy (IsOfClause clauses) begin before)
    (more : GrowsBy (λ p. same_position c.position p ≡ true) before now) where
  this_grows : GrowsBy (IsOfClause clauses) before now
  this_grows = added_grows clauses numbered i c it_is before now more

  pub all_grow : GrowsBy (IsOfClause clauses) begin now
  all_grow = grows_both (IsOfClause clauses) begin before now so_far this_grows

  pub all_woken : AllWokenFrom (i + 1) clauses val before → (known_true (val c.parent) ≡ true → IsQueued now c) →
      AllWokenFrom i clauses val now
  all_woken w own n d e from t = go (ltb i n) refl
    where
      go : (b : Bool) → ltb i n ≡ b → IsQueued now d
      go true h = queued_stays (IsOfClause clauses) before now d this_grows
          (w n d e (let f = ltb-true i n h in omega (arith, f)) t)
      go false h =
          let this : n ≡ i = (let f = ltb-false i n h in omega (arith, f, from)) in
          let same : c ≡ d = same_some c d (sym it_is ∙ (ap (slice_get clauses) (sym this) ∙ e)) in
          subst (IsQueued now) same (own (ap (λ (x : TrackedClause). known_true (val x.parent)) same ∙ t))

-- ---- one number

pub number_grows : (clauses : List TrackedClause) → HaveNumbers clauses → (n : ℕ) (c : TrackedClause) →
    Some c ≡ slice_get clauses n → (a b : Queued) →
    GrowsBy (λ p. same_position c.position p ≡ true) a b → GrowsBy (IsOfClause clauses) a b
number_grows clauses numbered n c e a b g = grows_along (λ p. same_position c.position p ≡ true)
    (IsOfClause clauses) (λ p s. of_clause clauses numbered n c (sym e) p s) a b g

pub number_woken : {T E : Type 0} (clauses : List TrackedClause) (val : Values) (n : ℕ) (c : TrackedClause) (q : Queued)
    (res : Result T E) → Some c ≡ slice_get clauses n →
    OnOk res (known_true (val c.parent) ≡ true → IsQueued q c) → OnOk res (IsWoken clauses val n q)
number_woken clauses val n c q (Ok x) e w = λ d s t. (let same : c ≡ d = same_some c d (e ∙ s) in
    subst (IsQueued q) same (w (ap (λ (y : TrackedClause). known_true (val y.parent)) same ∙ t)))
number_woken clauses val n c q (Err x) e w = tt

pub none_woken : (clauses : List TrackedClause) (val : Values) (n : ℕ) (q : Queued) → None ≡ slice_get clauses n →
    IsWoken clauses val n q
none_woken clauses val n q e d s t = let bad : None ≡ Some d = e ∙ s in cc

pub next_woken : (clauses : List TrackedClause) (val : Values) (numbers : List ℕ) (i : ℕ) → i < length numbers →
    (a b : Queued) → GrowsBy (IsOfClause clauses) a b →
    AreWoken clauses val (take i numbers) a → IsWoken clauses val (get_or numbers i 0) b →
    AreWoken clauses val (take (i + 1) numbers) b
next_woken clauses val numbers i within a b g w here_too =
    subst (λ ns. AreWoken clauses val ns b) (sym (take_more numbers i 0 within))
    (woken_more clauses val (take i numbers) (get_or numbers i 0) b
    (woken_stays clauses (IsOfClause clauses) val (take i numbers) a b g w) here_too)

pub none_past : {X : Type 0} (xs : List X) (n : ℕ) → false ≡ ltb n (length xs) → None ≡ slice_get xs n
none_past xs n e = go xs n (past n (length xs) e)
  where
    past : (k m : ℕ) → false ≡ ltb k m → m ≤ k
    past k m h = grind (arith, nat_tests)

    go : {X : Type 0} (ys : List X) (k : ℕ) → length ys ≤ k → None ≡ slice_get ys k
    go [] k h = refl
    go (y ∷ ys) zero h = absurd (omega arith)
    go (y ∷ ys) (suc k) h = go ys k (omega arith)
