-- One record more: its place, and what is known.
use Rattle.std.proofs.Common.{◌≡◌, ℕ, zero, suc, Bool, true, false, cond, ◌⊎◌, inl, inr}
use Rattle.std.proofs.Common.{List, [], ◌∷◌, ◌++◌, length, Option, Some, None, slice_get}
use Rattle.std.proofs.Common.{sym, ap, refl, ◌∙◌, subst, Result, Ok, Err, OnOk, OnErr, IfOk}
use Rattle.resolvo_queue.proofs.Words.{ArePlaced, fresh, HasNoPlace, IsCounted, IsPlaceOf, known_at, lookup, Record}
use Rattle.resolvo_queue.proofs.Words.{Requirement, same_requirement, updated_at, with_entry}
use Rattle.resolvo_queue.proofs.Rows.Occurrences.{same_is, same_self}
use Rattle.resolvo_queue.proofs.Lists.{differ, same_some}

-- ---- one item more

pub last_is : {X : Type 0} (xs : List X) (y : X) → slice_get (xs ++ y ∷ []) (length xs) ≡ Some y
last_is [] y = refl
last_is (x ∷ xs) y = last_is xs y

pub stays_at : {X : Type 0} (xs ys : List X) (k : ℕ) (t : X) → slice_get xs k ≡ Some t → slice_get (xs ++ ys) k ≡ Some t
stays_at [] ys k t e = cc
stays_at (x ∷ xs) ys zero t e = e
stays_at (x ∷ xs) ys (suc k) t e = stays_at xs ys k t e

pub earlier_or_last : {X : Type 0} (xs : List X) (y : X) (k : ℕ) (t : X) → slice_get (xs ++ y ∷ []) k ≡ Some t →
    (slice_get xs k ≡ Some t) ⊎ ((t ≡ y) × (k ≡ length xs))
earlier_or_last [] y zero t e = inr ((let h : Some y ≡ Some t = e in cc), refl)
earlier_or_last [] y (suc k) t e = cc
earlier_or_last (x ∷ xs) y zero t e = inl e
earlier_or_last (x ∷ xs) y (suc k) t e =
    elim (earlier_or_last xs y k t e) [ inl h ↦ inl h | inr p ↦ inr (p.0, ap suc p.1) ]

-- ---- an entry more

pub looked_up : {V : Type 0} (es : List (Requirement × V)) (r : Requirement) (v : V) (q : Requirement) →
    lookup (same_requirement q) (with_entry es r v) ≡
    cond (same_requirement q r) (Some v) (lookup (same_requirement q) es)
looked_up [] r v q = refl
looked_up (e ∷ es) r v q = go (same_requirement r e.0) refl (same_requirement q r) refl (same_requirement q e.0) refl
    (looked_up es r v q)
  where
    there : (b s t : Bool) → same_requirement r e.0 ≡ b → same_requirement q r ≡ s →
        same_requirement q e.0 ≡ t → b ≡ true → s ≡ t
    there b s t eb es et h =
        let same : r ≡ e.0 = same_is r e.0 (eb ∙ h) in
        sym es ∙ (ap (same_requirement q) same ∙ et)

    go : (b : Bool) → same_requirement r e.0 ≡ b → (s : Bool) → same_requirement q r ≡ s → (t : Bool) →
        same_requirement q e.0 ≡ t →
        lookup (same_requirement q) (with_entry es r v) ≡ cond s (Some v) (lookup (same_requirement q) es) →
        lookup (same_requirement q) (cond b ((e.0, v) ∷ es) (e ∷ with_entry es r v)) ≡
        cond s (Some v) (lookup (same_requirement q) (e ∷ es))
    go true eb true es' true et h = ap (λ x. cond x (Some v) (lookup (same_requirement q) es)) et
    go true eb true es' false et h = absurd (differ (there true true false eb es' et refl))
    go true eb false es' true et h = absurd (differ (sym (there true false true eb es' et refl)))
    go true eb false es' false et h = ap (λ x. cond x (Some v) (lookup (same_requirement q) es)) et
        ∙ sym (ap (λ x. cond x (Some e.1) (lookup (same_requirement q) es)) et)
    go false eb true es' true et h =
        let same : r ≡ e.0 = sym (same_is q r es') ∙ same_is q e.0 et in
        absurd (differ (sym (same_self r) ∙ (ap (same_requirement r) same ∙ eb)))
    go false eb true es' false et h =
        ap (λ x. cond x (Some e.1) (lookup (same_requirement q) (with_entry es r v))) et ∙ h
    go false eb false es' true et h = ap (λ x. cond x (Some e.1) (lookup (same_requirement q) (with_entry es r v))) et
        ∙ sym (ap (λ x. cond x (Some e.1) (lookup (same_requirement q) es)) et)
    go false eb false es' false et h = ap (λ x. cond x (Some e.1) (lookup (same_requirement q) (with_entry es r v))) et
        ∙ (h ∙ sym (ap (λ x. cond x (Some e.1) (lookup (same_requirement q) es)) et))

-- a record for a requirement that had none
pub placed_more : (ts : List Record) (places : List (Requirement × ℕ)) (r : Requirement) → ArePlaced ts places →
    None ≡ lookup (same_requirement r) places → ArePlaced (ts ++ fresh r ∷ []) (with_entry places r (length ts))
placed_more ts places r a none = record {
  at = λ k t e. at k t (earlier_or_last ts (fresh r) k t e);
  of = λ q k e. of q k (same_requirement q r) refl (sym (looked_up places r (length ts) q) ∙ e);
  counted = λ k t e. elim (earlier_or_last ts (fresh r) k t e)
      [ inl was ↦ a.counted k t was | inr p ↦ subst IsCounted (sym p.0) (inl refl) ];
}
  where
    missed : {V : Type 0} (v w : V) → None ≡ Some v → ⊥
    missed v w h = cc

    other : (k : ℕ) (t : Record) → slice_get ts k ≡ Some t → (b : Bool) →
        same_requirement t.requirement r ≡ b → b ≡ false
    other k t e true h =
        let same : t.requirement ≡ r = same_is t.requirement r h in
        absurd (missed k k (none ∙ (ap (λ q. lookup (same_requirement q) places) (sym same) ∙ a.at k t e)))
    other k t e false h = refl

    at : (k : ℕ) (t : Record) → ((slice_get ts k ≡ Some t) ⊎ ((t ≡ fresh r) × (k ≡ length ts))) →
        lookup (same_requirement t.requirement) (with_entry places r (length ts)) ≡ Some k
    at k t (inl e) = looked_up places r (length ts) t.requirement
        ∙ (ap (λ b. cond b (Some (length ts)) (lookup (same_requirement t.requirement) places))
        (other k t e (same_requirement t.requirement r) refl) ∙ a.at k t e)
    at k t (inr p) =
        let same : t.requirement ≡ r = ap (λ (x : Record). x.requirement) p.0 in
        looked_up places r (length ts) t.requirement
        ∙ (ap (λ b. cond b (Some (length ts)) (lookup (same_requirement t.requirement) places))
        (ap (λ q. same_requirement q r) same ∙ same_self r) ∙ ap Some (sym p.1))

    of : (q : Requirement) (k : ℕ) (b : Bool) → same_requirement q r ≡ b →
        cond (same_requirement q r) (Some (length ts)) (lookup (same_requirement q) places) ≡ Some k →
        IsPlaceOf (ts ++ fresh r ∷ []) q k
    of q k true h e =
        let here : length ts ≡ k = same_some (length ts) k
        (ap (λ b. cond b (Some (length ts)) (lookup (same_requirement q) places)) (sym h) ∙ e) in (
          fresh r,
          subst (λ n. slice_get (ts ++ fresh r ∷ []) n ≡ Some (fresh r)) here (last_is ts (fresh r)),
          sym (same_is q r h),
        )
    of q k false h e =
        let was : IsPlaceOf ts q k =
        a.of q k (ap (λ b. cond b (Some (length ts)) (lookup (same_requirement q) places)) (sym h) ∙ e) in
        (was.0, stays_at ts (fresh r ∷ []) k was.0 was.1, was.2)

-- nothing is known of it
pub known_more : (ts : List Record) (r : Requirement) (k : ℕ) → known_at (ts ++ fresh r ∷ []) k ≡ known_at ts k
known_more [] r zero = refl
known_more [] r (suc k) = refl
known_more (t ∷ ts) r zero = refl
known_more (t ∷ ts) r (suc k) = known_more ts r k

-- a requirement without a record has no entry
pub no_entry : (ts : List Record) (places : List (Requirement × ℕ)) (r : Requirement) → ArePlaced ts places →
    HasNoPlace ts r → None ≡ lookup (same_requirement r) places
no_entry ts places r a none = go (lookup (same_requirement r) places) refl
  where
    go : (o : Option ℕ) → lookup (same_requirement r) places ≡ o → None ≡ o
    go None e = refl
    go (Some k) e =
        let at = a.of r k e in
        absurd (differ (sym (same_self r) ∙ (ap (same_requirement r) (sym at.2) ∙ none k at.0 at.1)))

-- the place of a record that came
pub entered : {E : Type 0} (r : Requirement) (old now : List Record) (res : Result ℕ E) →
    OnOk res (now ≡ old ++ fresh r ∷ []) → IfOk res (λ k. k ≡ length old) → IfOk res (IsPlaceOf now r)
entered r old now (Ok k) more at =
    (fresh r, ap (slice_get now) at ∙ (ap (λ l. slice_get l (length old)) more ∙ last_is old (fresh r)), refl)
entered r old now (Err e) more at = tt

-- a record that is written as it was changes nothing
pub updated_same : (ts : List Record) (k : ℕ) → updated_at (λ t. t) ts k ≡ ts
updated_same [] k = refl
updated_same (t ∷ ts) zero = refl
updated_same (t ∷ ts) (suc k) = ap (λ l. t ∷ l) (updated_same ts k)

pub always_err : {T E : Type 0} (P : Type 0) (res : Result T E) → P → OnErr res P
always_err P (Ok x) p = tt
always_err P (Err e) p = p
