-- Records by place, and how they change.
use Rattle.std.proofs.Common.{◌≡◌, ◌≢◌, ℕ, zero, suc, ◌+◌, ◌<◌, ◌++◌, take, drop, drop-set-lt, Bool, true}
use Rattle.std.proofs.Common.{false, eqb, ◌⊎◌, inl, inr, List, [], ◌∷◌, map, length, get_or, set, Option}
use Rattle.std.proofs.Common.{Some, None, slice_get, sym, ap, refl, ◌∙◌, subst, arith, eqb-true, eq-eqb}
use Rattle.std.proofs.lemmas.List.{length-map, drop_more, take_more, take_more_set, map-append}
use Rattle.resolvo_queue.proofs.Words.{ArePlaced, forgotten, HasNoPlace, IsCounted, IsPlaceOf, lookup, Record}
use Rattle.resolvo_queue.proofs.Words.{record_seen, Requirement, RequirementRecord, same_requirement, updated_at}
use Rattle.resolvo_queue.proofs.Rows.Occurrences.{same_is}
use Rattle.resolvo_queue.proofs.Lists.{same_some}

-- ---- one record changed

-- a record afterwards is one before, changed or not
pub was_at : (f : Record → Record) (ts : List Record) (place j : ℕ) (t : Record) →
    slice_get (updated_at f ts place) j ≡ Some t →
    (s : Record) × (slice_get ts j ≡ Some s) × ((t ≡ s) ⊎ ((t ≡ f s) × (j ≡ place)))
was_at f [] place j t e = cc
was_at f (x ∷ xs) zero zero t e = (x, refl, inr ((let same : Some (f x) ≡ Some t = e in cc), refl))
was_at f (x ∷ xs) zero (suc j) t e = (t, e, inl refl)
was_at f (x ∷ xs) (suc place) zero t e = (t, e, inl refl)
was_at f (x ∷ xs) (suc place) (suc j) t e =
    let m = was_at f xs place j t e in
    (m.0, m.1, elim m.2 [ inl same ↦ inl same | inr p ↦ inr (p.0, ap suc p.1) ])

pub is_at_place : (f : Record → Record) (ts : List Record) (place : ℕ) (s : Record) → slice_get ts place ≡ Some s →
    slice_get (updated_at f ts place) place ≡ Some (f s)
is_at_place f [] place s e = cc
is_at_place f (x ∷ xs) zero s e = ap (λ o. first_of_some o) e
  where
    first_of_some : Option Record → Option Record
    first_of_some None = None
    first_of_some (Some y) = Some (f y)
is_at_place f (x ∷ xs) (suc place) s e = is_at_place f xs place s e

pub is_elsewhere : (f : Record → Record) (ts : List Record) (place j : ℕ) → j ≢ place →
    slice_get (updated_at f ts place) j ≡ slice_get ts j
is_elsewhere f [] place j ne = refl
is_elsewhere f (x ∷ xs) zero zero ne = absurd (ne refl)
is_elsewhere f (x ∷ xs) zero (suc j) ne = refl
is_elsewhere f (x ∷ xs) (suc place) zero ne = refl
is_elsewhere f (x ∷ xs) (suc place) (suc j) ne = is_elsewhere f xs place j (λ e. ne (ap suc e))

-- ---- places

pub placed_updated : (f : Record → Record) → ((t : Record) → (f t).requirement ≡ t.requirement) →
    (ts : List Record) (places : List (Requirement × ℕ)) (k : ℕ) →
    ((t : Record) → IsCounted t → IsCounted (f t)) → ArePlaced ts places → ArePlaced (updated_at f ts k) places
placed_updated f keeps ts places k counts a = record {
  at = λ j t e. (let m = was_at f ts k j t e in
      let same : t.requirement ≡ m.0.requirement = elim m.2 [
        | inl s ↦ ap (λ (x : Record). x.requirement) s
        | inr p ↦ ap (λ (x : Record). x.requirement) p.0 ∙ keeps m.0
      ] in
      ap (λ r. lookup (same_requirement r) places) same ∙ a.at j m.0 m.1);
  of = λ r j e. (let m = a.of r j e in
      elim (same_place j) [
        | inl s ↦ (
          f m.0,
          subst (λ x. slice_get (updated_at f ts k) x ≡ Some (f m.0)) (sym s)
              (is_at_place f ts k m.0 (subst (λ x. slice_get ts x ≡ Some m.0) s m.1)),
          keeps m.0 ∙ m.2,
        )
        | inr ne ↦ (m.0, is_elsewhere f ts k j ne ∙ m.1, m.2)
      ]);
  counted = λ j t e. (let m = was_at f ts k j t e in
      elim m.2 [
        | inl s ↦ subst IsCounted (sym s) (a.counted j m.0 m.1)
        | inr p ↦ subst IsCounted (sym p.0) (counts m.0 (a.counted j m.0 m.1))
      ]);
}
  where
    same_place : (j : ℕ) → (j ≡ k) ⊎ (j ≢ k)
    same_place j = go (eqb j k) refl
      where
        go : (b : Bool) → eqb j k ≡ b → (j ≡ k) ⊎ (j ≢ k)
        go true e = inl (eqb-true j k e)
        go false e = inr (λ s. let bad : eqb j k ≡ true = eq-eqb j k s in cc)

pub no_place : (ts : List Record) (places : List (Requirement × ℕ)) (r : Requirement) → ArePlaced ts places →
    None ≡ lookup (same_requirement r) places → HasNoPlace ts r
no_place ts places r a e place t s = go (same_requirement r t.requirement) refl
  where
    go : (b : Bool) → same_requirement r t.requirement ≡ b → b ≡ false
    go false h = refl
    go true h =
        let found : lookup (same_requirement r) places ≡ Some place =
        ap (λ q. lookup (same_requirement q) places) (same_is r t.requirement h) ∙ a.at place t s in
        let bad : None ≡ Some place = e ∙ found in cc

-- ---- as their code keeps them

pub tracked_set : {A : Type 0} (f : Record → Record) (rs : List (RequirementRecord A)) (k : ℕ)
    (r s : RequirementRecord A) → k < length rs → r ≡ get_or rs k r →
    record_seen s ≡ f (record_seen r) → map record_seen (set rs k s) ≡ updated_at f (map record_seen rs) k
tracked_set f [] k r s h e p = refl
tracked_set f (x ∷ xs) zero r s h e p = ap (λ t. t ∷ map record_seen xs) (p ∙ ap (λ y. f (record_seen y)) e)
tracked_set f (x ∷ xs) (suc k) r s h e p = ap (λ l. record_seen x ∷ l) (tracked_set f xs k r s (omega arith) e p)

-- what a write to one record comes to, by the view of all
module _ {A : Type 0} (f : Record → Record) (keeps : (t : Record) → (f t).requirement ≡ t.requirement)
    (rs : List (RequirementRecord A)) (ts : List Record)
    (places : List (Requirement × ℕ)) (k : ℕ) (r s : RequirementRecord A) (view : map record_seen rs ≡ ts)
    (within : k < length ts) (read : r ≡ get_or rs k r) (is : record_seen s ≡ f (record_seen r)) where
  written : map record_seen (set rs k s) ≡ updated_at f (map record_seen rs) k
  written =
      let all : k < length (map record_seen rs) = subst (λ l. k < length l) (sym view) within in
      tracked_set f rs k r s (subst (λ n. k < n) (length-map rs record_seen) all) read is

  pub written_placed : ((t : Record) → IsCounted t → IsCounted (f t)) → ArePlaced (map record_seen rs) places →
      ArePlaced (map record_seen (set rs k s)) places
  written_placed counts a = subst (λ l. ArePlaced l places) (sym written)
      (placed_updated f keeps (map record_seen rs) places k counts a)

  pub written_is : map record_seen (set rs k s) ≡ updated_at f ts k
  written_is = written ∙ ap (λ l. updated_at f l k) view

pub placed_at : (ts : List Record) (places : List (Requirement × ℕ)) (r : Requirement) → ArePlaced ts places →
    (place : ℕ) → IsPlaceOf ts r place → lookup (same_requirement r) places ≡ Some place
placed_at ts places r a place p = ap (λ q. lookup (same_requirement q) places) (sym p.2) ∙ a.at place p.0 p.1

pub one_place : (ts : List Record) (places : List (Requirement × ℕ)) (r : Requirement) →
    ArePlaced ts places → (place : ℕ) →
    Some place ≡ lookup (same_requirement r) places → (k : ℕ) → IsPlaceOf ts r k → k ≡ place
one_place ts places r a place e k p = same_some k place (sym (placed_at ts places r a k p) ∙ sym e)

-- ---- all records

module _ {X Y : Type 0} (f : X → Y) (g : Y → Y) (first now : List X) (i : ℕ) (r s : X) (within_first : i < length first)
    (long : length now ≡ length first) (read : r ≡ get_or now i r)
    (is : f s ≡ g (f r)) (left : drop i now ≡ drop i first) where
  within : i < length now
  within = omega (arith, within_first, long)

  both_rest : get_or now i r ∷ drop (i + 1) now ≡ get_or first i r ∷ drop (i + 1) first
  both_rest = sym (drop_more now i r within) ∙ (left ∙ drop_more first i r within_first)

  same_head : (x y : X) (xs ys : List X) → x ∷ xs ≡ y ∷ ys → x ≡ y
  same_head x y xs ys e = cc

  same_tail : (x y : X) (xs ys : List X) → x ∷ xs ≡ y ∷ ys → xs ≡ ys
  same_tail x y xs ys e = cc

  pub all_left : drop (i + 1) (set now i s) ≡ drop (i + 1) first
  all_left = drop-set-lt (i + 1) now i s (omega arith) ∙
      same_tail (get_or now i r) (get_or first i r) (drop (i + 1) now) (drop (i + 1) first) both_rest

  pub all_done : map f (take i now) ≡ map g (map f (take i first)) →
      map f (take (i + 1) (set now i s)) ≡ map g (map f (take (i + 1) first))
  all_done e =
      let head : get_or first i r ≡ r =
      sym (same_head (get_or now i r) (get_or first i r) (drop (i + 1) now) (drop (i + 1) first) both_rest) ∙
      sym read in
      ap (map f) (take_more_set now i s within) ∙ (map-append f (take i now) (s ∷ []) ∙ (ap (λ l. l ++ f s ∷ []) e
      ∙ (ap (λ y. map g (map f (take i first)) ++ y ∷ []) is ∙ (sym (map-append g (map f (take i first)) (f r ∷ []))
      ∙ (ap (map g) (sym (map-append f (take i first) (r ∷ [])))
      ∙ ap (λ l. map g (map f l)) (sym (take_more first i r within_first ∙ ap (λ x. take i first ++ x ∷ []) head)))))))

pub placed_all : (ts : List Record) (places : List (Requirement × ℕ)) → ArePlaced ts places →
    ArePlaced (map forgotten ts) places
placed_all ts places a = record {
  at = λ k t e. (let m = forgotten_at ts k t e in
      ap (λ r. lookup (same_requirement r) places) (ap (λ (x : Record). x.requirement) m.2) ∙ a.at k m.0 m.1);
  of = λ r k e. (let p = a.of r k e in (forgotten p.0, at_forgotten ts k p.0 p.1, p.2));
  counted = λ k t e. subst IsCounted (sym (forgotten_at ts k t e).2) (inl refl);
}
  where
    forgotten_at : (xs : List Record) (k : ℕ) (t : Record) → slice_get (map forgotten xs) k ≡ Some t →
        (s : Record) × (slice_get xs k ≡ Some s) × (t ≡ forgotten s)
    forgotten_at [] k t e = cc
    forgotten_at (x ∷ xs) zero t e = (x, refl, (let h : Some (forgotten x) ≡ Some t = e in cc))
    forgotten_at (x ∷ xs) (suc k) t e = forgotten_at xs k t e

    at_forgotten : (xs : List Record) (k : ℕ) (t : Record) → slice_get xs k ≡ Some t →
        slice_get (map forgotten xs) k ≡ Some (forgotten t)
    at_forgotten [] k t e = cc
    at_forgotten (x ∷ xs) zero t e = (let h : x ≡ t = same_some x t e in ap (λ y. Some (forgotten y)) h)
    at_forgotten (x ∷ xs) (suc k) t e = at_forgotten xs k t e
