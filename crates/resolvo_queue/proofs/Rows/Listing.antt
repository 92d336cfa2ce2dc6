-- Listing and walking a requirement keep occurrences and records in line; a walk owes no more.
use Rattle.std.proofs.Common.{◌≡◌, ℕ, zero, suc, ◌+◌, option_map, true, false, cond}
use Rattle.std.proofs.Common.{◌⊎◌, inl, inr, List, [], ◌∷◌, ◌++◌, flat_map, Option, Some, None}
use Rattle.std.proofs.Common.{is_some, slice_get, sym, ap, refl, ◌∙◌, subst, arith, Vec}
use Rattle.std.specs.Prelude.{Contains, IsSome}
use Rattle.resolvo_queue.proofs.Words.{candidates, forgotten, Frontier, GrowsWith, HasAll, here, is_listed}
use Rattle.resolvo_queue.proofs.Words.{IsListedWell, IsPlaceOf, known_at, list_rows, Listed, listing, lists_loaded}
use Rattle.resolvo_queue.proofs.Words.{lists_or_none, ListsKnown, ListsOnly, loaded_rows, lookup, OnlyForgets, OwesSame}
use Rattle.resolvo_queue.proofs.Words.{Record, Requirement, Row, rows, same_requirement, SameFound, sets_of, Stands}
use Rattle.resolvo_queue.proofs.Words.{there, Universe, updated_at, VersionSetId, walked}
use Rattle.resolvo_queue.proofs.Lists.{append_left, append_right, contains_if_stands, differ, same_some}
use Rattle.resolvo_queue.proofs.Lists.{stands_if_contains}
use Rattle.resolvo_queue.proofs.Clauses.Records.{was_at}

-- a requirement that has a candidate has lists
pub candidate_has_lists : {A : Type 0} (lists : List (Requirement × Vec (Vec ℕ A) A)) (r : Requirement) (v : ℕ) →
    Contains (candidates lists r) v → IsSome (lookup (same_requirement r) lists)
candidate_has_lists {A} lists r v s = go (lookup (same_requirement r) lists) s
  where
    go : (o : Option (Vec (Vec ℕ A) A)) → Contains (flat_map (λ l. l) (lists_or_none o)) v → IsSome o
    go None t = elim (stands_if_contains [] v t) [ ]
    go (Some l) t = refl

module _ {A : Type 0} (lists : List (Requirement × Vec (Vec ℕ A) A)) (r : Requirement) where
  pub listed_more : (a b : Listed) (ts : List Record) → IsSome (lookup (same_requirement r) lists) →
      GrowsWith r (candidates lists r) a b → ListsOnly r (candidates lists r) a b →
      IsListedWell lists a ts → IsListedWell lists b ts
  listed_more a b ts entry g l w = record {
    entries = λ q e. (elim (l.added q e) [
      | inl was ↦ w.entries q was
      | inr new ↦ subst (λ x. IsSome (lookup (same_requirement x) lists)) (sym new.0) entry
    ]);
    all = λ q e. (elim (l.added q e) [
      | inl was ↦ λ v s. g.kept v q (w.all q was v s)
      | inr new ↦ subst (λ x. HasAll x (candidates lists x) b) (sym new.0) new.1
    ]);
    none_else = λ q v s. elim (g.added v q s) [
      | inl was ↦ w.none_else q v was
      | inr new ↦ subst (λ x. Contains (candidates lists x) v) (sym new.0) new.1
    ];
    known = λ k t e h. l.kept t.requirement (w.known k t e h);
  }

  pub listed_walked : (o : Listed) (ts : List Record) (place : ℕ) (f : Option Frontier) → IsPlaceOf ts r place →
      is_listed o r ≡ true → IsListedWell lists o ts → IsListedWell lists o (updated_at (walked f) ts place)
  listed_walked o ts place f at listed w = record {
    entries = w.entries;
    all = w.all;
    none_else = w.none_else;
    known = λ k t e h. (let m = was_at (walked f) ts place k t e in
        elim m.2 [
          | inl same ↦ w.known k t (m.1 ∙ ap Some (sym same)) h
          | inr p ↦ (let s : slice_get ts place ≡ Some m.0 = ap (slice_get ts) (sym p.1) ∙ m.1 in
              let same : at.0 ≡ m.0 = same_some at.0 m.0 (sym at.1 ∙ s) in
              let requirement : t.requirement ≡ r = ap (λ (x : Record). x.requirement) p.0 ∙
              (ap (λ (x : Record). x.requirement) (sym same) ∙ at.2) in
              ap (is_listed o) requirement ∙ listed)
        ]);
  }

-- a walk of what wasn't known counts one more, and is known
pub owes_walked : (ts : List Record) (place : ℕ) (f : Option Frontier) → known_at ts place ≡ None →
    OwesSame ts (updated_at (walked f) ts place)
owes_walked [] place f e k = refl
owes_walked (t ∷ ts) zero f e zero = sym (one_more t.walk e)
  where
    one_more : (w : Option (Option Frontier)) → w ≡ None →
        ◌≡◌ {A = ℕ} (t.walks + cond (is_some w) 0 1) (t.walks + 1 + 0)
    one_more None h = omega arith
    one_more (Some x) h = cc
owes_walked (t ∷ ts) zero f e (suc k) = refl
owes_walked (t ∷ ts) (suc place) f e zero = refl
owes_walked (t ∷ ts) (suc place) f e (suc k) = owes_walked ts place f e k

-- a walk leaves the clauses with each requirement
pub found_walked : (ts : List Record) (place : ℕ) (f : Option Frontier) → SameFound ts (updated_at (walked f) ts place)
found_walked [] place f k = refl
found_walked (t ∷ ts) zero f zero = refl
found_walked (t ∷ ts) zero f (suc k) = refl
found_walked (t ∷ ts) (suc place) f zero = refl
found_walked (t ∷ ts) (suc place) f (suc k) = found_walked ts place f k

-- ---- the rows of a requirement have candidates alone

rows_candidates : (sets : List VersionSetId) (ls : List (List ℕ)) (row : Row) → Stands row (rows sets ls) →
    Stands row.variable (flat_map (λ l. l) ls)
rows_candidates [] ls row s = elim s [ ]
rows_candidates (v ∷ vs) [] row s = elim s [ ]
rows_candidates (v ∷ vs) (l ∷ ls) row s =
    go (list_rows v l) (rows vs ls) l (flat_map (λ x. x) ls) row s (own v l row) (rows_candidates vs ls row)
  where
    own : (u : VersionSetId) (xs : List ℕ) (x : Row) → Stands x (list_rows u xs) → Stands x.variable xs
    own u [] x t = elim t [ ]
    own u (y ∷ ys) x here = here
    own u (y ∷ ys) x (there t) = there (own u ys x t)

    go : (as1 bs : List Row) (xs ys : List ℕ) (x : Row) → Stands x (as1 ++ bs) → (Stands x as1 → Stands x.variable xs) →
        (Stands x bs → Stands x.variable ys) → Stands x.variable (xs ++ ys)
    go [] bs xs ys x t f g = append_right xs ys x.variable (g t)
    go (a ∷ as1) bs xs ys x here f g = append_left xs ys x.variable (f here)
    go (a ∷ as1) bs xs ys x (there t) f g = go as1 bs xs ys x t (λ u. f (there u)) g

-- so what is known of has all its row variables listed, as a sync asks
pub lists_known : {N S A : Type 0} (universe : Universe N S) (lists : List (Requirement × Vec (Vec ℕ A) A))
    (o : Listed) (ts : List Record) → IsListedWell lists o ts → ListsKnown (loaded_rows universe lists) (listing o) ts
lists_known universe lists o ts w k t e h row s = stands_if_contains (listing o row.variable) t.requirement
    (w.all t.requirement (w.known k t e h) row.variable
    (contains_if_stands (candidates lists t.requirement) row.variable
    (rows_candidates (sets_of universe t.requirement) (lists_loaded lists t.requirement) row s)))

-- ---- after a sync

pub listed_after_sync : {A : Type 0} (lists : List (Requirement × Vec (Vec ℕ A) A)) (o : Listed) (a b : List Record) →
    OnlyForgets a b → IsListedWell lists o a → IsListedWell lists o b
listed_after_sync lists o a b f w = record {
  entries = w.entries;
  all = w.all;
  none_else = w.none_else;
  known = λ k t e h. go k t e h (slice_get a k) refl (f k);
}
  where
    go : (k : ℕ) (t : Record) → slice_get b k ≡ Some t → is_some t.walk ≡ true → (s : Option Record) →
        slice_get a k ≡ s →
        ((slice_get b k ≡ s) ⊎ (slice_get b k ≡ option_map forgotten s)) → is_listed o t.requirement ≡ true
    go k t e h s p (inl same) = w.known k t (p ∙ (sym same ∙ e)) h
    go k t e h None p (inr same) = let bad : None ≡ Some t = sym same ∙ e in cc
    go k t e h (Some s) p (inr same) =
        let is : forgotten s ≡ t = same_some (forgotten s) t (sym same ∙ e) in
        let unknown : is_some t.walk ≡ false = ap (λ (x : Record). is_some x.walk) (sym is) in
        absurd (differ (sym h ∙ unknown))
