-- A question walks each requirement at most once, and owes no more by it.
use Rattle.std.proofs.Common.{◌≡◌, ℕ, zero, suc, ◌+◌, ◌≤◌, Bool, true, false, cond, ◌⊎◌, inl}
use Rattle.std.proofs.Common.{inr, List, [], ◌∷◌, ◌++◌, Option, Some, None, is_some}
use Rattle.std.proofs.Common.{slice_get, sym, ap, ap₂, refl, ◌∙◌, subst, arith, append_assoc}
use Rattle.std.proofs.lemmas.List.Sums.{sum_by-append}
use Rattle.resolvo_queue.proofs.Words.{Frontier, is_known, IsPlaceOf, known_at, owed_in, owed_of, Record, record_of}
use Rattle.resolvo_queue.proofs.Words.{Requirement, same_requirement, times, updated_at, walk_of, walked, walks_in}
use Rattle.resolvo_queue.proofs.Words.{walks_of, WalksOnce}
use Rattle.resolvo_queue.proofs.Rows.Occurrences.{same_is, same_self}
use Rattle.resolvo_queue.proofs.Lists.{same_some, differ}

-- ---- a question

pub walks_nothing : (ts : List Record) (log : List Requirement) → WalksOnce ts ts log log
walks_nothing ts log = record {
  walked = [];
  logged = none log;
  once = λ r. omega arith;
  walks = λ r. omega arith;
  owed = λ r. refl;
  unknown = λ r h. absurd (omega (arith, h));
  known = λ r h. absurd (omega (arith, h));
  others = λ r h. refl;
}
  where
    none : (xs : List Requirement) → xs ≡ xs ++ []
    none [] = refl
    none (x ∷ xs) = ap (λ l. x ∷ l) (none xs)

pub times_both : (a b : List Requirement) (r : Requirement) → times (a ++ b) r ≡ times a r + times b r
times_both a b r = sum_by-append (λ x. cond (same_requirement r x) 1 0) a b

pub alone : (r q : Requirement) (b : Bool) → same_requirement q r ≡ b → times (r ∷ []) q ≡ cond b 1 0
alone r q b e = ap (λ x. 0 + cond x 1 0) e ∙ by b
  where
    by : (x : Bool) → ◌≡◌ {A = ℕ} (0 + cond x 1 0) (cond x 1 0)
    by true = omega arith
    by false = omega arith

pub own_or_other : (r : Requirement) (P : Requirement → Type 0) → P r →
    ((q : Requirement) → same_requirement q r ≡ false → P q) → (q : Requirement) → P q
own_or_other r P own other q = go (same_requirement q r) refl
  where
    go : (b : Bool) → same_requirement q r ≡ b → P q
    go true e = subst P (sym (same_is q r e)) own
    go false e = other q e

none_or_some : (n : ℕ) → (n ≡ 0) ⊎ (1 ≤ n)
none_or_some zero = inl refl
none_or_some (suc n) = inr (omega arith)

-- what is walked first is known then, so it isn't walked again
pub walks_along : (a b c : List Record) (l m n : List Requirement) → WalksOnce a b l m → WalksOnce b c m n →
    WalksOnce a c l n
walks_along a b c l m n f g = record {
  walked = f.walked ++ g.walked;
  logged = g.logged ∙ (ap (λ x. x ++ g.walked) f.logged ∙ append_assoc l f.walked g.walked);
  once = λ r. (let both = times_both f.walked g.walked r in let one = f.once r in let two = g.once r in
      elim (none_or_some (times f.walked r)) [
        | inl none ↦ omega arith
        | inr some ↦ (let later = not_again r some in omega arith)
      ]);
  walks = λ r. (let both = times_both f.walked g.walked r in let one = f.walks r in let two = g.walks r in omega arith);
  owed = λ r. g.owed r ∙ f.owed r;
  unknown = λ r h. elim (none_or_some (times f.walked r)) [
    | inl none ↦ (let both = times_both f.walked g.walked r in
        ap (λ o. is_some (walk_of o)) (sym (f.others r none)) ∙ g.unknown r (omega arith))
    | inr some ↦ f.unknown r some
  ];
  known = λ r h. elim (none_or_some (times g.walked r)) [
    | inl none ↦ (let both = times_both f.walked g.walked r in
        ap (λ o. is_some (walk_of o)) (g.others r none) ∙ f.known r (omega arith))
    | inr some ↦ g.known r some
  ];
  others = λ r h. (let both = times_both f.walked g.walked r in g.others r (omega arith) ∙ f.others r (omega arith));
}
  where
    not_again : (r : Requirement) → 1 ≤ times f.walked r → times g.walked r ≡ 0
    not_again r some = elim (none_or_some (times g.walked r)) [
      | inl none ↦ none
      | inr again ↦ absurd (differ (sym (f.known r some) ∙ g.unknown r again))
    ]

-- ---- one walk

module _ (f : Record → Record) (keeps : (t : Record) → (f t).requirement ≡ t.requirement) where
  -- the record of the requirement at the place changed
  record_here : (ts : List Record) (place : ℕ) (r : Requirement) → IsPlaceOf ts r place →
      ((k : ℕ) → IsPlaceOf ts r k → k ≡ place) →
      (t : Record) × (record_of ts r ≡ Some t) × (record_of (updated_at f ts place) r ≡ Some (f t)) ×
      (slice_get ts place ≡ Some t)
  record_here [] place r at only = let bad : None ≡ Some at.0 = at.1 in cc
  record_here (x ∷ xs) zero r at only =
      let is : x ≡ at.0 = same_some x at.0 at.1 in
      let own : same_requirement r x.requirement ≡ true =
      ap (same_requirement r) (ap (λ (t : Record). t.requirement) is ∙ at.2) ∙ same_self r in (
        x,
        ap (λ b. cond b (Some x) (record_of xs r)) own,
        ap (λ b. cond b (Some (f x)) (record_of xs r)) (ap (same_requirement r) (keeps x) ∙ own),
        refl,
      )
  record_here (x ∷ xs) (suc place) r at only = go (same_requirement r x.requirement) refl
      (record_here xs place r at (λ k p. (let later : suc k ≡ suc place = only (suc k) p in omega (arith, later))))
    where
      go : (b : Bool) → same_requirement r x.requirement ≡ b →
          (t : Record) × (record_of xs r ≡ Some t) × (record_of (updated_at f xs place) r ≡ Some (f t)) ×
          (slice_get xs place ≡ Some t) →
          (t : Record) × (record_of (x ∷ xs) r ≡ Some t) × (record_of (x ∷ updated_at f xs place) r ≡ Some (f t)) ×
          (slice_get xs place ≡ Some t)
      go true e m = let bad : 0 ≡ suc place = only 0 (x, refl, sym (same_is r x.requirement e)) in
          absurd (omega (arith, bad))
      go false e m = (
        m.0,
        ap (λ b. cond b (Some x) (record_of xs r)) e ∙ m.1,
        ap (λ b. cond b (Some x) (record_of (updated_at f xs place) r)) e ∙ m.2,
        m.3,
      )

  -- all others stay
  record_elsewhere : (ts : List Record) (place : ℕ) (r q : Requirement) → IsPlaceOf ts r place →
      same_requirement q r ≡ false → record_of (updated_at f ts place) q ≡ record_of ts q
  record_elsewhere [] place r q at other = refl
  record_elsewhere (x ∷ xs) zero r q at other =
      let is : x ≡ at.0 = same_some x at.0 at.1 in
      let not : same_requirement q x.requirement ≡ false =
      ap (same_requirement q) (ap (λ (t : Record). t.requirement) is ∙ at.2) ∙ other in
      ap (λ b. cond b (Some (f x)) (record_of xs q)) (ap (same_requirement q) (keeps x) ∙ not)
      ∙ sym (ap (λ b. cond b (Some x) (record_of xs q)) not)
  record_elsewhere (x ∷ xs) (suc place) r q at other =
      ap (cond (same_requirement q x.requirement) (Some x)) (record_elsewhere xs place r q at other)

module _ (r : Requirement) (place : ℕ) (answer : Option Frontier) (ts : List Record) (log : List Requirement)
    (at : IsPlaceOf ts r place) (only : (k : ℕ) → IsPlaceOf ts r k → k ≡ place)
    (unknown : known_at ts place ≡ None) where
  abbrev now : List Record
  now = updated_at (walked answer) ts place

  here : (t : Record) × (record_of ts r ≡ Some t) × (record_of now r ≡ Some (walked answer t)) ×
      (slice_get ts place ≡ Some t)
  here = record_here (walked answer) (λ t. refl) ts place r at only

  nothing : is_known ts r ≡ false
  nothing = ap (λ o. is_some (walk_of o)) (here.1 ∙ sym here.3) ∙ ap is_some unknown

  owes : (t : Record) → is_some t.walk ≡ false → owed_of (Some (walked answer t)) ≡ owed_of (Some t)
  owes t e = let less : owed_of (Some t) ≡ t.walks + 1 = ap (λ b. t.walks + cond b 0 1) e in omega (arith, less)

  pub walks_one : WalksOnce ts now log (log ++ r ∷ [])
  walks_one = record {
    walked = r ∷ [];
    logged = refl;
    once = own_or_other r (λ q. times (r ∷ []) q ≤ 1) (let one = alone r r true (same_self r) in omega (arith, one))
        (λ q e. (let none = alone r q false e in omega (arith, none)));
    walks = own_or_other r (λ q. walks_in now q ≡ walks_in ts q + times (r ∷ []) q)
        (ap walks_of here.2 ∙ ap₂ (λ (n m : ℕ). n + m) (sym (ap walks_of here.1)) (sym (alone r r true (same_self r))))
        (λ q e. (let none = alone r q false e in
        let same = ap walks_of (record_elsewhere (walked answer) (λ t. refl) ts place r q at e) in
        omega (arith, none, same)));
    owed = own_or_other r (λ q. owed_in now q ≡ owed_in ts q)
        (ap owed_of here.2 ∙ (owes here.0 (ap (λ o. is_some (walk_of o)) (sym here.1) ∙ nothing) ∙
        sym (ap owed_of here.1))) (λ q e. ap owed_of (record_elsewhere (walked answer) (λ t. refl) ts place r q at e));
    unknown = own_or_other r (λ q. 1 ≤ times (r ∷ []) q → is_known ts q ≡ false) (λ h. nothing)
        (λ q e h. absurd (let none = alone r q false e in omega (arith, none, h)));
    known = own_or_other r (λ q. 1 ≤ times (r ∷ []) q →
        is_known now q ≡ true) (λ h. ap (λ o. is_some (walk_of o)) here.2)
        (λ q e h. absurd (let none = alone r q false e in omega (arith, none, h)));
    others = own_or_other r (λ q. times (r ∷ []) q ≡ 0 → record_of now q ≡ record_of ts q)
        (λ h. absurd (let one = alone r r true (same_self r) in omega (arith, one, h)))
        (λ q e h. record_elsewhere (walked answer) (λ t. refl) ts place r q at e);
  }
