-- How records of requirements come, and the numbers of clauses to them: what is known of rows stays.
use Rattle.std.proofs.Common.{◌≡◌, ℕ, zero, suc, true, ◌⊎◌, inl, inr, List, [], ◌∷◌}
use Rattle.std.proofs.Common.{◌++◌, Some, is_some, slice_get, sym, ap, refl, ◌∙◌, subst}
use Rattle.resolvo_queue.proofs.Words.{clauses_at, clauses_in, fresh, GainsClauses, GainsRecord, IsPlaceOf, known_at}
use Rattle.resolvo_queue.proofs.Words.{Record, Requirement, Stands, updated_at, with_clause}
use Rattle.resolvo_queue.proofs.Clauses.Entries.{earlier_or_last, known_more, stays_at}
use Rattle.resolvo_queue.proofs.Clauses.Records.{is_at_place, was_at}
use Rattle.resolvo_queue.proofs.Lists.{append_left, stands_last}

pub gains_nothing : (ts : List Record) → GainsClauses ts ts
gains_nothing ts = record {
  places = λ r k p. p;
  clauses = λ k n s. s;
  known = λ k. refl;
  of_known = λ k t e w. (t, e, refl, w);
}

pub gains_along : (a b c : List Record) → GainsClauses a b → GainsClauses b c → GainsClauses a c
gains_along a b c f g = record {
  places = λ r k p. g.places r k (f.places r k p);
  clauses = λ k n s. g.clauses k n (f.clauses k n s);
  known = λ k. g.known k ∙ f.known k;
  of_known = λ k t e w. (let later = g.of_known k t e w in
      let earlier = f.of_known k later.0 later.1 later.3 in
      (earlier.0, earlier.1, earlier.2 ∙ later.2, earlier.3));
}

-- ---- a record that comes

clauses_more : (ts : List Record) (r : Requirement) (k : ℕ) → clauses_at (ts ++ fresh r ∷ []) k ≡ clauses_at ts k
clauses_more [] r zero = refl
clauses_more [] r (suc k) = refl
clauses_more (t ∷ ts) r zero = refl
clauses_more (t ∷ ts) r (suc k) = clauses_more ts r k

gains_fresh : (ts : List Record) (r : Requirement) → GainsClauses ts (ts ++ fresh r ∷ [])
gains_fresh ts r = record {
  places = λ q k p. (p.0, stays_at ts (fresh r ∷ []) k p.0 p.1, p.2);
  clauses = λ k n s. subst (Stands n) (sym (clauses_more ts r k)) s;
  known = λ k. known_more ts r k;
  of_known = λ k t e w. elim (earlier_or_last ts (fresh r) k t e) [
    | inl h ↦ (t, h, refl, w)
    | inr p ↦ absurd (known_not t p.0 w)
  ];
}
  where
    known_not : (t : Record) → t ≡ fresh r → is_some t.walk ≡ true → ⊥
    known_not t e w = let h : is_some (fresh r).walk ≡ true = ap (λ (x : Record). is_some x.walk) (sym e) ∙ w in cc

pub gains_record : (r : Requirement) (old now : List Record) → GainsRecord r old now → GainsClauses old now
gains_record r old now (inl e) = subst (GainsClauses old) (sym e) (gains_nothing old)
gains_record r old now (inr e) = subst (GainsClauses old) (sym e) (gains_fresh old r)

-- ---- a clause's number that comes to a record

kept_at : (f : Record → Record) (ts : List Record) (place k : ℕ) (t : Record) → slice_get ts k ≡ Some t →
    (s : Record) × (slice_get (updated_at f ts place) k ≡ Some s) × ((s ≡ t) ⊎ (s ≡ f t))
kept_at f [] place k t e = cc
kept_at f (x ∷ xs) zero zero t e = (f x, refl, inr (ap f (let h : Some x ≡ Some t = e in cc)))
kept_at f (x ∷ xs) zero (suc k) t e = (t, e, inl refl)
kept_at f (x ∷ xs) (suc place) zero t e = (t, e, inl refl)
kept_at f (x ∷ xs) (suc place) (suc k) t e = kept_at f xs place k t e

module _ (number : ℕ) where
  known_kept : (ts : List Record) (place k : ℕ) → known_at (updated_at (with_clause number) ts place) k ≡ known_at ts k
  known_kept [] place k = refl
  known_kept (t ∷ ts) zero zero = refl
  known_kept (t ∷ ts) zero (suc k) = refl
  known_kept (t ∷ ts) (suc place) zero = refl
  known_kept (t ∷ ts) (suc place) (suc k) = known_kept ts place k

  clauses_kept : (ts : List Record) (place k n : ℕ) → Stands n (clauses_at ts k) →
      Stands n (clauses_at (updated_at (with_clause number) ts place) k)
  clauses_kept [] place k n s = s
  clauses_kept (t ∷ ts) zero zero n s = append_left t.clauses (number ∷ []) n s
  clauses_kept (t ∷ ts) zero (suc k) n s = s
  clauses_kept (t ∷ ts) (suc place) zero n s = s
  clauses_kept (t ∷ ts) (suc place) (suc k) n s = clauses_kept ts place k n s

  gains_clause : (ts : List Record) (place : ℕ) → GainsClauses ts (updated_at (with_clause number) ts place)
  gains_clause ts place = record {
    places = λ r k p. (let m = kept_at (with_clause number) ts place k p.0 p.1 in (
      m.0,
      m.1,
      elim m.2 [
        | inl e ↦ ap (λ (x : Record). x.requirement) e ∙ p.2
        | inr e ↦ ap (λ (x : Record). x.requirement) e ∙ p.2
      ],
    ));
    clauses = λ k n s. clauses_kept ts place k n s;
    known = λ k. known_kept ts place k;
    of_known = λ k t e w. (let m = was_at (with_clause number) ts place k t e in (
      m.0,
      m.1,
      elim m.2 [
        | inl h ↦ ap (λ (x : Record). x.requirement) (sym h)
        | inr p ↦ ap (λ (x : Record). x.requirement) (sym p.0)
      ],
      elim m.2 [
        | inl h ↦ ap (λ (x : Record). is_some x.walk) (sym h) ∙ w
        | inr p ↦ ap (λ (x : Record). is_some x.walk) (sym p.0) ∙ w
      ],
    ));
  }

  -- a requirement's record may come, and then a number to it
  pub enters_gain : (r : Requirement) (place : ℕ) (old mid now : List Record) → GainsRecord r old mid →
      now ≡ updated_at (with_clause number) mid place → GainsClauses old now
  enters_gain r place old mid now g e =
      gains_along old mid now (gains_record r old mid g) (subst (GainsClauses mid) (sym e) (gains_clause mid place))

  pub entered_place : (r : Requirement) (place : ℕ) (mid now : List Record) →
      now ≡ updated_at (with_clause number) mid place → IsPlaceOf mid r place → IsPlaceOf now r place
  entered_place r place mid now e p = subst (λ ts. IsPlaceOf ts r place) (sym e)
      ((gains_clause mid place).places r place p)

  pub entered_found : (r : Requirement) (place : ℕ) (mid now : List Record) →
      now ≡ updated_at (with_clause number) mid place → IsPlaceOf mid r place → Stands number (clauses_at now place)
  entered_found r place mid now e p = subst (Stands number) (sym (ap (λ ts. clauses_at ts place) e ∙
      ap clauses_in (is_at_place (with_clause number) mid place p.0 p.1))) (stands_last p.0.clauses number)
