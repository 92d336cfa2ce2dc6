-- Which clauses count as ones whose parent is true.
use Rattle.std.proofs.Common.{◌≡◌, ℕ, ◌≤◌, Bool, true, false, not, ◌&&◌, ltb, List, length, Option, None, Some, inl}
use Rattle.std.proofs.Common.{inr, slice_get, sym, ap, ◌∙◌, refl, arith}
use Rattle.std.proofs.lemmas.Bool.{le-ltb, ltb-false}
use Rattle.resolvo_queue.proofs.Words.{AllWokenFrom, are_literals_false, AreLocated, clause_literals}
use Rattle.resolvo_queue.proofs.Words.{counts, GrowsBy, has_noted, is_noted, IsOfClause, IsQueued}
use Rattle.resolvo_queue.proofs.Words.{KeepsQueued, known_at, known_true, Lit, literals_in, may_have_frontier}
use Rattle.resolvo_queue.proofs.Words.{Position, Queued, Record, References, Requirement, Row, Settles}
use Rattle.resolvo_queue.proofs.Words.{TrackedClause, Values}
use Rattle.resolvo_queue.proofs.Lists.{differ}
use Rattle.resolvo_queue.proofs.Syncs.Law.{all_of, both_of}
use Rattle.resolvo_queue.proofs.Syncs.Queued.{queued_stays}

-- a clause's position has its number
pub own_number : (cs : List TrackedClause) → AreLocated cs → (n : ℕ) (c : TrackedClause) → slice_get cs n ≡ Some c →
    c.position.number ≡ n
own_number cs located n c e = ap (λ (p : Position). p.number) (located n c e)

module _ (val : Values) where
  -- the parent of one that counts is true
  pub counts_parent : (woken : ℕ) (noted : List ℕ) (c : TrackedClause) → counts val woken noted c ≡ true →
      known_true (val c.parent) ≡ true
  counts_parent woken noted c e = (both_of (known_true (val c.parent)) (not (has_noted noted c.condition))
      (both_of (ltb c.position.number woken) _ e).1).0

  -- a clause that comes doesn't count yet
  pub counts_new : (woken : ℕ) (noted : List ℕ) (cs : List TrackedClause) (new : TrackedClause) →
      new.position.number ≡ length cs → woken ≤ length cs → counts val woken noted new ≡ false
  counts_new woken noted cs new own few =
      ap (λ b. b && (known_true (val new.parent) && not (has_noted noted new.condition)))
      (le-ltb new.position.number woken (omega (arith, own, few)))

  -- those that came are queued if their parents are true, and no condition is noted: so all count that are there
  pub woken_all : (cs : List TrackedClause) → AreLocated cs → (literals : TrackedClause → List Lit)
      (rows_of : Requirement → List Row) (woken : ℕ) (noted : List ℕ) (ts : List Record) (q : Queued) →
      AllWokenFrom woken cs val q → ((d : ℕ) → is_noted noted d ≡ false) →
      KeepsQueued cs literals rows_of val (counts val woken noted) ts q →
      KeepsQueued cs literals rows_of val (λ c. known_true (val c.parent)) ts q
  woken_all cs located literals rows_of woken noted ts q came none old = record {
    queued = λ n c at e. (let p = both_of (known_true (val c.parent))
        (are_literals_false val (literals c) && may_have_frontier (known_at ts c.record)) e in
        go n c at p.0 p.1 (ltb c.position.number woken) refl);
    right = old.right;
  }
    where
      none_has : (o : Option ℕ) → not (has_noted noted o) ≡ true
      none_has None = refl
      none_has (Some d) = ap not (none d)

      go : (n : ℕ) (c : TrackedClause) → slice_get cs n ≡ Some c → known_true (val c.parent) ≡ true →
          (are_literals_false val (literals c) && may_have_frontier (known_at ts c.record)) ≡ true → (b : Bool) →
          ltb c.position.number woken ≡ b → IsQueued q c
      go n c at parent met true below =
          let m = both_of (are_literals_false val (literals c)) (may_have_frontier (known_at ts c.record)) met in
          old.queued n c at (all_of (counts val woken noted c) (are_literals_false val (literals c))
          (may_have_frontier (known_at ts c.record)) (all_of (ltb c.position.number woken) (known_true (val c.parent))
          (not (has_noted noted c.condition)) below parent (none_has c.condition)) m.0 m.1)
      go n c at parent met false h =
          let le = ltb-false c.position.number woken h in
          let own = own_number cs located n c at in
          came n c at (omega (arith, le, own)) parent

-- the clauses under conditions that aren't noted any more are queued if these are met
module _ {N S A : Type 0} (refs : References N S A) (val : Values) (cs : List TrackedClause)
    (rows_of : Requirement → List Row) (woken : ℕ) (noted noted' : List ℕ) (ts : List Record) (q q' : Queued) where
  abbrev literals : TrackedClause → List Lit
  literals = clause_literals refs

  pub settled : GrowsBy (IsOfClause cs) q q' → Settles cs refs.disjunctions val noted noted' q' →
      KeepsQueued cs literals rows_of val (counts val woken noted) ts q →
      KeepsQueued cs literals rows_of val (counts val woken noted') ts q'
  settled grows settles old = record {
    queued = λ n c at e. (let p = both_of (counts val woken noted' c)
        (are_literals_false val (literals c) && may_have_frontier (known_at ts c.record)) e in
        let s = both_of (ltb c.position.number woken)
        (known_true (val c.parent) && not (has_noted noted' c.condition)) p.0 in
        let u = both_of (known_true (val c.parent)) (not (has_noted noted' c.condition)) s.1 in
        let m = both_of (are_literals_false val (literals c)) (may_have_frontier (known_at ts c.record)) p.1 in
        by_noted n c at u.0 m.0 u.1 (λ free. queued_stays (IsOfClause cs) q q' c grows (old.queued n c at
        (all_of (counts val woken noted c) (are_literals_false val (literals c))
        (may_have_frontier (known_at ts c.record)) (all_of (ltb c.position.number woken) (known_true (val c.parent))
        (not (has_noted noted c.condition)) s.0 u.0 (ap not free)) m.0 m.1))) c.condition refl);
    right = old.right;
  }
    where
      by_noted : (n : ℕ) (c : TrackedClause) → slice_get cs n ≡ Some c → known_true (val c.parent) ≡ true →
          are_literals_false val (literals c) ≡ true → not (has_noted noted' c.condition) ≡ true →
          (has_noted noted c.condition ≡ false → IsQueued q' c) → (o : Option ℕ) → c.condition ≡ o → IsQueued q' c
      by_noted n c at parent met out kept None is = kept (ap (has_noted noted) is)
      by_noted n c at parent met out kept (Some d) is = was (is_noted noted d) refl
        where
          was : (b : Bool) → is_noted noted d ≡ b → IsQueued q' c
          was false e = kept (ap (has_noted noted) is ∙ e)
          was true e = elim (settles d e) [
            | inl still ↦ absurd (differ (sym out ∙ (ap (λ o. not (has_noted noted' o)) is ∙ ap not still)))
            | inr woken ↦ woken (ap (λ o. are_literals_false val (literals_in refs o)) (sym is) ∙ met) n c at is parent
          ]
