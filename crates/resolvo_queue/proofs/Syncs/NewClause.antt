-- A registered clause: positions are stable, and a synced queue stays synced.
use Rattle.std.proofs.Common.{◌≡◌, ℕ, suc, ◌+◌, Bool, true, false, ◌&&◌, cond, eqb}
use Rattle.std.proofs.Common.{eq-eqb, inl, inr, List, [], ◌∷◌, ◌++◌, length, Some}
use Rattle.std.proofs.Common.{is_some, slice_get, sym, ap, refl, ◌∙◌, arith}
use Rattle.resolvo_queue.proofs.Words.{are_literals_false, AreLocated, at_position, first_from, KeepsQueued, known_at}
use Rattle.resolvo_queue.proofs.Words.{Lit, may_have_frontier, position_in, Queued, Record, Requirement, Row, rows_at}
use Rattle.resolvo_queue.proofs.Words.{TrackedClause, Values}
use Rattle.resolvo_queue.proofs.Clauses.Entries.{earlier_or_last}
use Rattle.resolvo_queue.proofs.Lists.{differ}
use Rattle.resolvo_queue.proofs.Syncs.Law.{both_of, right_kept}
use Rattle.resolvo_queue.proofs.Picks.NumberedScan.{first_kept}

abbrev pub parent_of : TrackedClause → ℕ
parent_of c = c.parent

-- positions are stable: the new clause comes in at its own, and the others keep theirs
pub located_more : (cs : List TrackedClause) (c : TrackedClause) → AreLocated cs →
    c.position ≡ position_in parent_of at_position (cs ++ c ∷ []) (length cs, c) → AreLocated (cs ++ c ∷ [])
located_more cs c old own n d e = elim (earlier_or_last cs c n d e) [
  | inl h ↦ old n d h ∙ ap (λ m. at_position m n) (sym (first_kept parent_of 0 cs c n d h))
  | inr p ↦ ap (λ (x : TrackedClause). x.position) p.0 ∙
      (own ∙ (ap (λ m. position_in parent_of at_position (cs ++ c ∷ []) (m, c)) (sym p.1)
      ∙ ap (λ x. position_in parent_of at_position (cs ++ c ∷ []) (n, x)) (sym p.0)))
]

-- its position: the number of its parent's first clause if it has one, else its own number
pub own_position : (i : ℕ) (cs : List TrackedClause) (c : TrackedClause) →
    ((n : ℕ) (d : TrackedClause) → slice_get cs n ≡ Some d → eqb d.parent c.parent ≡ false) →
    first_from parent_of i (cs ++ c ∷ []) c.parent ≡ i + length cs
own_position i [] c none = ap (λ b. cond b i (suc i)) (eq-eqb c.parent c.parent refl) ∙
    (let h : i ≡ i + 0 = omega arith in h)
own_position i (x ∷ xs) c none =
    ap (λ b. cond b i (first_from parent_of (suc i) (xs ++ c ∷ []) c.parent)) (none 0 x refl)
    ∙ (own_position (suc i) xs c (λ n d e. none (suc n) d e) ∙
    (let h : suc i + length xs ≡ i + suc (length xs) = omega arith in h))

-- a clause that doesn't count comes: what is known stays, and new records know nothing
pub registered_synced : (cs : List TrackedClause) (literals : TrackedClause → List Lit)
    (rows_of : Requirement → List Row) (val : Values) (counted : TrackedClause → Bool)
    (ts ts' : List Record) (q : Queued) (c : TrackedClause) → ((k : ℕ) → known_at ts' k ≡ known_at ts k) →
    ((k : ℕ) → is_some (known_at ts k) ≡ true → rows_at rows_of ts' k ≡ rows_at rows_of ts k) → counted c ≡ false →
    KeepsQueued cs literals rows_of val counted ts q → KeepsQueued (cs ++ c ∷ []) literals rows_of val counted ts' q
registered_synced cs literals rows_of val counted ts ts' q c known rows out old = record {
  queued = λ n d at e. elim (earlier_or_last cs c n d at) [
    | inl h ↦ old.queued n d h (ap (λ w. counted d && (are_literals_false val (literals d) && may_have_frontier w))
        (sym (known d.record)) ∙ e)
    | inr p ↦ absurd (differ (sym (ap counted (sym p.0) ∙ (both_of (counted d) _ e).0) ∙ out))
  ];
  right = λ k. right_kept val (rows_at rows_of ts k) (rows_at rows_of ts' k) (known_at ts k) (known_at ts' k) (known k)
      (rows k) (old.right k);
}
