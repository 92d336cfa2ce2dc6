-- A synced queue stays so where clauses, records and values are the same by other functions, and where what is kept
-- grows.
use Rattle.std.proofs.Common.{◌≡◌, ℕ, Bool, true, ◌&&◌, List, Option, None, Some, is_some, slice_get, sym, ap, refl}
use Rattle.std.proofs.Common.{◌∙◌, subst}
use Rattle.resolvo_queue.proofs.Words.{are_literals_false, FindsConditions, Gains, GainsClauses, GrowsBy, is_listed}
use Rattle.resolvo_queue.proofs.Words.{is_possible, IsListedWell, KeepsQueued, known_at, Lists, Lit, may_have_frontier}
use Rattle.resolvo_queue.proofs.Words.{Position, Queued, Record, Requirement, Row, rows_at, Stands, TrackedClause}
use Rattle.resolvo_queue.proofs.Words.{Tracking, Values, walk_of}
use Rattle.resolvo_queue.specs.Parts.{rows_in}
use Rattle.resolvo_queue.proofs.Syncs.Law.{all_of, both_of, right_kept}
use Rattle.resolvo_queue.proofs.Syncs.Queued.{queued_stays}

module _ (cs : List TrackedClause) (literals literals' : TrackedClause → List Lit)
    (same_literals : (n : ℕ) (c : TrackedClause) → slice_get cs n ≡ Some c → literals' c ≡ literals c) where
  pub finds_same : (conditions : List (List ℕ)) → FindsConditions cs literals conditions →
      FindsConditions cs literals' conditions
  finds_same conditions finds n c e l s = finds n c e l (subst (Stands l) (same_literals n c e) s)

  module _ (rows_of rows_of' : Requirement → List Row) (val : Values) (counted counted' : TrackedClause → Bool)
      (ts ts' : List Record) (New : Position → Type 0) (q q' : Queued)
      (no_more_count : (n : ℕ) (c : TrackedClause) → slice_get cs n ≡ Some c → counted' c ≡ true → counted c ≡ true)
      (same_known : (k : ℕ) → known_at ts' k ≡ known_at ts k)
      (same_rows : (k : ℕ) → is_some (known_at ts k) ≡ true → rows_at rows_of' ts' k ≡ rows_at rows_of ts k)
      (grows : GrowsBy New q q') where
    was_possible : (n : ℕ) (c : TrackedClause) → slice_get cs n ≡ Some c →
        is_possible literals' counted' val (known_at ts') c ≡ true
        → is_possible literals counted val (known_at ts) c ≡ true
    was_possible n c e h =
        let p = both_of (counted' c) (are_literals_false val (literals' c) && may_have_frontier (known_at ts' c.record))
        h in
        let m = both_of (are_literals_false val (literals' c)) (may_have_frontier (known_at ts' c.record)) p.1 in
        all_of (counted c) (are_literals_false val (literals c)) (may_have_frontier (known_at ts c.record))
        (no_more_count n c e p.0) (ap (are_literals_false val) (sym (same_literals n c e)) ∙ m.0)
        (ap may_have_frontier (sym (same_known c.record)) ∙ m.1)

    pub synced_same : KeepsQueued cs literals rows_of val counted ts q →
        KeepsQueued cs literals' rows_of' val counted' ts' q'
    synced_same old = record {
      queued = λ n c at h. queued_stays New q q' c grows (old.queued n c at (was_possible n c at h));
      right = λ k. right_kept val (rows_at rows_of ts k) (rows_at rows_of' ts' k) (known_at ts k) (known_at ts' k)
          (same_known k) (same_rows k) (old.right k);
    }

-- the rows of what is known stay
pub rows_stay : (rows_of : Requirement → List Row) (ts ts' : List Record) → GainsClauses ts ts' → (k : ℕ) →
    is_some (known_at ts k) ≡ true → rows_at rows_of ts' k ≡ rows_at rows_of ts k
rows_stay rows_of ts ts' gains k h = go (slice_get ts' k) refl (ap is_some (gains.known k) ∙ h)
  where
    go : (o : Option Record) → slice_get ts' k ≡ o → is_some (known_at ts' k) ≡ true →
        rows_at rows_of ts' k ≡ rows_at rows_of ts k
    go None e s = let bad : is_some (walk_of None) ≡ true = ap (λ o. is_some (walk_of o)) (sym e) ∙ s in cc
    go (Some t) e s =
        let was = gains.of_known k t e (ap (λ o. is_some (walk_of o)) (sym e) ∙ s) in
        ap (rows_in rows_of) e ∙ (ap rows_of (sym was.2) ∙ ap (rows_in rows_of) (sym was.1))

-- nothing more is known, so what is known is listed
pub listed_gained : {A : Type 0} (lists : Lists A) (old now : Tracking) → Gains old now →
    IsListedWell lists old.occurrences old.requirements → IsListedWell lists now.occurrences now.requirements
listed_gained lists old now gains w = subst (λ o. IsListedWell lists o now.requirements)
    (sym gains.occurrences) (record {
      entries = w.entries;
      all = w.all;
      none_else = w.none_else;
      known = λ k t e h. (let was = gains.records.of_known k t e h in
          subst (λ r. is_listed old.occurrences r ≡ true) was.2 (w.known k was.0 was.1 was.3));
    })
