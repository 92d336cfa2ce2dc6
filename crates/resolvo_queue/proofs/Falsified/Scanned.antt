-- The scan of all clauses for the first falsified one.
use Rattle.std.proofs.Common.{◌≡◌, ℕ, ◌+◌, ◌<◌, ◌≤◌, Bool, true, false, ltb, ◌&&◌}
use Rattle.std.proofs.Common.{List, length, map, find, Option, Some, None, option_map, slice_get}
use Rattle.std.proofs.Common.{sym, ap, refl, ◌∙◌, subst, arith}
use Rattle.std.proofs.lemmas.Bool.{ltb-false, ltb-true}
use Rattle.std.proofs.lemmas.Option.{slice_get-map, slice_get_within}
use Rattle.resolvo_queue.proofs.Words.{AreLocated, at_position, clause_of, comes_first, Covers, FindsBelow, FindsFirst}
use Rattle.resolvo_queue.proofs.Words.{is_after, Position, position_at, RequiresClause, scan, TrackedClause}
use Rattle.resolvo_queue.proofs.Clauses.Firsts.{first_mapped}
use Rattle.resolvo_queue.proofs.Falsified.Least.{before_all, first_to_pass, none_to_pass, not_after_itself}
use Rattle.resolvo_queue.proofs.Falsified.Least.{not_before_is_after, not_both}
use Rattle.resolvo_queue.proofs.Lists.{no_or_yes, same_some}
use Rattle.resolvo_queue.proofs.Syncs.Law.{both_of}

-- ---- a step over one clause

module _ (clauses : List TrackedClause) (holds : TrackedClause → Bool) where
  pub finds_none : FindsBelow clauses holds 0 None
  finds_none = record { found = tt; covers = λ n c is below. absurd (omega (arith, below)) }

  module _ (i : ℕ) (c : TrackedClause) (at : slice_get clauses i ≡ Some c) (first : Option TrackedClause)
      (finds : FindsBelow clauses holds i first) where
    -- what covers those below and this one covers those below the next number
    both : (now : Option TrackedClause) → ((d : TrackedClause) → Covers first d → Covers now d) →
        (holds c ≡ true → Covers now c) →
        (n : ℕ) (d : TrackedClause) → slice_get clauses n ≡ Some d → n < i + 1 → holds d ≡ true → Covers now d
    both now kept own n d is below held = go (ltb n i) refl
      where
        go : (b : Bool) → ltb n i ≡ b → Covers now d
        go true e = kept d (finds.covers n d is (ltb-true n i e) held)
        go false e =
            let le = ltb-false n i e in
            let same : n ≡ i = omega (arith, below, le) in
            let it : c ≡ d = same_some c d (sym at ∙ (ap (slice_get clauses) (sym same) ∙ is)) in
            subst (Covers now) it (own (ap holds it ∙ held))

    -- it holds, and stands before the one that was found
    pub finds_this : (comes_first c first && holds c) ≡ true → FindsBelow clauses holds (i + 1) (Some c)
    finds_this earlier =
        let test = both_of (comes_first c first) (holds c) earlier in
        record {
          found = (i, at, test.1);
          covers = both (Some c) (λ d k. (
            c,
            refl,
            before_all c.position k.0.position d.position (ap (comes_first c) (sym k.1) ∙ test.0) k.2,
          )) (λ held. (c, refl, not_after_itself c.position));
        }

    -- it doesn't hold, or stands behind
    pub finds_still : (comes_first c first && holds c) ≡ false → FindsBelow clauses holds (i + 1) first
    finds_still later = record {
      found = finds.found;
      covers = both first (λ d k. k) (λ held. covered first (go (comes_first c first) later held));
    }
      where
        go : (b : Bool) → (b && holds c) ≡ false → holds c ≡ true → b ≡ false
        go true e f = absurd (not_both (holds c) f e)
        go false e f = refl

        covered : (o : Option TrackedClause) → comes_first c o ≡ false → Covers o c
        covered None e = cc
        covered (Some d) e = (d, refl, not_before_is_after c.position d.position e)

  -- past the end
  pub finds_all : (i : ℕ) (first : Option TrackedClause) → length clauses ≤ i → FindsBelow clauses holds i first →
      FindsFirst clauses holds first
  finds_all i first past finds = record {
    found = finds.found;
    covers = λ n c is below. finds.covers n c is (omega (arith, below, past));
  }

-- ---- the same of the clauses that contracts see

module _ (clauses : List TrackedClause) (located : AreLocated clauses) where
  abbrev whole : List RequiresClause
  whole = map clause_of clauses

  tracked_at : (n : ℕ) (r : RequiresClause) → slice_get whole n ≡ Some r →
      (c : TrackedClause) × (slice_get clauses n ≡ Some c) × (clause_of c ≡ r)
  tracked_at n r is = go (slice_get clauses n) refl (sym (slice_get-map clause_of clauses n) ∙ is)
    where
      go : (o : Option TrackedClause) → slice_get clauses n ≡ o → option_map clause_of o ≡ Some r →
          (c : TrackedClause) × (slice_get clauses n ≡ Some c) × (clause_of c ≡ r)
      go None e h = cc
      go (Some c) e h = (c, e, same_some (clause_of c) r h)

  stands_at : (n : ℕ) (c : TrackedClause) → slice_get clauses n ≡ Some c →
      position_at whole n (clause_of c) ≡ c.position
  stands_at n c is = ap (λ m. at_position m n) (sym (first_mapped 0 clauses c.parent)) ∙ sym (located n c is)

  module _ (passes : RequiresClause → Bool) where
    -- the first of the tracked clauses is that of the scan
    first_in_scan : (first : Option TrackedClause) → FindsFirst clauses (λ c. passes (clause_of c)) first →
        find passes (scan whole) ≡ option_map clause_of first
    first_in_scan None finds =
        none_to_pass whole passes (λ n r is. no_or_yes (passes r) (λ held. (let at = tracked_at n r is in
        nothing at.0 (finds.covers n at.0 at.1 (slice_get_within clauses n at.0 at.1) (ap passes at.2 ∙ held)))))
      where
        nothing : (c : TrackedClause) → Covers None c → ⊥
        nothing c k = let none = k.1 in cc
    first_in_scan (Some c) finds = first_to_pass whole passes finds.found.0 (clause_of c) (record {
      at = slice_get-map clause_of clauses finds.found.0 ∙ ap (option_map clause_of) finds.found.1;
      passes_itself = finds.found.2;
      least = λ n r is held. (let at = tracked_at n r is in
          subst (λ (x : Position × Position). is_after x.0 x.1 ≡ false) (λ i. (
            sym (stands_at finds.found.0 c finds.found.1) i,
            (sym (stands_at n at.0 at.1) ∙ ap (position_at whole n) at.2) i,
          )) (earliest at.0 (finds.covers n at.0 at.1 (slice_get_within clauses n at.0 at.1)
          (ap passes at.2 ∙ held))));
    })
      where
        earliest : (d : TrackedClause) → Covers (Some c) d → is_after c.position d.position ≡ false
        earliest d k = subst (λ (x : TrackedClause). is_after x.position d.position ≡ false)
            (sym (same_some c k.0 k.1)) k.2

    pub first_id : (first : Option TrackedClause) → FindsFirst clauses (λ c. passes (clause_of c)) first →
        option_map (λ (c : TrackedClause). c.clause_id) first ≡
        option_map (λ (r : RequiresClause). r.clause_id) (find passes (scan whole))
    first_id first finds = own first ∙
        sym (ap (option_map (λ (r : RequiresClause). r.clause_id)) (first_in_scan first finds))
      where
        own : (p : Option TrackedClause) → option_map (λ (c : TrackedClause). c.clause_id) p ≡
            option_map (λ (r : RequiresClause). r.clause_id) (option_map clause_of p)
        own None = refl
        own (Some c) = refl
