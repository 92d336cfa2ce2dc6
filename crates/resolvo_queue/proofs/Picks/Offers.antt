-- What tracked clauses offer along the numbered scan is what the registered ones offer.
use Rattle.std.proofs.Common.{◌≡◌, ℕ, Bool, true, false, not, ◌&&◌, cond, eqb, List, [], ◌∷◌}
use Rattle.std.proofs.Common.{◌++◌, map, Option, None, option_map, sym, ap, ap₂, refl, ◌∙◌}
use Rattle.std.specs.Prelude.{filter, filter_map, find, flat_map, fold}
use Rattle.std.proofs.lemmas.List.{map-append}
use Rattle.resolvo_queue.proofs.Words.{add_parent, are_literals_false, clause_of, clauses_of, cons_option, eligible}
use Rattle.resolvo_queue.proofs.Words.{Frontier, frontier_at, has_true_row, is_undecided_row, known_true, Lit, Offer}
use Rattle.resolvo_queue.proofs.Words.{offer, offer_of, offer_with, offered, Requirement, RequiresClause, Row, scan}
use Rattle.resolvo_queue.proofs.Words.{scanned, TrackedClause, Values, VersionSetId}
use Rattle.resolvo_queue.proofs.Picks.NumberedScan.{scan_is, scan_of}

abbrev parent_of : TrackedClause → ℕ
parent_of c = c.parent

-- ---- the scan

parents_same : (cs : List TrackedClause) → map (λ (r : RequiresClause). r.parent) (map clause_of cs) ≡ map parent_of cs
parents_same [] = refl
parents_same (c ∷ cs) = ap (λ ps. c.parent ∷ ps) (parents_same cs)

filter_mapped : (cs : List TrackedClause) (p : ℕ) →
    clauses_of (map clause_of cs) p ≡ map clause_of (filter (λ c. eqb c.parent p) cs)
filter_mapped [] p = refl
filter_mapped (c ∷ cs) p = go (eqb c.parent p) (filter_mapped cs p)
  where
    own : List TrackedClause
    own = filter (λ d. eqb d.parent p) cs

    go : (b : Bool) → clauses_of (map clause_of cs) p ≡ map clause_of own →
        cond b (clause_of c ∷ clauses_of (map clause_of cs) p) (clauses_of (map clause_of cs) p) ≡
        map clause_of (cond b (c ∷ own) own)
    go true h = ap (λ l. clause_of c ∷ l) h
    go false h = h

each_parent : (cs : List TrackedClause) (ps : List ℕ) →
    flat_map (clauses_of (map clause_of cs)) ps ≡ map clause_of (flat_map (λ p. filter (λ c. eqb c.parent p) cs) ps)
each_parent cs [] = refl
each_parent cs (p ∷ ps) = ap₂ (λ a b. a ++ b) (filter_mapped cs p) (each_parent cs ps)
    ∙ sym (map-append clause_of (filter (λ c. eqb c.parent p) cs) (flat_map (λ q. filter (λ c. eqb c.parent q) cs) ps))

-- the scan of the clauses is that of the tracked ones
pub scan_tracked : (cs : List TrackedClause) → scan (map clause_of cs) ≡ map clause_of (scan_of parent_of cs)
scan_tracked cs = ap (λ ps. flat_map (clauses_of (map clause_of cs)) (fold add_parent [] ps)) (parents_same cs)
    ∙ each_parent cs (fold add_parent [] (map parent_of cs))

-- ---- the offers

module _ (val : Values) (literals_of : Option ℕ → List Lit) (rows_of : Requirement → List Row)
    (score : VersionSetId → ℕ) where
  abbrev literals : TrackedClause → List Lit
  literals c = literals_of c.condition

  abbrev registered_offer : RequiresClause → Option Offer
  registered_offer c = offer val literals_of rows_of score c

  offers_same : (c : TrackedClause) → registered_offer (clause_of c) ≡ offer_of val literals rows_of score c
  offers_same c =
      let rs : List Row = rows_of c.requirement in
      go (known_true (val c.parent)) (are_literals_false val (literals_of c.condition)) (has_true_row val rs)
      (option_map (frontier_at val rs) (find (is_undecided_row val) rs))
    where
      go : (a b t : Bool) (x : Option Frontier) →
          cond (a && (b && not t)) (option_map (offer_with score c) (cond t None x)) None ≡
          option_map (offer_with score c) (cond (a && b) (cond t None x) None)
      go true true true x = refl
      go true true false x = refl
      go true false t x = refl
      go false b t x = refl

  offers_along : (xs : List (ℕ × TrackedClause)) → filter_map registered_offer (map clause_of (map (λ x. x.1) xs)) ≡
      filter_map (λ x. offer_of val literals rows_of score x.1) xs
  offers_along [] = refl
  offers_along (x ∷ xs) = ap₂ cons_option (offers_same x.1) (offers_along xs)

  -- what the tracked clauses offer is what the registered ones do
  pub offered_registered : (cs : List TrackedClause) →
      offered cs (offer_of val literals rows_of score) ≡ eligible val literals_of rows_of score (map clause_of cs)
  offered_registered cs =
      sym (ap (filter_map registered_offer) (scan_tracked cs ∙ ap (map clause_of) (sym (scan_is parent_of cs)))
      ∙ offers_along (scanned cs))
