-- Where all clauses are settled, no clause that is registered for decisions is falsified. N are the names, S the
-- solvables.
use Rattle.std.proofs.Common.{◌≡◌, ℕ, zero, suc, ◌+◌, ◌<◌, ◌≤◌, Bool, true, false, cond, List, [], ◌∷◌, length, map}
use Rattle.std.proofs.Common.{Option, Some, None, refl, sym, ap, subst, ◌∙◌, arith}
use Rattle.std.specs.Prelude.{All, not, ◌&&◌, ◌==◌, slice_get, option_map}
use Rattle.std.proofs.lemmas.List.Elements.{All-nil, All-cons, All-head, All-tail, All-append, All-filter, All-weaker}
use Rattle.std.proofs.lemmas.List.Folds.{list_all-append, list_all-map}
use Rattle.std.proofs.lemmas.Option.{slice_get_within}
use Rattle.watch_map.proofs.LiteralLists.{all_at}
use Rattle.resolvo_queue.proofs.Falsified.First.{falsified_by}
use Rattle.resolvo_queue.proofs.Rows.Occurrences.{same_is}
use Rattle.resolvo_store.proofs.Words.{all_false, are_literals_false, are_others_false, Clause, clause_literals}
use Rattle.resolvo_store.proofs.Words.{clauses_of, condition_of, falsified_clause, find, flat_map, HasSettled, is_false}
use Rattle.resolvo_store.proofs.Words.{is_false_literal, is_falsified, is_literal_in, is_unit, IsLoaded, IsSettled}
use Rattle.resolvo_store.proofs.Words.{IsSound, known_false, known_true, list_all, list_rows, lists_of, Lit}
use Rattle.resolvo_store.proofs.Words.{literals_of, lookup, Neg, other_literals, parents, Pos, Requirement}
use Rattle.resolvo_store.proofs.Words.{requires_from, RequiresClause, Row, rows, rows_of, same_requirement, scan}
use Rattle.resolvo_store.proofs.Words.{sets_of, Store, stored_of, truth, undecided, unwrap_or, Values, values}
use Rattle.resolvo_store.proofs.Words.{VersionSetId}
use Rattle.resolvo_store.proofs.AddingLemmas.{both, failed}
use Rattle.clauses.specs.declared.clause.Clause.TheVariants as Kind

-- ---- lists

-- two tests that hold hold both
hold_both : (a b : Bool) → a ≡ true → b ≡ true → (a && b) ≡ true
hold_both true b s t = t
hold_both false b s t = s

-- where no element passes, none is found
none_found : {X : Type 0} (test : X → Bool) (xs : List X) → All (λ x. test x ≡ false) xs → find test xs ≡ None
none_found test [] all = refl
none_found test (x ∷ xs) all = rw (All-head (λ y. test y ≡ false) x xs all)
    (none_found test xs (All-tail (λ y. test y ≡ false) x xs all))

-- what is true of all registered clauses is true of those of the scan
all_scanned : (P : RequiresClause → Type 0) (cs : List RequiresClause) → All P cs → All P (scan cs)
all_scanned P cs all = go (parents cs)
  where
    go : (ps : List ℕ) → All P (flat_map (clauses_of cs) ps)
    go [] = All-nil P
    go (p ∷ ps) = All-append P (clauses_of cs p) (flat_map (clauses_of cs) ps)
        (All-filter (λ c. c.parent == p) P cs all) (go ps)

-- ---- rows

-- the rows are all false where the candidates' literals are
rows_false : (now : Values) (sets : List VersionSetId) (lists : List (List ℕ)) → length lists ≤ length sets
    → all_false now (rows sets lists) ≡ is_false now (flat_map (map Pos) lists)
rows_false now [] [] few = refl
rows_false now [] (l ∷ lists) few = absurd (omega (arith, few))
rows_false now (s ∷ sets) [] few = refl
rows_false now (s ∷ sets) (l ∷ lists) few =
    rw (
      list_all-append (λ row. known_false (now row.variable)) (list_rows s l) (rows sets lists),
      list_all-map (λ (row : Row). known_false (now row.variable)) (λ x. record { set = s; variable = x }) l,
      list_all-append (is_false_literal now) (map Pos l) (flat_map (map Pos) lists),
      list_all-map (is_false_literal now) Pos l,
      rows_false now sets lists (omega (arith, few)),
    ) refl

-- the negation of what is true is false
negation_false : (o : Option Bool) → known_true o ≡ true → known_false (option_map not o) ≡ true
negation_false None h = h
negation_false (Some true) h = refl
negation_false (Some false) h = h

module _ {N S : Type 0} (st : Store N S) (sound : IsSound st) where
  -- a requirement has no more lists than version sets
  few_lists : (r : Requirement) → length (unwrap_or (lists_of st r) []) ≤ length (sets_of st.provider.universe r)
  few_lists r = go st.loaded sound.loaded
    where
      Few : Option (List (List ℕ)) → Type 0
      Few o = length (unwrap_or o []) ≤ length (sets_of st.provider.universe r)

      go : (es : List (Requirement × List (List ℕ))) → All (IsLoaded st) es → Few (lookup (same_requirement r) es)
      go [] all = omega arith
      go (e ∷ es) all = by_same (same_requirement r e.0) refl (go es (All-tail (IsLoaded st) e es all))
        where
          by_same : (b : Bool) → same_requirement r e.0 ≡ b → Few (lookup (same_requirement r) es) →
              Few (cond b (Some e.1) (lookup (same_requirement r) es))
          by_same true same later =
              let one = (All-head (IsLoaded st) e es all).one_a_set in
              subst (λ q. length e.1 ≤ length (sets_of st.provider.universe q)) (sym (same_is r e.0 same))
              (omega (arith, one))
          by_same false same later = later

  -- the literals of a registered clause
  abbrev literals_in : RequiresClause → List Lit
  literals_in c = Neg c.parent ∷ other_literals (stored_of st) c.condition c.requirement

  -- they are false where it is falsified
  falsified_is_false : (c : RequiresClause) → is_falsified (values st) (condition_of st) (rows_of st) c ≡ true →
      is_false (values st) (literals_in c) ≡ true
  falsified_is_false c f =
      let r = c.requirement in
      let met : Bool = are_literals_false (values st) (condition_of st c.condition) in
      let gone : Bool = all_false (values st) (rows_of st r) in
      let tests = both (known_true (values st c.parent)) (met && gone)
      (sym (falsified_by (values st) (condition_of st) (rows_of st) c) ∙ f) in
      let two = both met gone tests.1 in
      let listed = sym (rows_false (values st) (sets_of st.provider.universe r) (unwrap_or (lists_of st r) [])
      (few_lists r)) ∙ two.1 in
      hold_both (is_false_literal (values st) (Neg c.parent))
      (is_false (values st) (other_literals (stored_of st) c.condition r))
      (negation_false (values st c.parent) tests.0)
      (list_all-append (is_false_literal (values st)) (condition_of st c.condition)
      (flat_map (map Pos) (unwrap_or (lists_of st r) []))
      ∙ hold_both met (is_false (values st) (flat_map (map Pos) (unwrap_or (lists_of st r) []))) two.0 listed)

  -- a registered clause stands under its id
  record StandsThere (c : RequiresClause) : Type 0 where
    there : c.clause_id < length st.clauses
    literals : clause_literals st c.clause_id ≡ literals_in c

  all_stand : All StandsThere st.requires
  all_stand = subst (λ cs. All StandsThere cs) (sym sound.registered)
      (go st.clauses 0 (λ i. ap (slice_get st.clauses) (let same : 0 + i ≡ i = omega arith in same)))
    where
      next : (d : Clause N) (ds : List (Clause N)) (id : ℕ) →
          ((i : ℕ) → slice_get st.clauses (id + i) ≡ slice_get (d ∷ ds) i) → (i : ℕ) →
          slice_get st.clauses (id + 1 + i) ≡ slice_get ds i
      next d ds id same i = ap (slice_get st.clauses) (let e : id + 1 + i ≡ id + suc i = omega arith in e)
          ∙ same (suc i)

      go : (ds : List (Clause N)) (id : ℕ) → ((i : ℕ) → slice_get st.clauses (id + i) ≡ slice_get ds i) →
          All StandsThere (requires_from id ds)
      go [] id same = All-nil StandsThere
      go (Kind.Requires parent d r ∷ ds) id same =
          let c : Clause N = Kind.Requires parent d r in
          let here : slice_get st.clauses id ≡ Some c = ap (slice_get st.clauses) (let e : id ≡ id + 0 =
          omega arith in e) ∙ same 0 in
          All-cons StandsThere (record { parent = parent; requirement = r; condition = d; clause_id = id })
          (requires_from (id + 1) ds) (record {
            there = slice_get_within st.clauses id c here;
            literals = ap (λ (o : Option (Clause N)). unwrap_or (option_map (literals_of (stored_of st)) o) []) here;
          }) (go ds (id + 1) (next c ds id same))
      go (d ∷ ds) id same = go ds (id + 1) (next d ds id same)

  -- so none is falsified where all clauses are settled
  pub settled_unfalsified : HasSettled st → falsified_clause st ≡ None
  settled_unfalsified settled =
      none_found (is_falsified (values st) (condition_of st) (rows_of st)) (scan st.requires)
      (all_scanned (λ c. is_falsified (values st) (condition_of st) (rows_of st) c ≡ false) st.requires
      (All-weaker StandsThere (λ c. is_falsified (values st) (condition_of st) (rows_of st) c ≡ false)
      (λ c stands. by_test c stands (is_falsified (values st) (condition_of st) (rows_of st) c) refl)
      st.requires all_stand))
    where
      by_test : (c : RequiresClause) → StandsThere c → (b : Bool) →
          is_falsified (values st) (condition_of st) (rows_of st) c ≡ b → b ≡ false
      by_test c stands false f = refl
      by_test c stands true f =
          let is : is_false (values st) (clause_literals st c.clause_id) ≡ true =
          subst (λ ls. is_false (values st) ls ≡ true) (sym stands.literals) (falsified_is_false c f) in
          sym is ∙ (settled c.clause_id stands.there).0

-- ---- computed

-- whether a clause of these literals is settled
abbrev pub is_settled : Values → List Lit → Bool
is_settled now ls = not (is_false now ls) && list_all (λ l. not (is_unit now ls l)) ls

-- whether all clauses of a store are
abbrev pub are_settled : {N S : Type 0} → Store N S → Bool
are_settled st = list_all (λ c. is_settled (values st) (literals_of (stored_of st) c)) st.clauses

settled_one : (now : Values) (ls : List Lit) → is_settled now ls ≡ true → IsSettled now ls
settled_one now ls h =
    let parts = both (not (is_false now ls)) (list_all (λ l. not (is_unit now ls l)) ls) h in
    (failed (is_false now ls) parts.0, λ l. by_member l (is_literal_in l ls) refl parts.1)
  where
    by_member : (l : Lit) (b : Bool) → is_literal_in l ls ≡ b → list_all (λ m. not (is_unit now ls m)) ls ≡ true →
        is_unit now ls l ≡ false
    by_member l true own all = failed (is_unit now ls l) (all_at (λ m. not (is_unit now ls m)) ls l all own)
    by_member l false own all = ap (λ b. b && (undecided (truth now l) && are_others_false now ls l)) own

-- where the test says so, all clauses are settled
pub settled_if : {N S : Type 0} (st : Store N S) → are_settled st ≡ true → HasSettled st
settled_if {N = N} st h c within = go st.clauses c h within
  where
    go : (cs : List (Clause N)) (i : ℕ) → list_all (λ d. is_settled (values st) (literals_of (stored_of st) d)) cs
        ≡ true → i < length cs
        → IsSettled (values st) (unwrap_or (option_map (literals_of (stored_of st)) (slice_get cs i)) [])
    go [] i all below = absurd (omega (arith, below))
    go (d ∷ cs) zero all below = settled_one (values st) (literals_of (stored_of st) d)
        (both (is_settled (values st) (literals_of (stored_of st) d)) _ all).0
    go (d ∷ cs) (suc i) all below =
        go cs i (both (is_settled (values st) (literals_of (stored_of st) d)) _ all).1 (omega (arith, below))
