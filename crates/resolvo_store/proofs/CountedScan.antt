-- The clause that the counters tell is the first falsified one of the scan. N are the names, S the solvables.
use Rattle.std.proofs.Common.{◌≡◌, ℕ, zero, suc, ◌+◌, ◌<◌, Bool, true, false, not, ◌&&◌, ◌||◌, cond, ltb, eqb, List}
use Rattle.std.proofs.Common.{[], ◌∷◌, ◌++◌, length, get_or, map, Option, Some, None, option_map, refl, sym, ap, ◌∙◌}
use Rattle.std.proofs.Common.{subst, arith}
use Rattle.std.specs.Prelude.{slice_get, All}
use Rattle.std.proofs.lemmas.List.{get_or-map, length-map}
use Rattle.std.proofs.lemmas.List.Folds.{list_all-append, list_all-map}
use Rattle.std.proofs.lemmas.Option.{slice_get_within, get_or_from_slice_get}
use Rattle.clauses.specs.declared.disjunction.Disjunction.{Disjunction}
use Rattle.falsified_clauses.specs.Clauses.{clause_at as placed_clause}
use Rattle.falsified_clauses.specs.Falsified.{is_falsified as is_counted_falsified}
use Rattle.resolvo_queue.proofs.Falsified.First.{falsified_by}
use Rattle.resolvo_queue.proofs.Falsified.Least.{first_to_pass, none_to_pass, not_before_is_after}
use Rattle.resolvo_store.proofs.Words.{all_false, are_literals_false, CanWalk, clause_at, Counted, counted, demand_of}
use Rattle.resolvo_store.proofs.Words.{Equal, first_falsified, Greater, is_after, is_false_literal, is_falsified, is_lt}
use Rattle.resolvo_store.proofs.Words.{IsFirstFalsified, known_false, known_true, Less, list_all, list_rows}
use Rattle.resolvo_store.proofs.Words.{lists_found, lists_loaded, lists_or_none, literals_in, lookup, no_clause}
use Rattle.resolvo_store.proofs.Words.{ordering_then, placed, placed_in, PlacedDemand, Position, position_at}
use Rattle.resolvo_store.proofs.Words.{References, references, Requirement, RequiresClause, rows, rows_in}
use Rattle.resolvo_store.proofs.Words.{same_requirement, sets_of, Universe, Values, Vec, VersionSetId, zip}

-- ---- positions

-- what doesn't come before another isn't less than it
not_less : (lp ep lo eo : Bool) → (lp || (ep && lo)) ≡ false
    → is_lt (ordering_then (cond lp Less (cond ep Equal Greater)) (cond lo Less (cond eo Equal Greater))) ≡ false
not_less true ep lo eo h = (let no : true ≡ false = h in cc)
not_less false true true eo h = (let no : true ≡ false = h in cc)
not_less false true false true h = refl
not_less false true false false h = refl
not_less false false lo eo h = refl

not_after : (a b c d : ℕ) → (ltb c a || (eqb c a && ltb d b)) ≡ false
    → is_after (record { first_of_parent = a; number = b }) (record { first_of_parent = c; number = d }) ≡ false
not_after a b c d h =
    not_before_is_after (record { first_of_parent = c; number = d }) (record { first_of_parent = a; number = b })
    (not_less (ltb c a) (eqb c a) (ltb d b) (eqb d b) h)

-- ---- the clause at a number

-- a number within the list has a clause
not_past : (cs : List RequiresClause) (n : ℕ) → n < length cs → slice_get cs n ≡ None → ⊥
not_past [] n l at = omega (arith, l)
not_past (c ∷ cs) zero l at = (let no : Some c ≡ None = at in cc)
not_past (c ∷ cs) (suc n) l at = not_past cs n (omega (arith, l)) at

-- ---- one clause

known_true_is : (o : Option Bool) → known_false (option_map not o) ≡ known_true o
known_true_is None = refl
known_true_is (Some true) = refl
known_true_is (Some false) = refl

module _ (val : Values) where
  rows_false : (sets : List VersionSetId) (lists : List (List ℕ)) → length lists ≡ length sets
      → all_false val (rows sets lists) ≡ list_all (list_all (λ v. known_false (val v))) lists
  rows_false [] [] many = refl
  rows_false [] (l ∷ ls) many = (let no : suc (length ls) ≡ 0 = many in absurd (omega (arith, no)))
  rows_false (s ∷ sets) [] many = (let no : 0 ≡ suc (length sets) = many in absurd (omega (arith, no)))
  rows_false (s ∷ sets) (l ∷ ls) many =
      let rest : length ls ≡ length sets = omega (arith, many) in
      list_all-append (λ row. known_false (val row.variable)) (list_rows s l) (rows sets ls)
      ∙ (ap (λ b. b && all_false val (rows sets ls)) (list_all-map (λ row. known_false (val row.variable))
      (λ x. record { set = s; variable = x }) l)
      ∙ ap (λ b. list_all (λ v. known_false (val v)) l && b) (rows_false sets ls rest))

and_grouped : (a b c : Bool) → ((a && b) && c) ≡ (a && (b && c))
and_grouped true b c = refl
and_grouped false b c = refl

lists_same : {A : Type 0} (o : Option (Vec (Vec ℕ A) A)) → lists_found o ≡ lists_or_none o
lists_same None = refl
lists_same (Some lists) = refl

module _ {N S A : Type 0} (universe : Universe N S) (loaded : List (Requirement × Vec (Vec ℕ A) A))
    (ds : List (Disjunction A)) (val : Values)
    (requires : List RequiresClause) (walkable : All (CanWalk (references universe loaded ds)) requires) where
  abbrev refs : References N S A
  refs = references universe loaded ds

  abbrev passes : RequiresClause → Bool
  passes = is_falsified val (literals_in refs) (rows_in refs)

  abbrev shown : Counted A
  shown = counted loaded ds (placed requires) (is_false_literal val)

  -- a clause is falsified for the counters where it is for the scan
  same_test : (n : ℕ) (c : RequiresClause) → slice_get requires n ≡ Some c →
      is_counted_falsified shown (demand_of c) ≡ passes c
  same_test n c at =
      let p : Bool = known_true (val c.parent) in
      let l : Bool = are_literals_false val (literals_in refs c.condition) in
      let lists = lists_loaded loaded c.requirement in
      let can : CanWalk refs c = subst (CanWalk refs) (get_or_from_slice_get requires n c c at)
      (walkable n c (slice_get_within requires n c at)) in
      let r : list_all (list_all (λ v. known_false (val v))) (lists_found
      (lookup (same_requirement c.requirement) loaded)) ≡ all_false val (rows_in refs c.requirement) =
      ap (list_all (list_all (λ v. known_false (val v)))) (lists_same (lookup (same_requirement c.requirement) loaded))
      ∙ sym (rows_false val (sets_of universe c.requirement) lists can.one_a_set) in
      ap (λ b. (b && l) && list_all (list_all (λ v. known_false (val v)))
      (lists_found (lookup (same_requirement c.requirement) loaded))) (known_true_is (val c.parent))
      ∙ (ap (λ b. (p && l) && b) r ∙ (and_grouped p l (all_false val (rows_in refs c.requirement))
      ∙ sym (falsified_by val (literals_in refs) (rows_in refs) c)))

  read_at : (n : ℕ) (c : RequiresClause) → slice_get requires n ≡ Some c → placed_clause shown n ≡ placed_in requires c
  read_at n c at = get_or-map (placed_in requires) requires n c no_clause (slice_get_within requires n c at)
      ∙ ap (placed_in requires) (get_or_from_slice_get requires n c c at)

  test_at : (n : ℕ) (c : RequiresClause) → slice_get requires n ≡ Some c →
      is_counted_falsified shown (placed_clause shown n).demand ≡ passes c
  test_at n c at = ap (λ (x : PlacedDemand). is_counted_falsified shown x.demand) (read_at n c at) ∙ same_test n c at

  within : (n : ℕ) (c : RequiresClause) → slice_get requires n ≡ Some c → n < length (placed requires)
  within n c at = subst (λ m. n < m) (sym (length-map requires (placed_in requires))) (slice_get_within requires n c at)

  -- so what the counters tell is the first of the scan
  pub first_counted : (answer : Option ℕ) → IsFirstFalsified shown answer →
      clause_at requires answer ≡ first_falsified val (literals_in refs) (rows_in refs) requires
  first_counted None first = sym (none_to_pass requires passes (λ n c at. sym (test_at n c at)
      ∙ first n (within n c at)))
  first_counted (Some number) first = found (slice_get requires number) refl
    where
      found : (o : Option RequiresClause) → slice_get requires number ≡ o →
          slice_get requires number ≡ first_falsified val (literals_in refs) (rows_in refs) requires
      found None at = absurd (not_past requires number (subst (λ m. number < m)
          (length-map requires (placed_in requires)) first.0) at)
      found (Some c) at = at ∙ sym (first_to_pass requires passes number c (record {
        at = at;
        passes_itself = sym (test_at number c at) ∙ first.1;
        least = λ n d is held. not_after (position_at requires number c).first_of_parent number
            (position_at requires n d).first_of_parent n
            (subst (λ (x : PlacedDemand × PlacedDemand).
            (ltb x.0.first_of_parent x.1.first_of_parent || (eqb x.0.first_of_parent x.1.first_of_parent && ltb n
            number)) ≡ false) (λ i. (read_at n d is i, read_at number c at i))
            (first.2 n (within n d is) (test_at n d is ∙ held)));
      }))
