-- What stores name is known: what variables stand for, and what clauses name. N are the names, S the solvables.
use Rattle.std.proofs.Common.{◌≡◌, ℕ, ◌+◌, ◌<◌, ◌≤◌, arith, Bool, true, false, List, [], ◌∷◌, ◌++◌, length, Option}
use Rattle.std.proofs.Common.{None, Some, refl, subst, zero, suc}
use Rattle.std.specs.Prelude.{All, ◌&&◌, if◌then◌else◌}
use Rattle.std.proofs.lemmas.Bool.Decides.{nat_tests}
use Rattle.std.proofs.lemmas.List.Elements.{All-nil, All-cons, All-head, All-tail, All-push, All-append, All-take}
use Rattle.std.proofs.lemmas.List.Elements.{All-drop, All-filter}
use Rattle.std.proofs.lemmas.List.Sorted.{All-permutation}
use Rattle.variables.specs.Variables.{with_variable}
use Rattle.resolvo_store.proofs.Words.{Clause, favored_first, flat_map, from_place, is_some, IsKnown, IsKnownClause}
use Rattle.resolvo_store.proofs.Words.{IsPermutation, knows_origin, list_all, Lit, matching, names_known, nat_lt}
use Rattle.resolvo_store.proofs.Words.{position_from, remove, Solvable, sorted, Universe, variable_of}
use Rattle.resolvo_store.proofs.Words.{variable_of_solvable, VariableOrigin, VersionSetId, with_variables}
use Rattle.resolvo_store.specs.Store.{Provider}
use Rattle.resolvo_store.proofs.AddingLemmas.{both}
use Rattle.clauses.specs.declared.clause.Clause.TheVariants as Kind

module _ {N S : Type 0} (universe : Universe N S) where
  -- what the origin names is known
  abbrev pub IsKnownOrigin : VariableOrigin N S → Type 0
  IsKnownOrigin o = knows_origin universe o ≡ true

  abbrev pub IsKnownSolvable : S → Type 0
  IsKnownSolvable s = universe.knows_solvable s ≡ true

  -- ---- variables

  -- a variable among known origins is known
  pub variable_known : (os : List (VariableOrigin N S)) → All IsKnownOrigin os → (v : ℕ) → v < length os →
      IsKnown universe os v
  variable_known [] all v within = absurd (omega (arith, within))
  variable_known (o ∷ os) all zero within = All-head IsKnownOrigin o os all
  variable_known (o ∷ os) all (suc v) within =
      variable_known os (All-tail IsKnownOrigin o os all) v (omega (arith, within))

  -- a known one is among them
  pub known_within : (os : List (VariableOrigin N S)) (v : ℕ) → IsKnown universe os v → v < length os
  known_within [] zero known = (let no : false ≡ true = known in cc)
  known_within [] (suc v) known = (let no : false ≡ true = known in cc)
  known_within (o ∷ os) zero known = omega arith
  known_within (o ∷ os) (suc v) known = omega (arith, known_within os v known)

  module _ (same : S → S → Bool) where
    known-with : (os : List (VariableOrigin N S)) (s : S) → IsKnownSolvable s → All IsKnownOrigin os →
        All IsKnownOrigin (with_variable same os s)
    known-with os s known all =
        elim (is_some (variable_of_solvable same os s)) as (λ b. All IsKnownOrigin
        (if b then os else os ++ Solvable s ∷ []))
        [ true ↦ all | false ↦ All-push IsKnownOrigin os (Solvable s) all known ]

    -- once known solvables have variables, what variables stand for is known still
    pub known-with_variables : (os : List (VariableOrigin N S)) (ss : List S) → All IsKnownSolvable ss →
        All IsKnownOrigin os → All IsKnownOrigin (with_variables same os ss)
    known-with_variables os [] known all = all
    known-with_variables os (s ∷ ss) known all =
        known-with_variables (with_variable same os s) ss (All-tail IsKnownSolvable s ss known)
        (known-with os s (All-head IsKnownSolvable s ss known) all)

  -- ---- clauses

  module _ (os more : List (VariableOrigin N S)) (longer : length os ≤ length more) (all : All IsKnownOrigin more) where
    kept : (v : ℕ) → IsKnown universe os v → IsKnown universe more v
    kept v known = variable_known more all v (omega (arith, known_within os v known, longer))

    -- what a clause names is known still where there are more variables
    pub clause_kept : (c : Clause N) → IsKnownClause universe os c → IsKnownClause universe more c
    clause_kept Kind.InstallRoot k = k
    clause_kept (Kind.Requires parent d r) k = (kept parent k.0, k.1)
    clause_kept (Kind.ForbidMultipleInstances a l n) k = (kept a k.0, kept _ k.1, k.2)
    clause_kept (Kind.Constrains a b v) k = (kept a k.0, kept b k.1, k.2)
    clause_kept (Kind.ConstrainsExcluded a aux v) k = (kept a k.0, kept aux k.1, k.2)
    clause_kept (Kind.ConstrainsParent a aux v) k = (kept a k.0, kept aux k.1, k.2)
    clause_kept (Kind.Lock locked other) k = (kept locked k.0, kept other k.1)
    clause_kept (Kind.Learnt id) k = k
    clause_kept (Kind.Excluded a reason) k = (kept a k.0, k.1)
    clause_kept (Kind.AnyOf selected other) k = (kept selected k.0, kept other k.1)

  -- by the tests of a command that adds a clause
  module _ (os : List (VariableOrigin N S)) (all : All IsKnownOrigin os) where
    known_one : (v : ℕ) → nat_lt v (length os) ≡ true → IsKnown universe os v
    known_one v test = variable_known os all v (let within : v < length os = grind (arith, nat_tests, test) in within)

    known_two : (v w : ℕ) → (nat_lt v (length os) && nat_lt w (length os)) ≡ true → IsKnown universe os v
        × IsKnown universe os w
    known_two v w test =
        let tests = both (nat_lt v (length os)) (nat_lt w (length os)) test in
        (known_one v tests.0, known_one w tests.1)

    known_three : (v w : ℕ) (third : Bool) → ((nat_lt v (length os) && nat_lt w (length os)) && third) ≡ true
        → IsKnown universe os v × IsKnown universe os w × (third ≡ true)
    known_three v w third test =
        let tests = both (nat_lt v (length os) && nat_lt w (length os)) third test in
        let two = known_two v w tests.0 in
        (two.0, two.1, tests.1)

    pub known_direct : (c : Clause N) → names_known universe (length os) c ≡ true → IsKnownClause universe os c
    known_direct Kind.InstallRoot test = tt
    known_direct (Kind.Constrains a b v) test = known_three a b (universe.knows_set v) test
    known_direct (Kind.ConstrainsExcluded a aux v) test = known_three a aux (universe.knows_set v) test
    known_direct (Kind.ConstrainsParent a aux v) test = known_three a aux (universe.knows_set v) test
    known_direct (Kind.Lock locked other) test = known_two locked other test
    known_direct (Kind.Excluded a reason) test =
        let tests = both (nat_lt a (length os)) (universe.knows_string reason) test in
        (known_one a tests.0, tests.1)
    known_direct (Kind.AnyOf selected other) test = known_two selected other test
    known_direct (Kind.Requires parent d r) test = absurd (let no : false ≡ true = test in cc)
    known_direct (Kind.ForbidMultipleInstances a l n) test = absurd (let no : false ≡ true = test in cc)
    known_direct (Kind.Learnt id) test = tt

-- literals that pass the test are of variables below the number
pub literals_below : (n : ℕ) (ls : List Lit) → list_all (λ l. nat_lt (variable_of l) n) ls ≡ true →
    All (λ l. variable_of l < n) ls
literals_below n [] test = All-nil (λ l. variable_of l < n)
literals_below n (l ∷ ls) test =
    let tests = both (nat_lt (variable_of l) n) (list_all (λ m. nat_lt (variable_of m) n) ls) test in
    let below : variable_of l < n = (let own = tests.0 in grind (arith, nat_tests, own)) in
    All-cons (λ m. variable_of m < n) l ls below (literals_below n ls tests.1)

-- ---- candidates

-- what passes a test somewhere in a list is like all of the list
found_is : {X : Type 0} (P : X → Type 0) (test : X → Bool) (x : X) → ((y : X) → test y ≡ true → y ≡ x) →
    (i p : ℕ) (xs : List X)
    → position_from test i xs ≡ Some p → All P xs → P x
found_is P test x only i p [] found all = (let no : ◌≡◌ {A = Option ℕ} None (Some p) = found in cc)
found_is P test x only i p (y ∷ ys) found all =
    (elim (test y) as (λ b. test y ≡ b → (if b then Some i else position_from test (i + 1) ys) ≡ Some p → P x) [
      | true ↦ λ t f. subst P (only y t) (All-head P y ys all)
      | false ↦ λ t f. found_is P test x only (i + 1) p ys f (All-tail P y ys all)
    ]) refl found

-- the laws of a provider and its ids by which its candidates are known
pub record IsLawful {N S : Type 0} (p : Provider N S) : Type 0 where
  pub reflexive : (s : S) → p.same_solvable s s ≡ true
  pub same : (s t : S) → p.same_solvable s t ≡ true → s ≡ t
  pub same_names : (n m : N) → p.same_name n m ≡ true → n ≡ m
  pub candidates : (n : N) → All (IsKnownSolvable p.universe) (p.answers.candidates n)
  pub order : (list : List S) → IsPermutation list (p.answers.order list)

module _ {N S : Type 0} (p : Provider N S) (is : IsLawful p) where
  abbrev Known : S → Type 0
  Known = IsKnownSolvable p.universe

  favored_known : (o : Option S) (list : List S) → All Known list → All Known (favored_first p.same_solvable o list)
  favored_known None list all = all
  favored_known (Some s) list all = by_place (position_from (λ t. p.same_solvable t s) 0 list) refl
    where
      by_place : (o : Option ℕ) → position_from (λ t. p.same_solvable t s) 0 list ≡ o → All Known (from_place s list o)
      by_place None found = all
      by_place (Some place) found =
          All-cons Known s (remove list place) (found_is Known (λ t. p.same_solvable t s) s
          (λ t h. is.same t s h) 0 place list found all)
          (All-append Known _ _ (All-take Known place list all) (All-drop Known (suc place) list all))

  -- the candidates of a version set are known
  pub sorted_known : (v : VersionSetId) → All Known (sorted p.universe p.answers p.same_solvable v)
  sorted_known v =
      let name = p.universe.set_name v in
      favored_known (p.answers.favored name) (p.answers.order (matching p.universe p.answers v))
      (All-permutation Known (matching p.universe p.answers v) _ (is.order (matching p.universe p.answers v))
      (All-filter _ Known (p.answers.candidates name) (is.candidates name)))

  -- so are those of several, one after the other
  pub all_known : (vs : List VersionSetId) → All Known (flat_map (sorted p.universe p.answers p.same_solvable) vs)
  all_known [] = All-nil Known
  all_known (v ∷ vs) = All-append Known (sorted p.universe p.answers p.same_solvable v) _ (sorted_known v)
      (all_known vs)
