-- The variables of all clauses' literals are the store's. N are the names, S the solvables.
use Rattle.std.proofs.Common.{◌≡◌, ℕ, ◌<◌, arith, Bool, true, false, cond, List, [], ◌∷◌, ◌++◌, length, map, Option}
use Rattle.std.proofs.Common.{None, Some, refl, sym, subst, zero, suc}
use Rattle.std.specs.Prelude.{All, ◌||◌, slice_get, option_map}
use Rattle.std.proofs.lemmas.List.Elements.{All-nil, All-cons, All-head, All-tail, All-append, All-map, All-weaker}
use Rattle.std.proofs.lemmas.Option.{slice_get_within}
use Rattle.variables.specs.declared.variable_origin.VariableOrigin.TheVariants.{Root}
use Rattle.watch_map.proofs.WatchingLaws.{same_is}
use Rattle.resolvo_store.proofs.Words.{AreLiterals, Clause, clause_literals, condition_literals, flat_map}
use Rattle.resolvo_store.proofs.Words.{is_literal_in, IsKnown, IsKnownClause, IsLoaded, IsSound, IsVariable, lists_of}
use Rattle.resolvo_store.proofs.Words.{Lit, literals_of, lookup, Neg, Pos, Requirement, same_literal, same_requirement}
use Rattle.resolvo_store.proofs.Words.{Store, stored_of, StoredDisjunction, unwrap_or, variable_of}
use Rattle.resolvo_store.proofs.KnownLemmas.{known_within}
use Rattle.clauses.specs.declared.clause.Clause.TheVariants as Kind

-- ---- lists

-- what is true of all members of lists is true of those of the list at a place, none where there is none
all_at : {X : Type 0} (P : X → Type 0) (xs : List (List X)) (i : ℕ) → All (All P) xs →
    All P (unwrap_or (slice_get xs i) [])
all_at P [] i all = All-nil P
all_at P (x ∷ xs) zero all = All-head (All P) x xs all
all_at P (x ∷ xs) (suc i) all = all_at P xs i (All-tail (All P) x xs all)

module _ (n : ℕ) where
  abbrev IsBelow : ℕ → Type 0
  IsBelow v = v < n

  abbrev IsOfBelow : Lit → Type 0
  IsOfBelow l = IsBelow (variable_of l)

  -- a literal is of a variable below the number, if it is one of such
  member_below : (l : Lit) (ls : List Lit) → All IsOfBelow ls → is_literal_in l ls ≡ true → IsOfBelow l
  member_below l [] all h = absurd (let no : false ≡ true = h in cc)
  member_below l (m ∷ ls) all h = by_same (same_literal l m) refl (member_below l ls (All-tail IsOfBelow m ls all)) h
    where
      by_same : (b : Bool) → same_literal l m ≡ b → (is_literal_in l ls ≡ true → IsOfBelow l) →
          (b || is_literal_in l ls) ≡ true → IsOfBelow l
      by_same true e later k = subst IsOfBelow (sym (same_is l m e)) (All-head IsOfBelow m ls all)
      by_same false e later k = later k

  -- so are the literals of candidates
  candidates_below : (lists : List (List ℕ)) → All (All IsBelow) lists → All IsOfBelow (flat_map (map Pos) lists)
  candidates_below [] all = All-nil IsOfBelow
  candidates_below (list ∷ lists) all =
      All-append IsOfBelow (map Pos list) (flat_map (map Pos) lists)
      (All-map IsOfBelow Pos list (All-head (All IsBelow) list lists all))
      (candidates_below lists (All-tail (All IsBelow) list lists all))

  -- and the lists that are found for a requirement are of variables below it
  found_below : (r : Requirement) (es : List (Requirement × List (List ℕ))) → All (λ e. All (All IsBelow) e.1) es
      → All (All IsBelow) (unwrap_or (lookup (same_requirement r) es) [])
  found_below r [] all = All-nil (All IsBelow)
  found_below r (e ∷ es) all =
      elim (same_requirement r e.0) as (λ b. All (All IsBelow)
      (unwrap_or (cond b (Some e.1) (lookup (same_requirement r) es)) [])) [
        | true ↦ All-head (λ x. All (All IsBelow) x.1) e es all
        | false ↦
            found_below r es (All-tail (λ x. All (All IsBelow) x.1) e es all)
      ]

-- ---- clauses

-- a clause that has a literal is one of the store's
pub clause_there : {N S : Type 0} (st : Store N S) (c : ℕ) (l : Lit) →
    is_literal_in l (clause_literals st c) ≡ true → c < length st.clauses
clause_there {N = N} st c l h = go st.clauses c h
  where
    go : (cs : List (Clause N)) (i : ℕ) →
        is_literal_in l (unwrap_or (option_map (literals_of (stored_of st)) (slice_get cs i)) []) ≡ true → i < length cs
    go [] i k = (let no : false ≡ true = k in cc)
    go (d ∷ cs) zero k = omega arith
    go (d ∷ cs) (suc i) k = omega (arith, go cs i k)

module _ {N S : Type 0} (st : Store N S) (sound : IsSound st) where
  abbrev Known : Lit → Type 0
  Known l = IsVariable st (variable_of l)

  variable_within : (v : ℕ) → IsKnown st.provider.universe st.origins v → IsVariable st v
  variable_within v known = known_within st.provider.universe st.origins v known

  -- the root is a variable
  root_within : IsVariable st 0
  root_within = slice_get_within st.origins 0 Root sound.root_first

  one : (l : Lit) → Known l → All Known (l ∷ [])
  one l a = All-cons Known l [] a (All-nil Known)

  two : (l m : Lit) → Known l → Known m → All Known (l ∷ m ∷ [])
  two l m a b = All-cons Known l (m ∷ []) a (one m b)

  condition_known : (d : Option ℕ) → All Known (condition_literals (stored_of st) d)
  condition_known None = All-nil Known
  condition_known (Some d) =
      all_at Known (map (λ (x : StoredDisjunction). x.literals) st.disjunctions) d
      (All-map (AreLiterals st) (λ (x : StoredDisjunction). x.literals) st.disjunctions sound.disjunctions_known)

  candidates_known : (r : Requirement) → All Known (flat_map (map Pos) (unwrap_or (lists_of st r) []))
  candidates_known r =
      candidates_below (length st.origins) (unwrap_or (lists_of st r) [])
      (found_below (length st.origins) r st.loaded (All-weaker (IsLoaded st) (λ e. All (All (IsVariable st)) e.1)
      (λ e k. k.variables) st.loaded sound.loaded))

  of_clause : (c : Clause N) → IsKnownClause st.provider.universe st.origins c →
      All Known (literals_of (stored_of st) c)
  of_clause Kind.InstallRoot k = one (Pos 0) root_within
  of_clause (Kind.Requires parent d r) k =
      All-cons Known (Neg parent) (condition_literals (stored_of st) d ++ flat_map (map Pos)
      (unwrap_or (lists_of st r) [])) (variable_within parent k.0)
      (All-append Known (condition_literals (stored_of st) d) (flat_map (map Pos) (unwrap_or (lists_of st r) []))
      (condition_known d) (candidates_known r))
  of_clause (Kind.ForbidMultipleInstances a l n) k =
      two (Neg a) l (variable_within a k.0) (variable_within (variable_of l) k.1)
  of_clause (Kind.Constrains a b v) k = two (Neg a) (Neg b) (variable_within a k.0) (variable_within b k.1)
  of_clause (Kind.ConstrainsExcluded a aux v) k =
      two (Neg a) (Pos aux) (variable_within a k.0) (variable_within aux k.1)
  of_clause (Kind.ConstrainsParent a aux v) k = two (Neg a) (Neg aux) (variable_within a k.0) (variable_within aux k.1)
  of_clause (Kind.Lock locked other) k = two (Neg other) (Neg 0) (variable_within other k.1) root_within
  of_clause (Kind.Learnt id) k = all_at Known st.learnt id sound.learnt_known
  of_clause (Kind.Excluded a reason) k = one (Neg a) (variable_within a k.0)
  of_clause (Kind.AnyOf selected other) k =
      two (Pos selected) (Neg other) (variable_within selected k.0) (variable_within other k.1)

  -- the variable of a clause's literal is the store's
  pub literal_known : (c : ℕ) (l : Lit) → is_literal_in l (clause_literals st c) ≡ true → IsVariable st (variable_of l)
  literal_known c l h = go st.clauses c sound.clauses_known h
    where
      go : (cs : List (Clause N)) (i : ℕ) → All (IsKnownClause st.provider.universe st.origins) cs
          → is_literal_in l (unwrap_or (option_map (literals_of (stored_of st)) (slice_get cs i)) []) ≡ true →
          IsVariable st (variable_of l)
      go [] i all k = (let no : false ≡ true = k in cc)
      go (d ∷ cs) zero all k =
          member_below (length st.origins) l (literals_of (stored_of st) d)
          (of_clause d (All-head (IsKnownClause st.provider.universe st.origins) d cs all)) k
      go (d ∷ cs) (suc i) all k = go cs i (All-tail (IsKnownClause st.provider.universe st.origins) d cs all) k
