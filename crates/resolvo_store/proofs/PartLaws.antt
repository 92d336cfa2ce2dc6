-- What is true of a store's lists stays true of each where it grows or is cut back.
use Rattle.std.proofs.Common.{◌≡◌, ℕ, ◌+◌, ◌<◌, Bool, true, false, cond, List, [], ◌∷◌, ◌++◌, length, map}
use Rattle.std.proofs.Common.{Option, None, Some, IsSome, refl, arith, sym, ◌∙◌, ap, subst, zero, suc}
use Rattle.std.specs.Prelude.{◌==◌, take, slice_get, All, ◌||◌}
use Rattle.std.proofs.lemmas.Bool.Decides.{nat_tests}
use Rattle.std.proofs.lemmas.Bool.{eqb-true}
use Rattle.std.proofs.lemmas.List.Elements.{All-nil, All-cons, All-head, All-tail}
use Rattle.variables.specs.Variables.{with_variable}
use Rattle.variables.proofs.VariableLemmas.{or_else, position_within, position-append, root-append}
use Rattle.variables.proofs.InterningLemmas.{variable-kept, kept-all, variable-with_variable}
use Rattle.resolvo_store.proofs.Words.{Clause, entries_until, Entry, flat_map, interned_variable, is_solvable, is_some}
use Rattle.resolvo_store.proofs.Words.{IsEquivalence, IsOnce, IsRootFirst, list_all, list_any, lookup, nat_lt}
use Rattle.resolvo_store.proofs.Words.{Requirement, requires_from, same_requirement, Single, Solvable, Union, unwrap_or}
use Rattle.resolvo_store.proofs.Words.{val, variable_of_solvable, VariableOrigin, with_variables}
use Rattle.clauses.specs.declared.clause.Clause.TheVariants as Kind

-- ---- lists

-- what stands in a list with one more stands in the list, or is the one at its end
pub slice_get-push_cases : {X : Type 0} (P : Type 0) (xs : List X) (x : X) (i : ℕ) (y : X) →
    slice_get (xs ++ x ∷ []) i ≡ Some y
    → (slice_get xs i ≡ Some y → P) → (i ≡ length xs → x ≡ y → P) → P
slice_get-push_cases P [] x zero y e before last = last refl cc
slice_get-push_cases {X} P [] x (suc i) y e before last = absurd (let no : ◌≡◌ {A = Option X} None (Some y) = e in cc)
slice_get-push_cases P (z ∷ xs) x zero y e before last = before e
slice_get-push_cases P (z ∷ xs) x (suc i) y e before last =
    slice_get-push_cases P xs x i y e before (λ k. last (omega (arith, k)))

-- what is true of the members of a list is true of its front, and of the rest
All-split : {X : Type 0} (P : X → Type 0) (xs ys : List X) → All P (xs ++ ys) → All P xs × All P ys
All-split P [] ys all = (All-nil P, all)
All-split P (x ∷ xs) ys all =
    let rest = All-split P xs ys (All-tail P x (xs ++ ys) all) in
    (All-cons P x xs (All-head P x (xs ++ ys) all) rest.0, rest.1)

-- what is true of the members of each list is true of each list's members
pub All-lists : {X Y : Type 0} (P : Y → Type 0) (f : X → List Y) (xs : List X) → All P (flat_map f xs) →
    All (λ x. All P (f x)) xs
All-lists P f [] all = All-nil (λ x. All P (f x))
All-lists P f (x ∷ xs) all =
    let split = All-split P (f x) (flat_map f xs) all in
    All-cons (λ z. All P (f z)) x xs split.0 (All-lists P f xs split.1)

-- ---- requirements

pub same_requirement-equivalence : IsEquivalence same_requirement
same_requirement-equivalence = record { refl = reflexive; symm = symmetric; congr = congruent }
  where
    reflexive : (r : Requirement) → same_requirement r r ≡ true
    reflexive (Single v) = grind (arith, nat_tests)
    reflexive (Union u) = grind (arith, nat_tests)

    symmetric : (r s : Requirement) → same_requirement r s ≡ same_requirement s r
    symmetric (Single v) (Single w) = grind (arith, nat_tests)
    symmetric (Single v) (Union w) = refl
    symmetric (Union v) (Single w) = refl
    symmetric (Union v) (Union w) = grind (arith, nat_tests)

    congruent : (r s t : Requirement) → same_requirement r s ≡ true → same_requirement r t ≡ same_requirement s t
    congruent (Single v) (Single w) (Single x) h = let e = eqb-true v.0 w.0 h in rw e refl
    congruent (Single v) (Single w) (Union x) h = refl
    congruent (Union v) (Union w) (Union x) h = let e = eqb-true v.0 w.0 h in rw e refl
    congruent (Union v) (Union w) (Single x) h = refl
    congruent (Single v) (Union w) t h = let no : false ≡ true = h in cc
    congruent (Union v) (Single w) t h = let no : false ≡ true = h in cc

module _ {X : Type 0} where
  -- a requirement that isn't found has no entry
  pub not_among : (r : Requirement) (es : List (Requirement × X)) → lookup (same_requirement r) es ≡ None
      → list_any (same_requirement r) (map (λ e. e.0) es) ≡ false
  not_among r [] none = refl
  not_among r (e ∷ es) none =
      (elim (same_requirement r e.0) as (λ b. cond b (Some e.1) (lookup (same_requirement r) es) ≡ None →
      (b || list_any (same_requirement r) (map (λ x. x.0) es)) ≡ false)
      [ true ↦ λ h. cc | false ↦ λ h. not_among r es h ]) none

  -- what is found is found before one more entry too
  pub found-push : (r : Requirement) (es : List (Requirement × X)) (e : Requirement × X) →
      IsSome (lookup (same_requirement r) es)
      → IsSome (lookup (same_requirement r) (es ++ e ∷ []))
  found-push r [] e h = let no : false ≡ true = h in cc
  found-push r (f ∷ es) e h =
      (elim (same_requirement r f.0) as (λ b. IsSome (cond b (Some f.1) (lookup (same_requirement r) es)) →
      IsSome (cond b (Some f.1) (lookup (same_requirement r) (es ++ e ∷ []))))
      [ true ↦ λ k. k | false ↦ λ k. found-push r es e k ]) h

-- ---- clauses

-- the requires clauses among these and one more
pub requires_from-push : {N : Type 0} (id last : ℕ) (cs : List (Clause N)) (c : Clause N) → last ≡ id + length cs
    → requires_from id (cs ++ c ∷ []) ≡ requires_from id cs ++ requires_from last (c ∷ [])
requires_from-push id last [] c e = ap (λ n. requires_from n (c ∷ [])) (let same : id ≡ last = omega (arith, e) in same)
requires_from-push id last (Kind.Requires parent disjunction r ∷ cs) c e =
    ap (λ rs. record { parent = parent; requirement = r; condition = disjunction; clause_id = id } ∷ rs)
    (requires_from-push (id + 1) last cs c (omega (arith, e)))
requires_from-push id last (d ∷ cs) c e = requires_from-push (id + 1) last cs c (omega (arith, e))

-- ---- variables

module _ {N S : Type 0} (same : S → S → Bool) where
  -- each variable of a solvable is the one that is found for it
  abbrev pub OneEach : List (VariableOrigin N S) → Type 0
  OneEach os = (v : ℕ) (s : S) → slice_get os v ≡ Some (Solvable s) → variable_of_solvable same os s ≡ Some v

  -- what is true of variables
  pub record AreVariables (os : List (VariableOrigin N S)) : Type 0 where
    pub root_first : IsRootFirst os
    pub one_each : OneEach os

  module _ (reflexive : (s : S) → same s s ≡ true) where
    AreVariables-push : (os : List (VariableOrigin N S)) (s : S) → variable_of_solvable same os s ≡ None →
        AreVariables os → AreVariables (os ++ Solvable s ∷ [])
    AreVariables-push os s new are = record {
      root_first = root-append os (Solvable s) are.root_first;
      one_each = λ v t e.
          slice_get-push_cases (variable_of_solvable same (os ++ Solvable s ∷ []) t ≡ Some v) os (Solvable s) v
          (Solvable t) e
          (λ k. variable-kept same t (Solvable s) v os (are.one_each v t k))
          (λ k l. last v t k cc);
    }
      where
        last : (v : ℕ) (t : S) → v ≡ length os → s ≡ t → variable_of_solvable same (os ++ Solvable s ∷ []) t ≡ Some v
        last v t k l =
            subst (λ x. variable_of_solvable same (os ++ Solvable s ∷ []) x ≡ Some v) l
            (position-append (is_solvable same s) (Solvable s) 0 (length os) os (omega arith)
            ∙ ap (λ p. or_else p (cond (same s s) (Some (length os)) None)) new
            ∙ ap (λ b. cond b (Some (length os)) None) (reflexive s) ∙ ap Some (sym k))

    AreVariables-with : (os : List (VariableOrigin N S)) (s : S) → AreVariables os →
        AreVariables (with_variable same os s)
    AreVariables-with os s are = by_known (variable_of_solvable same os s) refl
      where
        by_known : (p : Option ℕ) → variable_of_solvable same os s ≡ p →
            AreVariables (cond (is_some p) os (os ++ Solvable s ∷ []))
        by_known (Some v) h = are
        by_known None h = AreVariables-push os s h are

    pub AreVariables-with_all : (os : List (VariableOrigin N S)) (ss : List S) → AreVariables os →
        AreVariables (with_variables same os ss)
    AreVariables-with_all os [] are = are
    AreVariables-with_all os (s ∷ ss) are =
        AreVariables-with_all (with_variable same os s) ss (AreVariables-with os s are)

    -- a solvable that has a variable is found below the length
    interned_within : (os : List (VariableOrigin N S)) (s : S) (v : ℕ) → variable_of_solvable same os s ≡ Some v →
        interned_variable same os s < length os
    interned_within os s v h =
        subst (λ p. unwrap_or p (length os) < length os) (sym h)
        (omega (arith, position_within (is_solvable same s) 0 v os h))

    -- solvables that got variables have them
    pub interned_all : (os : List (VariableOrigin N S)) (ss : List S)
        → All (λ s. interned_variable same (with_variables same os ss) s < length (with_variables same os ss)) ss
    interned_all os [] = All-nil (λ s. interned_variable same os s < length os)
    interned_all os (s ∷ ss) =
        let after : List (VariableOrigin N S) = with_variables same (with_variable same os s) ss in
        All-cons (λ t. interned_variable same after t < length after) s ss
        (interned_within after s (interned_variable same os s)
        (kept-all same s (interned_variable same os s) (with_variable same os s) ss
        (variable-with_variable same reflexive s os)))
        (interned_all (with_variable same os s) ss)

-- ---- trails

-- a variable without an entry has none among those that are kept
val-entries_until : (l : ℕ) (es : List Entry) (x : ℕ) → val es x ≡ None → val (entries_until l es) x ≡ None
val-entries_until l [] x none = none
val-entries_until l (e ∷ es) x none =
    elim (list_all (λ f. nat_lt l f.level) (e ∷ es)) as (λ b. val (cond b [] (e ∷ entries_until l es)) x ≡ None) [
      | true ↦ refl
      | false ↦ (elim (e.decision.variable == x) as (λ t. cond t (Some e.decision.value) (val es x) ≡ None →
          cond t (Some e.decision.value) (val (entries_until l es) x) ≡ None)
          [ true ↦ λ h. h | false ↦ λ h. val-entries_until l es x h ]) none
    ]

-- what is true of each entry is true of each that is kept
pub All-entries_until : (P : Entry → Type 0) (l : ℕ) (es : List Entry) → All P es → All P (entries_until l es)
All-entries_until P l [] all = all
All-entries_until P l (e ∷ es) all =
    elim (list_all (λ f. nat_lt l f.level) (e ∷ es)) as (λ b. All P (cond b [] (e ∷ entries_until l es))) [
      | true ↦ All-nil P
      | false ↦ All-cons P e (entries_until l es) (All-head P e es all) (All-entries_until P l es (All-tail P e es all))
    ]

pub IsOnce-entries_until : (l : ℕ) (es : List Entry) → IsOnce es → IsOnce (entries_until l es)
IsOnce-entries_until l [] once = tt
IsOnce-entries_until l (e ∷ es) once =
    elim (list_all (λ f. nat_lt l f.level) (e ∷ es)) as (λ b. IsOnce (cond b [] (e ∷ entries_until l es))) [
      | true ↦ tt
      | false ↦ (val-entries_until l es e.decision.variable once.0, IsOnce-entries_until l es once.1)
    ]

-- the same of the entries before a place
val-take : (n : ℕ) (es : List Entry) (x : ℕ) → val es x ≡ None → val (take n es) x ≡ None
val-take zero es x none = refl
val-take (suc n) [] x none = refl
val-take (suc n) (e ∷ es) x none =
    (elim (e.decision.variable == x) as (λ t. cond t (Some e.decision.value) (val es x) ≡ None →
    cond t (Some e.decision.value) (val (take n es) x) ≡ None)
    [ true ↦ λ h. h | false ↦ λ h. val-take n es x h ]) none

pub IsOnce-take : (n : ℕ) (es : List Entry) → IsOnce es → IsOnce (take n es)
IsOnce-take zero es once = tt
IsOnce-take (suc n) [] once = tt
IsOnce-take (suc n) (e ∷ es) once = (val-take n es e.decision.variable once.0, IsOnce-take n es once.1)
