-- The variables of solvables, while origins come and go at the end of the list.
use Rattle.std.proofs.Common.{◌≡◌, ◌≢◌, ℕ, zero, suc, ◌+◌, ◌<◌, ◌≤◌, ◌==◌, Bool, true, false}
use Rattle.std.proofs.Common.{cond, IsSome, List, [], ◌∷◌, ◌++◌, length, take, slice_get, Option}
use Rattle.std.proofs.Common.{None, Some, ◌⊎◌, inl, inr, refl, arith, rules, sym, ◌∙◌, ap, subst}
use Rattle.std.specs.List.{position_from}
use Rattle.std.specs.Prelude.{is_some, unwrap_or}
use Rattle.typed_ids.specs.TotalMaps.{IsUpdate, SameValues}
use Rattle.variables.specs.declared.variable_origin.VariableOrigin.{VariableOrigin}
use Rattle.variables.specs.declared.variable_origin.VariableOrigin.TheVariants.{Root, Solvable}
use Rattle.variables.specs.Forgetting.{forgotten}
use Rattle.variables.specs.Variables.{is_solvable, solvable_of, key_of, variable_of_solvable, with_variable}
use Rattle.variables.specs.Variables.{interned_variable, IsRootFirst, AreSolvablesDistinct, IsVariableMap}

-- the first of two that is there
abbrev pub or_else : Option ℕ → Option ℕ → Option ℕ
or_else (Some p) q = Some p
or_else None q = q

or_else-None : (p : Option ℕ) → or_else p None ≡ p
or_else-None (Some p) = refl
or_else-None None = refl

-- ---- positions in any list

module _ {X : Type 0} (test : X → Bool) where
  -- a position is within the list
  pub position_within : (n v : ℕ) (xs : List X) → position_from test n xs ≡ Some v → v < n + length xs
  position_within n v [] h = (let no : ⊥ = cc in absurd no)
  position_within n v (x ∷ xs) h =
      (elim (test x) as (λ b. cond b (Some n) (position_from test (n + 1) xs) ≡ Some v → v < n + length (x ∷ xs)) [
        | true ↦ λ e. (let same : n ≡ v = search rules in omega arith)
        | false ↦ λ e. omega (arith, position_within (n + 1) v xs e)
      ]) h

  -- the position once an element more stands at the end
  pub position-append : (x : X) (n m : ℕ) (xs : List X) → m ≡ n + length xs
      → position_from test n (xs ++ x ∷ []) ≡ or_else (position_from test n xs) (cond (test x) (Some m) None)
  position-append x n m [] h =
      let e : n ≡ m = omega arith in
      ap (λ k. cond (test x) (Some k) None) e
  position-append x n m (y ∷ xs) h =
      elim (test y) as (λ b. cond b (Some n) (position_from test (n + 1) (xs ++ x ∷ [])) ≡
      or_else (cond b (Some n) (position_from test (n + 1) xs)) (cond (test x) (Some m) None))
      [ true ↦ refl | false ↦ position-append x (n + 1) m xs (omega arith) ]

  -- what stands at a position passes the test
  pub position_at : (n v : ℕ) (xs : List X) → position_from test n xs ≡ Some v → (k : ℕ) × (x : X) × (v ≡ n + k)
      × (slice_get xs k ≡ Some x) × (test x ≡ true)
  position_at n v [] h = (let no : ⊥ = cc in absurd no)
  position_at n v (x ∷ xs) h =
      (elim (test x) as (λ b. test x ≡ b → cond b (Some n) (position_from test (n + 1) xs) ≡ Some v →
      (k : ℕ) × (y : X) × (v ≡ n + k) × (slice_get (x ∷ xs) k ≡ Some y) × (test y ≡ true)) [
        | true ↦ λ t e. (let same : n ≡ v = search rules in (0, x, omega arith, refl, t))
        | false ↦ λ t e. (let rest = position_at (n + 1) v xs e in
            (suc rest.0, rest.1, omega (arith, rest.2), rest.3, rest.4))
      ]) refl h

  -- a position before a place is the same in the part before that place
  pub position-take : (n k v : ℕ) (xs : List X) → position_from test n xs ≡ Some v → v < n + k →
      position_from test n (take k xs) ≡ Some v
  position-take n zero v xs h within = (let no : ⊥ = omega (arith, (position_at n v xs h).2, within) in absurd no)
  position-take n (suc k) v [] h within = h
  position-take n (suc k) v (x ∷ xs) h within =
      (elim (test x) as (λ b. cond b (Some n) (position_from test (n + 1) xs) ≡ Some v →
      cond b (Some n) (position_from test (n + 1) (take k xs)) ≡ Some v)
      [ true ↦ λ e. e | false ↦ λ e. position-take (n + 1) k v xs e (omega (arith, within)) ]) h

-- ---- elements by place

-- an element of a list with one more at its end
pub slice_get-last : {X : Type 0} (xs : List X) (x y : X) (v : ℕ) → slice_get (xs ++ x ∷ []) v ≡ Some y →
    (slice_get xs v ≡ Some y) ⊎ ((v ≡ length xs) × (x ≡ y))
slice_get-last [] x y zero h = inr (refl, (let e : x ≡ y = cc in e))
slice_get-last [] x y (suc v) h = (let no : ⊥ = cc in absurd no)
slice_get-last (z ∷ xs) x y zero h = inl h
slice_get-last (z ∷ xs) x y (suc v) h =
    elim (slice_get-last xs x y v h) [ inl e ↦ inl e | inr e ↦ inr (omega (arith, e.0), e.1) ]

-- an element of a beginning of a list
pub slice_get-take : {X : Type 0} (k v : ℕ) (xs : List X) (x : X) → slice_get (take k xs) v ≡ Some x → (v < k)
    × (slice_get xs v ≡ Some x)
slice_get-take zero v xs x h = (let no : ⊥ = cc in absurd no)
slice_get-take (suc k) v [] x h = (let no : ⊥ = cc in absurd no)
slice_get-take (suc k) zero (y ∷ xs) x h = (omega arith, h)
slice_get-take (suc k) (suc v) (y ∷ xs) x h = (let rest = slice_get-take k v xs x h in (omega (arith, rest.0), rest.1))

-- ---- the root

-- it stays first while origins are added
pub root-append : {N S : Type 0} (os : List (VariableOrigin N S)) (o : VariableOrigin N S) → IsRootFirst os →
    IsRootFirst (os ++ o ∷ [])
root-append [] o h = cc
root-append (p ∷ os) o h = h

-- it stays first while there is one at least
pub root-take : {N S : Type 0} (k : ℕ) (os : List (VariableOrigin N S)) → 1 ≤ k → IsRootFirst os →
    IsRootFirst (take k os)
root-take zero os some h = (let no : ⊥ = omega (arith, some) in absurd no)
root-take (suc k) [] some h = h
root-take (suc k) (o ∷ os) some h = h

-- what is neither the root nor a solvable is no solvable
pub no_solvable : {N S : Type 0} (o : VariableOrigin N S) → key_of o ≡ None → solvable_of o ≡ None
no_solvable (Solvable s) h = (let no : ⊥ = cc in absurd no)
no_solvable _ h = refl

-- ---- a solvable that has no variable yet

-- what is absent isn't there
pub not_known : {X : Type 0} (o : Option X) → o ≡ None → IsSome o → ⊥
not_known None e h = search rules
not_known (Some x) e h = cc

module _ {N S : Type 0} (same : S → S → Bool) (x : S) (os : List (VariableOrigin N S))
    (absent : variable_of_solvable same os x ≡ None) where
  -- it gets the next variable, which stands at the end
  pub interned_variable-new : interned_variable same os x ≡ length os
  interned_variable-new = ap (λ p. unwrap_or p (length os)) absent

  pub with_variable-new : with_variable same os x ≡ os ++ Solvable x ∷ []
  with_variable-new = ap (λ p. cond (is_some p) os (os ++ Solvable x ∷ [])) absent

-- the same values at each solvable belong to the same variables
pub IsVariableMap-same : {N S : Type 0} (same : S → S → Bool) (f g : S → Option ℕ) (os : List (VariableOrigin N S)) →
    SameValues f g
    → IsVariableMap same f os → IsVariableMap same g os
IsVariableMap-same same f g os e m = record {
  agrees = λ s. e s ∙ m.agrees s;
  few = m.few;
  root_first =
      m.root_first;
  distinct = m.distinct;
}

-- ---- forgetting

forgotten-this : (m : ℕ) → forgotten true m (Some m) ≡ None
forgotten-this m =
    let e : (m == m) ≡ true = search rules in
    ap (λ b. cond b None (Some m)) e

forgotten-other : (m n : ℕ) → n ≢ m → forgotten true m (Some n) ≡ Some n
forgotten-other m n h =
    let e : (n == m) ≡ false = search rules in
    ap (λ b. cond b None (Some n)) e

module _ {N S : Type 0} (same : S → S → Bool) where
  -- an origin more, which is no solvable, changes no solvable's variable
  pub variable-other : (s : S) (o : VariableOrigin N S) (os : List (VariableOrigin N S)) → solvable_of o ≡ None
      → variable_of_solvable same (os ++ o ∷ []) s ≡ variable_of_solvable same os s
  variable-other s o os h =
      position-append (is_solvable same s) o 0 (length os) os (omega arith)
      ∙ ap (λ b. or_else (variable_of_solvable same os s) (cond b (Some (length os)) None)) (not_this o h)
      ∙ or_else-None (variable_of_solvable same os s)
    where
      not_this : (o : VariableOrigin N S) → solvable_of o ≡ None → is_solvable same s o ≡ false
      not_this (Solvable t) h = cc
      not_this _ h = refl

  -- without the last origin, which was the solvable x, each other solvable keeps its variable
  pub variable-forgotten : (s x : S) (m : ℕ) (o : VariableOrigin N S) (os : List (VariableOrigin N S)) →
      solvable_of o ≡ Some x → m ≡ length os
      → forgotten (same x s) m (variable_of_solvable same (os ++ o ∷ []) s) ≡ variable_of_solvable same os s
  variable-forgotten s x m o os h e =
      ap (forgotten (same x s) m) (position-append (is_solvable same s) o 0 m os (omega arith))
      ∙ ap (λ b. forgotten (same x s) m (or_else (variable_of_solvable same os s) (cond b (Some m) None))) (this o h)
      ∙ by_place (variable_of_solvable same os s) refl (same x s)
    where
      this : (o : VariableOrigin N S) → solvable_of o ≡ Some x → is_solvable same s o ≡ same x s
      this (Solvable t) h = let e : t ≡ x = cc in ap (λ y. same y s) e
      this _ h = cc

      by_place : (p : Option ℕ) → variable_of_solvable same os s ≡ p → (b : Bool) →
          forgotten b m (or_else p (cond b (Some m) None)) ≡ p
      by_place None h true = forgotten-this m
      by_place None h false = refl
      by_place (Some q) h true = forgotten-other m q
          (let below : q < 0 + length os = position_within (is_solvable same s) 0 q os h in
          λ g. (let no : ⊥ = omega arith in no))
      by_place (Some q) h false = refl

  -- a beginning of distinct ones
  pub distinct-take : (k : ℕ) (os : List (VariableOrigin N S)) → AreSolvablesDistinct same os →
      AreSolvablesDistinct same (take k os)
  distinct-take k os distinct v s h =
      let at = slice_get-take k v os (Solvable s) h in
      position-take (is_solvable same s) 0 k v os (distinct v s at.1) (omega (arith, at.0))

  module _ (reflexive : (x : S) → same x x ≡ true) (is_sameness : (a b : S) → same a b ≡ true → a ≡ b) where
    -- a solvable stands at the place of its variable
    pub stands_there : (s : S) (v : ℕ) (os : List (VariableOrigin N S)) → variable_of_solvable same os s ≡ Some v →
        slice_get os v ≡ Some (Solvable s)
    stands_there s v os h =
        let at = position_at (is_solvable same s) 0 v os h in
        let place : v ≡ at.0 = omega (arith, at.2) in
        ap (slice_get os) place ∙ at.3 ∙ ap (λ o. Some o) (this at.1 at.4)
      where
        this : (o : VariableOrigin N S) → is_solvable same s o ≡ true → o ≡ Solvable s
        this (Solvable t) t_is = ap (λ u. Solvable u) (is_sameness t s t_is)
        this _ t_is = cc

    -- distinct ones, and one more that is a solvable only if it is a new one
    distinct-append : (o : VariableOrigin N S) (os : List (VariableOrigin N S)) →
        ((x : S) → solvable_of o ≡ Some x → variable_of_solvable same os x ≡ None)
        → AreSolvablesDistinct same os → AreSolvablesDistinct same (os ++ o ∷ [])
    distinct-append o os new distinct v s h =
        let place = position-append (is_solvable same s) o 0 (length os) os (omega arith) in
        elim (slice_get-last os o (Solvable s) v h) [
          | inl e ↦ place ∙ ap (λ p. or_else p (cond (is_solvable same s o) (Some (length os)) None)) (distinct v s e)
          | inr e ↦ place ∙ ap (λ p. or_else p (cond (is_solvable same s o) (Some (length os)) None))
              (new s (ap solvable_of e.1))
              ∙ ap (λ b. cond b (Some (length os)) None) (ap (is_solvable same s) e.1 ∙ reflexive s)
              ∙ ap (λ n. Some n) (sym e.0)
        ]

    -- and one more that is a solvable without a variable, or no solvable
    pub distinct-new : (x : S) (os : List (VariableOrigin N S)) → variable_of_solvable same os x ≡ None →
        AreSolvablesDistinct same os
        → AreSolvablesDistinct same (os ++ Solvable x ∷ [])
    distinct-new x os absent =
        distinct-append (Solvable x) os (λ (y : S) (e : Some x ≡ Some y). (let this : x ≡ y = cc in
        ap (variable_of_solvable same os) (sym this) ∙ absent))

    pub distinct-other : (o : VariableOrigin N S) (os : List (VariableOrigin N S)) → solvable_of o ≡ None →
        AreSolvablesDistinct same os
        → AreSolvablesDistinct same (os ++ o ∷ [])
    distinct-other o os other =
        distinct-append o os (λ (x : S) (e : solvable_of o ≡ Some x). (let no : None ≡ Some x = sym other ∙ e in
        let wrong : ⊥ = cc in absurd wrong))

    -- a map that has each solvable's variable still has it once a new solvable got the next one
    pub agrees-with_variable : (x : S) (m : ℕ) (os : List (VariableOrigin N S)) (f g h : S → Option ℕ) → m ≡ length os
        → ((s : S) → f s ≡ variable_of_solvable same os s) → SameValues f g
        → variable_of_solvable same os x ≡ None → IsUpdate g x (Some m) h
        → (s : S) → h s ≡ variable_of_solvable same (os ++ Solvable x ∷ []) s
    agrees-with_variable x m os f g h e agree keep none put s = by_test (same x s) refl
      where
        by_test : (b : Bool) → same x s ≡ b → h s ≡ variable_of_solvable same (os ++ Solvable x ∷ []) s
        by_test true t =
            let at : h x ≡ variable_of_solvable same (os ++ Solvable x ∷ []) x =
            put.0 ∙ sym (position-append (is_solvable same x) (Solvable x) 0 m os (omega arith) ∙
            ap (λ p. or_else p (cond (same x x) (Some m) None)) none ∙
            ap (λ b. cond b (Some m) None) (reflexive x)) in
            subst (λ z. h z ≡ variable_of_solvable same (os ++ Solvable x ∷ []) z) (is_sameness x s t) at
        by_test false t =
            let apart : s ≢ x = λ q. (let no : true ≡ false = sym (reflexive x) ∙ ap (same x) (sym q) ∙ t in
            let no2 : ⊥ = cc in no2) in
            put.1 s apart ∙ keep s ∙ agree s ∙
            sym (position-append (is_solvable same s) (Solvable x) 0 m os (omega arith) ∙
            ap (λ b. or_else (variable_of_solvable same os s) (cond b (Some m) None)) t ∙
            or_else-None (variable_of_solvable same os s))
