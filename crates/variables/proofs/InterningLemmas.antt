-- Solvables that get variables in turn.
use Rattle.std.proofs.Common.{◌≡◌, ℕ, ◌+◌, ◌≤◌, ◌-◌, ◌^◌, Bool, true, false, cond, ◌||◌, List}
use Rattle.std.proofs.Common.{[], ◌∷◌, ◌++◌, length, length-append, map, min, take, drop, Option}
use Rattle.std.proofs.Common.{None, Some, Result, Ok, Err, refl, arith, sym, ◌∙◌, ap, subst, ltb}
use Rattle.std.specs.Prelude.{is_some, is_none, ◌&&◌, unwrap_or, flat_map, IfErr}
use Rattle.std.specs.Result.{IsErrAnd}
use Rattle.std.specs.List.{list_any}
use Rattle.std.proofs.Math.Bool.{or-true}
use Rattle.std.proofs.Math.Seq.{take-append-add, take-length}
use Rattle.std.proofs.lemmas.Bool.Decides.{nat_tests}
use Rattle.std.proofs.lemmas.Grind.{flat_map-append}
use Rattle.std.proofs.lemmas.List.{take-append-le, take-append-drop, take_min, append-nil}
use Rattle.std.proofs.lemmas.List.Folds.{list_any-append}
use Rattle.std.proofs.lemmas.List.Sums.{fold-append}
use Rattle.typed_ids.specs.Refusals.{IsGrowthRefusal}
use Rattle.typed_ids.specs.declared.error.StoreError.{StoreError}
use Rattle.typed_ids.specs.declared.error.StoreError.TheVariants.{OutOfMemory, IdSpace}
use Rattle.variables.specs.declared.variable_origin.VariableOrigin.{VariableOrigin}
use Rattle.variables.specs.declared.variable_origin.VariableOrigin.TheVariants.{Solvable}
use Rattle.variables.specs.Variables.{is_solvable, variable_of_solvable, interned_variable}
use Rattle.variables.specs.Variables.{with_variable, with_variables, are_variables_out}
use Rattle.variables.specs.Variables.{lacks_variable, lacks_variables, IsPartlyInterned}
use Rattle.variables.proofs.VariableLemmas.{or_else, position-append}

-- a refusal that was handed on
pub handed_on : {T E : Type 0} (P : E → Type 0) (result : Result T E) (e : E) → IsErrAnd result (λ x. x ≡ e) → P e →
    IfErr result P
handed_on P (Ok v) e h p = absurd h
handed_on P (Err x) e h p = subst P (sym h) p

-- a growth that may be refused may also be refused where ids are out in more cases
pub refusal_wider : (a b : Bool) (e : StoreError) → (a ≡ true → b ≡ true) → IsGrowthRefusal a e → IsGrowthRefusal b e
refusal_wider a b OutOfMemory h r = r
refusal_wider a b IdSpace h r = h r
refusal_wider a b _ h r = absurd r

-- a test that fails on two lists fails on both together
pub list_any-fails : {X : Type 0} (test : X → Bool) (xs ys : List X) → list_any test xs ≡ false →
    list_any test ys ≡ false
    → list_any test (xs ++ ys) ≡ false
list_any-fails test xs ys h k = list_any-append test xs ys ∙ ap (λ b. b || list_any test ys) h ∙ k

-- lists one after another: the list of x, with those before and after it
pub split-at : {X S : Type 0} (list : X → List S) (xs : List X) (i : ℕ) (x : X) (own : List S) →
    drop i xs ≡ x ∷ drop (i + 1) xs → own ≡ list x
    → flat_map list xs ≡ flat_map list (take i xs) ++ (own ++ flat_map list (drop (i + 1) xs))
split-at list xs i x own behind is =
    ap (flat_map list) (sym (take-append-drop i xs) ∙ ap (λ l. take i xs ++ l) behind)
    ∙ flat_map-append list (take i xs) (x ∷ drop (i + 1) xs)
    ∙ ap (λ l. flat_map list (take i xs) ++ (l ++ flat_map list (drop (i + 1) xs))) (sym is)

module _ {N S : Type 0} (same : S → S → Bool) where
  -- the variables of solvables that get them in turn
  abbrev pub variables_in_turn : List (VariableOrigin N S) → List S → List ℕ
  variables_in_turn os [] = []
  variables_in_turn os (s ∷ ss) = interned_variable same os s ∷ variables_in_turn (with_variable same os s) ss

  -- the variables of solvables that get them list by list, where each x has a list
  abbrev pub lists_in_turn : {X : Type 0} → (X → List S) → List (VariableOrigin N S) → List X → List (List ℕ)
  lists_in_turn list os [] = []
  lists_in_turn list os (x ∷ xs) =
      map (interned_variable same (with_variables same os (list x))) (list x) ∷ lists_in_turn list
      (with_variables same os (list x)) xs

  -- an origin more takes no solvable its variable
  pub variable-kept : (s : S) (o : VariableOrigin N S) (v : ℕ) (os : List (VariableOrigin N S)) →
      variable_of_solvable same os s ≡ Some v → variable_of_solvable same (os ++ o ∷ []) s ≡ Some v
  variable-kept s o v os h =
      position-append (is_solvable same s) o 0 (length os) os (omega arith)
      ∙ ap (λ p. or_else p (cond (is_solvable same s o) (Some (length os)) None)) h

  pub kept-with_variable : (s t : S) (v : ℕ) (os : List (VariableOrigin N S)) →
      variable_of_solvable same os s ≡ Some v → variable_of_solvable same (with_variable same os t) s ≡ Some v
  kept-with_variable s t v os h =
      elim (is_some (variable_of_solvable same os t)) as (λ b. variable_of_solvable same
      (cond b os (os ++ Solvable t ∷ [])) s ≡ Some v)
      [ true ↦ h | false ↦ variable-kept s (Solvable t) v os h ]

  pub kept-all : (s : S) (v : ℕ) (os : List (VariableOrigin N S)) (ss : List S) →
      variable_of_solvable same os s ≡ Some v → variable_of_solvable same (with_variables same os ss) s ≡ Some v
  kept-all s v os [] h = h
  kept-all s v os (t ∷ ss) h = kept-all s v (with_variable same os t) ss (kept-with_variable s t v os h)

  -- a solvable of which nothing is known makes the list longer
  with_variable-new : (s : S) (os : List (VariableOrigin N S)) → variable_of_solvable same os s ≡ None →
      with_variable same os s ≡ os ++ Solvable s ∷ []
  with_variable-new s os h = ap (λ p. cond (is_some p) os (os ++ Solvable s ∷ [])) h

  longer-with_variable : (s : S) (os : List (VariableOrigin N S)) → length os ≤ length (with_variable same os s)
  longer-with_variable s os =
      elim (is_some (variable_of_solvable same os s)) as (λ b. length os ≤ length (cond b os (os ++ Solvable s ∷ [])))
      [ true ↦ omega arith | false ↦ omega (arith, length-append os (Solvable s ∷ [])) ]

  -- the variables that were there stay in front
  front-with_variable : (n : ℕ) (s : S) (os : List (VariableOrigin N S)) → n ≤ length os →
      take n (with_variable same os s) ≡ take n os
  front-with_variable n s os h =
      elim (is_some (variable_of_solvable same os s)) as (λ b. take n (cond b os (os ++ Solvable s ∷ [])) ≡ take n os)
      [ true ↦ refl | false ↦ take-append-le n os (Solvable s ∷ []) h ]

  front-some : (n : ℕ) (os : List (VariableOrigin N S)) (ss : List S) → n ≤ length os →
      take n (with_variables same os ss) ≡ take n os
  front-some n os [] h = refl
  front-some n os (s ∷ ss) h = front-some n (with_variable same os s) ss
      (omega (arith, h, longer-with_variable s os)) ∙ front-with_variable n s os h

  front-all : (os : List (VariableOrigin N S)) (ss : List S) → take (length os) (with_variables same os ss) ≡ os
  front-all os ss = front-some (length os) os ss (omega arith) ∙ take-length os

  -- once one solvable more has a variable
  pub one-more : (os vs after : List (VariableOrigin N S)) (done : List S) (x : S) →
      vs ≡ with_variables same os done → after ≡ with_variable same vs x
      → after ≡ with_variables same os (done ++ x ∷ [])
  one-more os vs after done x grown is = is ∙ ap (λ o. with_variable same o x) grown
      ∙ sym (fold-append (with_variable same) os done (x ∷ []))

  -- one solvable more of those that get variables in turn
  pub in_turn-more : (os : List (VariableOrigin N S)) (ss : List S) (x : S)
      → variables_in_turn os (ss ++ x ∷ []) ≡ variables_in_turn os ss ++ interned_variable same
      (with_variables same os ss) x ∷ []
  in_turn-more os [] x = refl
  in_turn-more os (s ∷ ss) x = ap (λ vs. interned_variable same os s ∷ vs) (in_turn-more (with_variable same os s) ss x)

  -- one list more
  pub lists-more : {X : Type 0} (list : X → List S) (os : List (VariableOrigin N S)) (xs : List X) (x : X)
      → lists_in_turn list os (xs ++ x ∷ []) ≡ lists_in_turn list os xs
      ++ map (interned_variable same (with_variables same (with_variables same os (flat_map list xs)) (list x)))
      (list x) ∷ []
  lists-more list os [] x = refl
  lists-more list os (y ∷ ys) x =
      let after : List (VariableOrigin N S) = with_variables same os (list y) in
      ap (λ vs. map (interned_variable same after) (list y) ∷ vs)
      (lists-more list after ys x
      ∙ ap (λ vs. lists_in_turn list after ys ++ map (interned_variable same (with_variables same vs (list x)))
      (list x) ∷ [])
      (sym (fold-append (with_variable same) os (list y) (flat_map list ys))))

  pub longer-all : (os : List (VariableOrigin N S)) (ss : List S) → length os ≤ length (with_variables same os ss)
  longer-all os [] = omega arith
  longer-all os (s ∷ ss) = omega (arith, longer-with_variable s os, longer-all (with_variable same os s) ss)

  module _ (reflexive : (x : S) → same x x ≡ true) where
    -- a solvable has the variable that it got
    pub variable-with_variable : (s : S) (os : List (VariableOrigin N S)) →
        variable_of_solvable same (with_variable same os s) s ≡ Some (interned_variable same os s)
    variable-with_variable s os = by_known (variable_of_solvable same os s) refl
      where
        by_known : (p : Option ℕ) → variable_of_solvable same os s ≡ p
            → variable_of_solvable same (cond (is_some p) os (os ++ Solvable s ∷ [])) s ≡ Some (unwrap_or p (length os))
        by_known (Some v) h = h
        by_known None h =
            position-append (is_solvable same s) (Solvable s) 0 (length os) os (omega arith)
            ∙ ap (λ p. or_else p (cond (same s s) (Some (length os)) None)) h
            ∙ ap (λ b. cond b (Some (length os)) None) (reflexive s)

    -- the variables that solvables get in turn are those that they have in the end, also behind others
    variables-later : (os : List (VariableOrigin N S)) (ss rest : List S) →
        variables_in_turn os ss ≡ map (interned_variable same (with_variables same os (ss ++ rest))) ss
    variables-later os [] rest = refl
    variables-later os (s ∷ ss) rest =
        let last : List (VariableOrigin N S) = with_variables same (with_variable same os s) (ss ++ rest) in
        let at : interned_variable same last s ≡ interned_variable same os s =
        ap (λ p. unwrap_or p (length last)) (kept-all s (interned_variable same os s) (with_variable same os s)
        (ss ++ rest) (variable-with_variable s os)) in
        ap (λ v. v ∷ variables_in_turn (with_variable same os s) ss) (sym at) ∙
        ap (λ vs. interned_variable same last s ∷ vs) (variables-later (with_variable same os s) ss rest)

    pub variables-in-turn : (os : List (VariableOrigin N S)) (ss : List S) →
        variables_in_turn os ss ≡ map (interned_variable same (with_variables same os ss)) ss
    variables-in-turn os ss =
        variables-later os ss [] ∙ ap (λ all. map (interned_variable same (with_variables same os all)) ss)
        (append-nil ss)

    -- and so are those of lists
    pub lists-in-turn : {X : Type 0} (list : X → List S) (os : List (VariableOrigin N S)) (xs : List X)
        → lists_in_turn list os xs ≡ map
        (λ x. map (interned_variable same (with_variables same os (flat_map list xs))) (list x)) xs
    lists-in-turn list os [] = refl
    lists-in-turn list os (x ∷ xs) =
        let rest : List S = flat_map list xs in
        let after : List (VariableOrigin N S) = with_variables same os (list x) in
        let own : map (interned_variable same after) (list x) ≡ map
        (interned_variable same (with_variables same os (list x ++ rest))) (list x) =
        sym (variables-in-turn os (list x)) ∙ variables-later os (list x) rest in
        ap (λ l. l ∷ lists_in_turn list after xs) own
        ∙ ap (λ ls. map (interned_variable same (with_variables same os (list x ++ rest))) (list x) ∷ ls)
        (lists-in-turn list after xs
        ∙ ap (λ vs. map (λ y. map (interned_variable same vs) (list y)) xs)
        (sym (fold-append (with_variable same) os (list x) rest)))

  -- what lacks for one solvable lacks for all of them
  pub lacks_for_one : (large : S → Bool) (os : List (VariableOrigin N S)) (done : List S) (x : S) (rest : List S)
      → lacks_variable same large (with_variables same os done) x ≡ true →
      lacks_variables same large os (done ++ x ∷ rest) ≡ true
  lacks_for_one large os done x rest out =
      by_known (variable_of_solvable same vs x) refl out
    where
      vs : List (VariableOrigin N S)
      vs = with_variables same os done

      all : List (VariableOrigin N S)
      all = with_variables same os (done ++ x ∷ rest)

      by_test : (a b : Bool) → variable_of_solvable same vs x ≡ None → are_variables_out (length vs) ≡ a →
          large x ≡ b → (a || b) ≡ true
          → lacks_variables same large os (done ++ x ∷ rest) ≡ true
      by_test true b new f l h =
          let grown : length vs + 1 ≤ length (with_variables same (vs ++ Solvable x ∷ []) rest) =
          omega (arith, length-append vs (Solvable x ∷ []), longer-all (vs ++ Solvable x ∷ []) rest) in
          let size : length vs + 1 ≤ length all =
          subst (λ o. length vs + 1 ≤ length o) (sym (fold-append (with_variable same) os done (x ∷ rest)))
          (subst (λ o. length vs + 1 ≤ length (with_variables same o rest)) (sym (with_variable-new x vs new)) grown) in
          let few : ltb (2 ^ 31 - 1) (length all) ≡ true = grind (arith, nat_tests, f, size) in
          ap (λ c. c || list_any large (done ++ x ∷ rest)) few
      by_test false true new f l h =
          let some : list_any large (done ++ x ∷ rest) ≡ true =
          list_any-append large done (x ∷ rest) ∙ ap (λ c. list_any large done || (c || list_any large rest)) l
          ∙ or-true (list_any large done) in
          grind (arith, some)
      by_test false false new f l h = cc

      by_known : (p : Option ℕ) → variable_of_solvable same vs x ≡ p →
          (is_none p && (are_variables_out (length vs) || large x)) ≡ true
          → lacks_variables same large os (done ++ x ∷ rest) ≡ true
      by_known None new h = by_test (are_variables_out (length vs)) (large x) new refl refl h
      by_known (Some v) known h = cc

  -- where nothing lacks, none is too large
  pub none_large : (large : S → Bool) (os : List (VariableOrigin N S)) (ss : List S) →
      lacks_variables same large os ss ≡ false
      → list_any large ss ≡ false
  none_large large os ss h = by_test (ltb (2 ^ 31 - 1) (length (with_variables same os ss))) h
    where
      by_test : (b : Bool) → (b || list_any large ss) ≡ false → list_any large ss ≡ false
      by_test true e = (let no : ⊥ = cc in absurd no)
      by_test false e = e

  -- what lacks for one list lacks for all of them
  pub lacks_for_list : (large : S → Bool) (os : List (VariableOrigin N S)) (done own rest : List S)
      → lacks_variables same large (with_variables same os done) own ≡ true →
      lacks_variables same large os (done ++ (own ++ rest)) ≡ true
  lacks_for_list large os done own rest out =
      by_test (ltb (2 ^ 31 - 1) (length (with_variables same vs own))) (list_any large own) refl refl out
    where
      vs : List (VariableOrigin N S)
      vs = with_variables same os done

      all : List (VariableOrigin N S)
      all = with_variables same os (done ++ (own ++ rest))

      by_test : (a b : Bool) → ltb (2 ^ 31 - 1) (length (with_variables same vs own)) ≡ a → list_any large own ≡ b →
          (a || b) ≡ true
          → lacks_variables same large os (done ++ (own ++ rest)) ≡ true
      by_test true b f l h =
          let grown : length (with_variables same vs own) ≤ length all =
          subst (λ o. length (with_variables same vs own) ≤ length o)
          (sym (fold-append (with_variable same) os done (own ++ rest) ∙ fold-append (with_variable same) vs own rest))
          (longer-all (with_variables same vs own) rest) in
          let many : ltb (2 ^ 31 - 1) (length all) ≡ true = grind (arith, nat_tests, f, grown) in
          ap (λ c. c || list_any large (done ++ (own ++ rest))) many
      by_test false true f l h =
          let some : list_any large (done ++ (own ++ rest)) ≡ true =
          list_any-append large done (own ++ rest)
          ∙ ap (λ c. list_any large done || c) (list_any-append large own rest
          ∙ ap (λ c. c || list_any large rest) l)
          ∙ or-true (list_any large done) in
          grind (arith, some)
      by_test false false f l h = cc

  -- where some solvables of one list got variables after those of the lists before it, so did some of all of them
  pub partly_more : {X : Type 0} (list : X → List S) (os vs after : List (VariableOrigin N S)) (xs : List X) (i : ℕ)
      (x : X) (own : List S)
      → drop i xs ≡ x ∷ drop (i + 1) xs → own ≡ list x → vs ≡ with_variables same os (flat_map list (take i xs))
      → IsPartlyInterned same vs own after → IsPartlyInterned same os (flat_map list xs) after
  partly_more list os vs after xs i x own behind is grown part =
      let done : List S = flat_map list (take i xs) in
      let rest : List S = flat_map list (drop (i + 1) xs) in
      let n : ℕ = min part.0 (length own) in
      let within : n ≤ length own = omega arith in (
        length done + n,
        part.1 ∙ ap (with_variables same vs) (sym (take_min part.0 own))
            ∙ ap (λ o. with_variables same o (take n own)) grown
            ∙ sym (fold-append (with_variable same) os done (take n own))
            ∙ ap (with_variables same os) (ap (λ ts. done ++ ts) (sym (take-append-le n own rest within))
            ∙ sym (take-append-add done (own ++ rest) n)
            ∙ ap (take (length done + n)) (sym (split-at list xs i x own behind is))),
      )

  -- all of them are some
  pub wholly : (os : List (VariableOrigin N S)) (ss : List S) (after : List (VariableOrigin N S))
      → after ≡ with_variables same os ss → IsPartlyInterned same os ss after
  wholly os ss after all = (length ss, all ∙ ap (with_variables same os) (sym (take-length ss)))

  -- the variables that were there stay in front
  pub front_of_part : (os : List (VariableOrigin N S)) (ss : List S) (after : List (VariableOrigin N S))
      → IsPartlyInterned same os ss after → take (length os) after ≡ os
  front_of_part os ss after part = ap (take (length os)) part.1 ∙ front-all os (take part.0 ss)

  pub longer_part : (os : List (VariableOrigin N S)) (ss : List S) (after : List (VariableOrigin N S))
      → IsPartlyInterned same os ss after → length os ≤ length after
  longer_part os ss after part = subst (λ vs. length os ≤ length vs) (sym part.1) (longer-all os (take part.0 ss))
