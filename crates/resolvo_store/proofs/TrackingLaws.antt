-- What is tracked stays so as a store grows. N are the names, S the solvables.
use Rattle.std.proofs.Common.{◌≡◌, ℕ, zero, suc, ◌<◌, Bool, true, false, List, [], ◌∷◌, ◌++◌, length, length-append}
use Rattle.std.proofs.Common.{arith, sym, subst, ap, ◌∙◌}
use Rattle.std.specs.Prelude.{if◌then◌else◌}
use Rattle.std.proofs.lemmas.Grind.{flat_map-append}
use Rattle.std.proofs.lemmas.List.{append-nil}
use Rattle.std.proofs.lemmas.List.Elements.{All-weaker}
use Rattle.variables.specs.Variables.{with_variable}
use Rattle.resolvo_store.proofs.Words.{BitClause, bits, bits_of, Clause, flat_map, is_helper_among, is_some, IsTracking}
use Rattle.resolvo_store.proofs.Words.{Solvable, Store, Tracker, variable_of_solvable, VariableOrigin, with_variables}

module _ {N S : Type 0} where
  -- what is tracked under each name is in order
  abbrev pub AreTracked : Store N S → Type 0
  AreTracked st = (name : N) → IsTracking st.origins (st.trackers name) (bits st name)

  -- ---- more variables

  -- a helper is one still where there are more
  pub helper_kept : (os : List (VariableOrigin N S)) (o : VariableOrigin N S) (v : ℕ) → is_helper_among os v ≡ true →
      is_helper_among (os ++ o ∷ []) v ≡ true
  helper_kept [] o v h = (let no : false ≡ true = h in cc)
  helper_kept (p ∷ os) o zero h = h
  helper_kept (p ∷ os) o (suc v) h = helper_kept os o v h

  pub IsTracking-origin : (os : List (VariableOrigin N S))
      (o : VariableOrigin N S) {t : Tracker ℕ} {cs : List (BitClause ℕ)} → IsTracking os t cs →
      IsTracking (os ++ o ∷ []) t cs
  IsTracking-origin os o {t} {cs} is = record {
    adds = is.adds;
    variables = All-weaker (λ v. v < length os) (λ v. v < length (os ++ o ∷ []))
        (λ v k. omega (arith, k, length-append os (o ∷ []))) t.variables is.variables;
    helpers = All-weaker (λ h. is_helper_among os h ≡ true) (λ h. is_helper_among (os ++ o ∷ []) h ≡ true)
        (helper_kept os o) t.helpers is.helpers;
  }

  pub AreTracked-origin : (st : Store N S) (o : VariableOrigin N S) → AreTracked st →
      AreTracked (record st { origins = st.origins ++ o ∷ [] })
  AreTracked-origin st o tracked name = IsTracking-origin st.origins o (tracked name)

  module _ (same : S → S → Bool) {t : Tracker ℕ} {cs : List (BitClause ℕ)} where
    IsTracking-with : (os : List (VariableOrigin N S)) (s : S) → IsTracking os t cs →
        IsTracking (with_variable same os s) t cs
    IsTracking-with os s is =
        elim (is_some (variable_of_solvable same os s)) as (λ b. IsTracking
        (if b then os else os ++ Solvable s ∷ []) t cs)
        [ true ↦ is | false ↦ IsTracking-origin os (Solvable s) is ]

    IsTracking-variables : (os : List (VariableOrigin N S)) (ss : List S) → IsTracking os t cs →
        IsTracking (with_variables same os ss) t cs
    IsTracking-variables os [] is = is
    IsTracking-variables os (s ∷ ss) is = IsTracking-variables (with_variable same os s) ss (IsTracking-with os s is)

  pub AreTracked-variables : (st : Store N S) (ss : List S) → AreTracked st
      → (name : N) → IsTracking (with_variables st.provider.same_solvable st.origins ss) (st.trackers name)
      (bits st name)
  AreTracked-variables st ss tracked name = IsTracking-variables st.provider.same_solvable st.origins ss (tracked name)

  -- ---- more clauses

  -- a clause that no tracking added
  pub AreTracked-clause : (st : Store N S) (c : Clause N) → ((named : N → Bool) → bits_of named c ≡ []) → AreTracked st
      → (name : N) → IsTracking st.origins (st.trackers name)
      (flat_map (bits_of (st.provider.same_name name)) (st.clauses ++ c ∷ []))
  AreTracked-clause st c none tracked name =
      subst (IsTracking st.origins (st.trackers name)) (sym same) (tracked name)
    where
      named : N → Bool
      named = st.provider.same_name name

      same : flat_map (bits_of named) (st.clauses ++ c ∷ []) ≡ flat_map (bits_of named) st.clauses
      same =
          flat_map-append (bits_of named) st.clauses (c ∷ [])
          ∙ ap (λ x. flat_map (bits_of named) st.clauses ++ (x ++ [])) (none named)
          ∙ append-nil (flat_map (bits_of named) st.clauses)
