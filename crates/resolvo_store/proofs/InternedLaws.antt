-- A store stays sound, but for what is tracked, where solvables get variables.
use Rattle.std.proofs.Common.{[], ◌≡◌, ℕ, ◌+◌, ◌<◌, List, ◌∷◌, ◌++◌, length}
use Rattle.std.proofs.Common.{map, None, ◌∙◌}
use Rattle.std.specs.Prelude.{◌-◌, All}
use Rattle.std.proofs.lemmas.List.{length-map}
use Rattle.std.proofs.lemmas.List.Elements.{All-nil, All-cons, All-weaker, All-map}
use Rattle.variables.specs.Variables.{with_variable}
use Rattle.variables.proofs.InterningLemmas.{longer-all}
use Rattle.resolvo_store.proofs.Words.{flat_map, interned_variable, IsVariable, lists_of, Requirement, sets_of, Store}
use Rattle.resolvo_store.proofs.Words.{VariableOrigin, with_variables}
use Rattle.resolvo_store.proofs.KnownLemmas.{IsKnownSolvable, IsLawful}
use Rattle.resolvo_store.proofs.KnownLemmas.{known-with_variables}
use Rattle.resolvo_store.proofs.PartLaws.{All-lists}
use Rattle.resolvo_store.proofs.PartLaws.{AreVariables, AreVariables-with_all}
use Rattle.resolvo_store.proofs.PartLaws.{interned_all}
use Rattle.resolvo_store.proofs.StoredStores.{IsStored}
use Rattle.resolvo_store.proofs.StoredLaws.{IsStored-origins, IsStored-loaded}

module _ {N S : Type 0} (st : Store N S) (sound : IsStored st) (lawful : IsLawful st.provider) where
  here : AreVariables st.provider.same_solvable st.origins
  here = record { root_first = sound.root_first; one_each = sound.one_variable_each }

  pub IsStored-with_variables : (ss : List S) → All (IsKnownSolvable st.provider.universe) ss
      → IsStored (record st { origins = with_variables st.provider.same_solvable st.origins ss })
  IsStored-with_variables ss known =
      IsStored-origins st sound (with_variables st.provider.same_solvable st.origins ss)
      (longer-all st.provider.same_solvable st.origins ss)
      (AreVariables-with_all st.provider.same_solvable lawful.reflexive st.origins ss here)
      (known-with_variables st.provider.universe st.provider.same_solvable st.origins ss known sound.origins_known)

  pub IsStored-with_variable : (s : S) → IsKnownSolvable st.provider.universe s →
      IsStored (record st { origins = with_variable st.provider.same_solvable st.origins s })
  IsStored-with_variable s known =
      IsStored-with_variables (s ∷ []) (All-cons (IsKnownSolvable st.provider.universe) s [] known
      (All-nil (IsKnownSolvable st.provider.universe)))

  -- lists of solvables got variables, and these are kept for a requirement
  pub IsStored-interned : (r : Requirement) {C : Type 0} (members : C → List S) (cs : List C) →
      All (IsKnownSolvable st.provider.universe) (flat_map members cs)
      → lists_of st r ≡ None → length cs ≡ length (sets_of st.provider.universe r)
      → IsStored (record st {
        origins = with_variables st.provider.same_solvable st.origins (flat_map members cs);
        loaded = st.loaded ++ (
          r,
          map (λ c. map (interned_variable st.provider.same_solvable
              (with_variables st.provider.same_solvable st.origins (flat_map members cs))) (members c)) cs,
        ) ∷ [];
      })
  IsStored-interned r members cs known fresh one_each =
      let same = st.provider.same_solvable in
      let os : List (VariableOrigin N S) = with_variables same st.origins (flat_map members cs) in
      let interned : S → ℕ = interned_variable same os in
      let grown : Store N S = record st { origins = os } in
      let within = All-lists (λ s. interned s < length os) members cs
      (interned_all same lawful.reflexive st.origins (flat_map members cs)) in
      IsStored-loaded grown (IsStored-with_variables (flat_map members cs) known) r
      (map (λ c. map interned (members c)) cs) fresh (record {
        one_a_set = length-map cs (λ c. map interned (members c)) ∙ one_each;
        variables = All-map (All (IsVariable grown)) (λ c. map interned (members c)) cs
            (All-weaker (λ c. All (λ s. interned s < length os) (members c))
            (λ c. All (IsVariable grown) (map interned (members c)))
            (λ c k. All-map (IsVariable grown) interned (members c) k) cs within);
      })
