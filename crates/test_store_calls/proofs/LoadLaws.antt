-- What a Load answers.
use Rattle.std.proofs.Common.{◌≡◌, ℕ, List, length, map, Option, None, Some, ◌∙◌, ap, subst}
use Rattle.std.proofs.lemmas.List.{length-map}
use Rattle.test_store_calls.proofs.Words.{candidates_of, first_refusal, interned_variable, IsAnswered, lists_of, Load}
use Rattle.test_store_calls.proofs.Words.{load, LoadedAs, MatchOption, origins_loaded, Refused, Reply, Requirement}
use Rattle.test_store_calls.proofs.Words.{sets_of, Step, Store, StoreError, variables_loaded}

-- a requirement that wasn't loaded is answered one list a version set
pub one_list_each : {N S : Type 0} (old new : Store N S) (r : Requirement) (reply : Reply) →
    Step old (Load r) reply new → lists_of old r ≡ None
    → (lists : List (List ℕ)) → reply ≡ LoadedAs lists → length lists ≡ length (sets_of old.provider.universe r)
one_list_each old new r reply step fresh lists is =
    by_refusal (first_refusal old (Load r)) (subst (λ x. Step old (Load r) x new) is step)
  where
    by_refusal : (e : Option StoreError) →
        MatchOption e (IsAnswered old (Load r) (LoadedAs lists) new) (λ x. (LoadedAs lists ≡ Refused x) × (new ≡ old))
        → length lists ≡ length (sets_of old.provider.universe r)
    by_refusal None h =
        let same : LoadedAs lists ≡ LoadedAs (variables_loaded old r) = h.1 ∙ ap (λ o. (load old r o).reply) fresh in
        let each : lists ≡ variables_loaded old r = cc in
        ap length each
        ∙ length-map (sets_of old.provider.universe r) (λ v. map
        (interned_variable old.provider.same_solvable (origins_loaded old r)) (candidates_of old v))
    by_refusal (Some x) h = let no : LoadedAs lists ≡ Refused x = h.0 in cc
