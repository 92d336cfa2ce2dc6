-- Conjuncts of a condition, and when all of them hold.
use Rattle.std.specs.Prelude.{Bool, true, false, List, All, Any}
use Rattle.std.specs.List.{list_all, list_any}
use Rattle.typed_ids.specs.declared.version_set_id.VersionSetId.{VersionSetId}
use Rattle.providers.specs.declared.deferred.DeferredConjunct.{DeferredConjunct}
use Rattle.providers.specs.declared.deferred.DeferredConjunct.TheVariants.{Solvables, Empty}

-- the version set that a conjunct stands for
abbrev pub version_set_of : {S A : Type 0} → DeferredConjunct S A → VersionSetId
version_set_of (Solvables set matching) = set
version_set_of (Empty set all) = set

-- the candidates of which one has to be true
abbrev pub candidates_of : {S A : Type 0} → DeferredConjunct S A → List S
candidates_of (Solvables set matching) = matching.items
candidates_of (Empty set all) = all.items

-- every conjunct has a candidate that is true
abbrev pub disjunct_holds : {S A : Type 0} → (S → Bool) → List (DeferredConjunct S A) → Bool
disjunct_holds is_true conjuncts = list_all (λ c. list_any is_true (candidates_of c)) conjuncts

-- some candidate was answered true, or each was answered false
abbrev pub HasAnswer : {S : Type 0} → (S → Bool → Type 0) → List S → Bool → Type 0
HasAnswer answers candidates true = Any (λ s. answers s true) candidates
HasAnswer answers candidates false = All (λ s. answers s false) candidates

-- every conjunct has a candidate that was answered true, or some conjunct has none but such as were answered false
abbrev pub HoldsBy : {S A : Type 0} → (S → Bool → Type 0) → List (DeferredConjunct S A) → Bool → Type 0
HoldsBy answers conjuncts true = All (λ c. HasAnswer answers (candidates_of c) true) conjuncts
HoldsBy answers conjuncts false = Any (λ c. HasAnswer answers (candidates_of c) false) conjuncts
