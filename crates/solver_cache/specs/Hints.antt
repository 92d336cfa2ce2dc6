-- Hints of which solvables' dependencies are at hand. S are the solvables, A the allocators.
use Rattle.std.specs.Prelude.{◌≡◌, Bool, true, not, ◌&&◌, ◌||◌, List, []}
use Rattle.std.specs.List.{list_any}
use Rattle.providers.specs.declared.candidates.Candidates.{Candidates}
use Rattle.providers.specs.declared.candidates.HintDependenciesAvailable.{HintDependenciesAvailable}
use Rattle.providers.specs.declared.candidates.HintDependenciesAvailable.TheVariants as Hint

-- the solvables that a hint names, of these candidates
abbrev pub hinted_among : {S A : Type 0} → HintDependenciesAvailable S A → List S → List S
hinted_among Hint.None candidates = []
hinted_among Hint.All candidates = candidates
hinted_among (Hint.Some solvables) candidates = solvables.items

-- the hints of an answer
abbrev pub hints_of : {S A : Type 0} → Candidates S A → List S
hints_of answer = hinted_among answer.hint_dependencies_available answer.candidates.items

-- what was marked, and what the hints mark; one that no set can hold is passed over
abbrev pub with_hints : {S : Type 0} → (same : S → S → Bool) → (is_large : S → Bool) → (S → Bool) → List S → S → Bool
with_hints same is_large hinted hints s = hinted s || (list_any (same s) hints && not (is_large s))

module _ {S : Type 0} (same : S → S → Bool) (is_large : S → Bool) (hinted : S → Bool) (hints : List S) where
  -- what was marked is, and the hints
  abbrev pub AreMarked : (S → Bool) → Type 0
  AreMarked new = (s : S) → new s ≡ with_hints same is_large hinted hints s

  -- what was marked is, and of the hints some at most
  pub record AreMarkedInPart (new : S → Bool) : Type 0 where
    pub kept : (s : S) → hinted s ≡ true → new s ≡ true
    pub within : (s : S) → new s ≡ true → with_hints same is_large hinted hints s ≡ true
