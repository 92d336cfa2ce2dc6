-- The fixed functions of a provider and of its ids, gathered, and what else it may tell. N are the names, S the
-- solvables, A the allocators.
use Rattle.std.specs.Prelude.{Bool, Option}
use Rattle.providers.specs.Provider.{Universe, Answers}
use Rattle.providers.specs.declared.candidates.Candidates.{Candidates}

pub record Provider (N S : Type 0) : Type 0 where
  pub same_name : N → N → Bool
  pub same_solvable : S → S → Bool
  -- nothing can be kept by this id; for a dense one: its index is 2^40 or more
  pub is_large_name : N → Bool
  pub is_large_solvable : S → Bool
  -- no set can hold this id
  pub is_large_hint : S → Bool
  -- there may be more than 2^32 names
  pub are_names_many : Bool
  pub universe : Universe N S
  pub answers : Answers N S

-- what a provider may find of a package, all of it: its `may_answer`
abbrev pub MayAnswer : Type 0 → Type 0 → Type 0 → Type 1
MayAnswer N S A = N → Option (Candidates S A) → Type 0

-- the same functions, of a provider D
abbrev pub gathered : {D N S : Type 0} → (N → N → Bool) → (S → S → Bool) → (N → Bool) → (S → Bool) → (S → Bool) →
    Bool → (D → Universe N S) → (D → Answers N S) → D → Provider N S
gathered same_name same_solvable is_large_name is_large_solvable is_large_hint are_names_many universe answers p =
    record {
      same_name = same_name;
      same_solvable = same_solvable;
      is_large_name = is_large_name;
      is_large_solvable = is_large_solvable;
      is_large_hint = is_large_hint;
      are_names_many = are_names_many;
      universe = universe p;
      answers = answers p;
    }
