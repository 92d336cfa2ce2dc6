-- What the lists of a load are, and when a load is refused, as the cache and the variables tell it. N are the names, S
-- the solvables.
use Rattle.std.specs.Prelude.{◌≡◌, ◌<◌, ℕ, ◌^◌, Bool, false, true, not, ◌&&◌, ◌||◌, nat_le, List, map, flat_map}
use Rattle.std.specs.Prelude.{length, All}
use Rattle.std.specs.List.{list_any, list_all}
use Rattle.typed_ids.specs.declared.error.StoreError.{StoreError}
use Rattle.providers.specs.declared.requirement.Requirement.{Requirement}
use Rattle.typed_ids.specs.declared.version_set_id.VersionSetId.{VersionSetId}
use Rattle.variables.specs.declared.variable_origin.VariableOrigin.{VariableOrigin}
use Rattle.variables.specs.Variables.{interned_variable, with_variables, lacks_variables, IsPartlyInterned}
use Rattle.solver_cache.specs.Cache.{Cache, is_set_queried, sorted_of_set, sorted_of}
use Rattle.solver_cache.specs.Functions.{Provider}
use Rattle.solver_cache.specs.Questions.{IsLater, lacks_candidates}
use Rattle.resolvo_store.specs.LoadRefusals.{IsLoadRefusal}

module _ {N S : Type 0} (p : Provider N S) where
  -- a requirement has few rows
  abbrev pub IsSmall : Requirement → Type 0
  IsSmall r = length (sorted_of p r) < 2 ^ 40

  -- there are ids for the variables of its candidates
  abbrev pub VariablesFit : Requirement → List (VariableOrigin N S) → Type 0
  VariablesFit r origins = lacks_variables p.same_solvable p.is_large_solvable origins (sorted_of p r) ≡ false

  -- the variables that solvables have
  abbrev pub variables_in : List (VariableOrigin N S) → List S → List ℕ
  variables_in origins ss = map (interned_variable p.same_solvable origins) ss

module _ {D N S A H : Type 0} (p : Provider N S) (has : H → S → Bool) (old new : Cache D N S A H)
    (origins after : List (VariableOrigin N S)) where
  -- version sets' lists: of the variables of their candidates, all of which have one; and their packages were queried
  pub record AreSetsLoaded (vs : List VersionSetId) (lists : List (List ℕ)) : Type 0 where
    pub later : IsLater has old new
    pub queried : All (λ v. is_set_queried p new v ≡ true) vs
    pub names_fit : list_any (λ v. p.is_large_name (p.universe.set_name v)) vs ≡ false
    pub interned : after ≡ with_variables p.same_solvable origins (flat_map (sorted_of_set p) vs)
    pub fit : list_any p.is_large_solvable (flat_map (sorted_of_set p) vs) ≡ false
    pub of_variables : lists ≡ map (λ v. variables_in p after (sorted_of_set p v)) vs

  -- they are refused: a package's candidates are, or ids or memory are lacking, or the rows are too many. A beginning
  -- of the candidates have variables
  pub record AreSetsRefused (vs : List VersionSetId) (e : StoreError) : Type 0 where
    pub later : IsLater has old new
    pub part : IsPartlyInterned p.same_solvable origins (flat_map (sorted_of_set p) vs) after
    pub reason : IsLoadRefusal (list_all (is_set_queried p old) vs)
        (list_any (λ v. not (is_set_queried p old v) && lacks_candidates p new (p.universe.set_name v)) vs
        || (nat_le (2 ^ 40) (length (flat_map (sorted_of_set p) vs))
        || lacks_variables p.same_solvable p.is_large_solvable origins (flat_map (sorted_of_set p) vs))) e
