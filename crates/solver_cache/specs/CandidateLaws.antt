-- What is true of the candidate lists of every provider. N are the names, S the solvables.
use Rattle.std.specs.Prelude.{◌≡◌, ◌+◌, Bool, List, Contains, IsPermutation}
use Rattle.std.specs.List.{count_by}
use Rattle.typed_ids.specs.declared.version_set_id.VersionSetId.{VersionSetId}
use Rattle.providers.specs.Provider.{matching, non_matching}
use Rattle.solver_cache.specs.Cache.{sorted_of_set}
use Rattle.solver_cache.specs.Functions.{Provider}

-- two lists split all candidates: each candidate is in exactly one of them, once for each time that it is listed
pub record Divide {S : Type 0} (same : S → S → Bool) (held others all : List S) : Type 0 where
  pub as_often : (s : S) → count_by (same s) held + count_by (same s) others ≡ count_by (same s) all
  pub never_both : (s : S) → Contains held s → Contains others s → ⊥

-- a version set splits its package's candidates into those that it holds and the others; sorting only reorders those
-- that it holds
pub record CandidatesDivide {N S : Type 0} (p : Provider N S) (v : VersionSetId) : Type 0 where
  pub divided : Divide p.same_solvable (matching p.universe p.answers v) (non_matching p.universe p.answers v)
      (p.answers.candidates (p.universe.set_name v))
  pub reordered : IsPermutation (matching p.universe p.answers v) (sorted_of_set p v)
