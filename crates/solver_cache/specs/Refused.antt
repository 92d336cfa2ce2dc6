-- Which refusals a cache may answer to a question, by the cache as it was. D are the providers, N the names, S the
-- solvables, A the allocators, H the sets of solvables.
use Rattle.std.specs.Prelude.{List}
use Rattle.std.specs.List.{list_all}
use Rattle.typed_ids.specs.declared.version_set_id.VersionSetId.{VersionSetId}
use Rattle.solver_cache.specs.Cache.{Cache, is_queried, is_set_queried, is_fetched}
use Rattle.solver_cache.specs.Functions.{Provider}
use Rattle.solver_cache.specs.Questions.{IsRefusal, lacks_candidates, lacks_dependencies, may_lack_candidates}
use Rattle.solver_cache.specs.declared.error.CacheError.{CacheError}

module _ {D N S A H C : Type 0} (p : Provider N S) (c : Cache D N S A H) where
  -- for the candidates of a package
  abbrev pub MayRefuseName : N → CacheError C → Type 0
  MayRefuseName n e = IsRefusal (is_queried p c n) (lacks_candidates p c n) e

  -- for those of a version set
  abbrev pub MayRefuseSet : VersionSetId → CacheError C → Type 0
  MayRefuseSet v e = MayRefuseName (p.universe.set_name v) e

  -- for those of version sets in turn
  abbrev pub MayRefuseSets : List VersionSetId → CacheError C → Type 0
  MayRefuseSets vs e = IsRefusal (list_all (is_set_queried p c) vs) (may_lack_candidates p c vs) e

  -- for what a solvable needs
  abbrev pub MayRefuseNeeds : S → CacheError C → Type 0
  MayRefuseNeeds s e = IsRefusal (is_fetched p c s) (lacks_dependencies p c s) e
