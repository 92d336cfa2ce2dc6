-- The words that lemmas and answers are said with: those of this crate, and of crates below.
pub use Rattle.indexmap.specs.IndexMap.{IndexMap, insert_entry, insert_index}
pub use Rattle.providers.specs.Dependencies.{needs_of}
pub use Rattle.providers.specs.Provider.{favored_first, filtered, from_place, matching, non_matching, sets_of, sorted}
pub use Rattle.providers.specs.Requirement.{same_requirement}
pub use Rattle.providers.specs.contracts.requirement.RequirementPartialEq.TheImpl.{eq-value}
pub use Rattle.providers.specs.declared.candidates.Candidates.{Candidates}
pub use Rattle.providers.specs.declared.dependencies.Dependencies.{Dependencies}
pub use Rattle.providers.specs.declared.requirement.Requirement.{Requirement}
pub use Rattle.providers.specs.declared.requirement.Requirement.TheVariants.{Single, Union}
pub use Rattle.std.specs.List.{list_all, list_any, position_from}
pub use Rattle.std.specs.Map.{lookup, values_of}
pub use Rattle.std.specs.Prelude.{All, Err, filter, flat_map, IfErr, IfOk, IfSome, Ok, OnErr, Result, unwrap_or}
pub use Rattle.std.specs.Prelude.{vec_capacity, vec_len}
pub use Rattle.std.specs.Result.{IsErrAnd}
pub use Rattle.typed_ids.specs.Refusals.{IsGrowthRefusal}
pub use Rattle.typed_ids.specs.declared.error.StoreError.{StoreError}
pub use Rattle.typed_ids.specs.declared.error.StoreError.TheVariants.{IdSpace, OutOfMemory}
pub use Rattle.typed_ids.specs.declared.version_set_id.VersionSetId.{VersionSetId}
pub use Rattle.typed_ids.specs.declared.version_set_union_id.VersionSetUnionId.{VersionSetUnionId}
pub use Rattle.solver_cache.specs.Cache.{AreListed, Cache, is_cached, is_fetched, is_queried, is_set_queried, IsAnswer}
pub use Rattle.solver_cache.specs.Cache.{IsCache, listed, same_set, sorted_of, sorted_of_set}
pub use Rattle.solver_cache.specs.CandidateLaws.{CandidatesDivide, Divide}
pub use Rattle.solver_cache.specs.Functions.{gathered, MayAnswer, Provider}
pub use Rattle.solver_cache.specs.Hints.{hints_of, with_hints}
pub use Rattle.solver_cache.specs.Outcomes.{AnswersSorted, RefusesCandidates, RefusesDependencies}
pub use Rattle.solver_cache.specs.Outcomes.{RefusesFiltered, RefusesSets, RefusesSorted}
pub use Rattle.solver_cache.specs.Questions.{AreSorted, BeginsWith, IsLater, IsMarked, IsMatched}
pub use Rattle.solver_cache.specs.Questions.{IsOnce, IsQueried}
pub use Rattle.solver_cache.specs.Questions.{IsRefusal, IsRefusedOf, IsRefusedOfSets, IsSorted, lacks_candidates}
pub use Rattle.solver_cache.specs.Questions.{lacks_dependencies, may_lack_candidates}
pub use Rattle.solver_cache.specs.Refused.{MayRefuseName, MayRefuseNeeds, MayRefuseSet, MayRefuseSets}
pub use Rattle.solver_cache.specs.Unanswered.{AreCutShort, AreStopped, AreUnsorted, IsUnanswered, IsUnsorted}
pub use Rattle.solver_cache.specs.declared.error.CacheError.{CacheError}
pub use Rattle.solver_cache.specs.declared.error.CacheError.TheVariants.{Cancelled, Store}
pub use Rattle.solver_cache.specs.declared.list_id.ListKind.{ListKind}
pub use Rattle.solver_cache.specs.declared.list_id.ListKind.TheVariants.{Matching, NonMatching, Sorted}
