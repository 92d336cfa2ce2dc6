-- The types of the crates behind this one, each with its fields or variants, and then their traits.
pub use Rattle.providers.specs.declared.candidates.Candidates
pub use Rattle.providers.specs.declared.candidates.HintDependenciesAvailable
pub use Rattle.providers.specs.declared.condition.Condition
pub use Rattle.providers.specs.declared.condition.LogicalOperator
pub use Rattle.providers.specs.declared.conditional_requirement.ConditionalRequirement
pub use Rattle.providers.specs.declared.dependencies.Dependencies
pub use Rattle.providers.specs.declared.dependencies.KnownDependencies
pub use Rattle.providers.specs.declared.requirement.Requirement
pub use Rattle.providers.specs.declared.requirement_map.RequirementMap
pub use Rattle.providers.specs.declared.version_sets.VersionSets
pub use Rattle.providers.specs.declared.deferred.DeferredConjunct
pub use Rattle.providers.specs.declared.deferred.DeferredRequirement
pub use Rattle.package_pool.specs.declared.pool.Pool
pub use Rattle.package_pool.specs.declared.solvable.Solvable
pub use Rattle.solver_cache.specs.declared.error.CacheError
pub use Rattle.solver_cache.specs.declared.list_id.ListId
pub use Rattle.solver_cache.specs.declared.list_id.ListKind
-- the traits, each with its ghost members
pub use Rattle.providers.specs.declared.interner.Interner
pub use Rattle.providers.specs.declared.provider.DependencyProvider
pub use Rattle.providers.specs.declared.root_text.RootText
pub use Rattle.package_pool.specs.declared.name_text.NameText
pub use Rattle.package_pool.specs.declared.version_set.VersionSet
pub use Rattle.solver_cache.specs.declared.provider_functions.ProviderFunctions
