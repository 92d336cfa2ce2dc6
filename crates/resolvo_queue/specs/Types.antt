-- The types of the source, and the words of crates below, that this crate's words are said with.
pub use Rattle.clauses.specs.Clauses.{condition_literals}
pub use Rattle.clauses.specs.Stored.{stored_in}
pub use Rattle.clauses.specs.declared.disjunction.Disjunction.{Disjunction}
pub use Rattle.decisions.specs.Decisions.{values_in}
pub use Rattle.decisions.specs.Literals.{is_false_literal, known_false, known_true, Lit, undecided, Values, variable_of}
pub use Rattle.decisions.specs.declared.decision.Decision.{Decision}
pub use Rattle.providers.specs.Provider.{knows_requirement, sets_of, Universe}
pub use Rattle.providers.specs.Requirement.{same_requirement}
pub use Rattle.providers.specs.declared.requirement.Requirement.{Requirement}
pub use Rattle.resolvo_queue.specs.declared.offer.Frontier.{Frontier}
pub use Rattle.resolvo_queue.specs.declared.requires_clause.RequiresClause.{RequiresClause}
pub use Rattle.resolvo_queue.specs.declared.tracked_clause.Position.{Position}
pub use Rattle.resolvo_queue.specs.declared.tracked_clause.TrackedClause.{TrackedClause}
pub use Rattle.std.specs.List.{list_all, list_any}
pub use Rattle.std.specs.Map.{lookup}
pub use Rattle.std.specs.Mem.{manually_drop_value}
pub use Rattle.std.specs.Ordering.{is_eq, is_gt, is_lt, nat_cmp, on, then_cmp}
pub use Rattle.std.specs.declared.cmp.Ordering.{Ordering}
pub use Rattle.std.specs.declared.cmp.Ordering.TheVariants.{Less}
pub use Rattle.std.specs.declared.mem.ManuallyDrop.{ManuallyDrop}
pub use Rattle.std.specs.declared.vec.Vec.{Vec}
pub use Rattle.typed_ids.specs.Refusals.{IsGrowthRefusal}
pub use Rattle.typed_ids.specs.TotalMaps.{IsLargest, IsUpdate, SameValues}
pub use Rattle.typed_ids.specs.declared.error.StoreError.TheVariants.{IdSpace, OutOfMemory, TooManyClauses}
pub use Rattle.typed_ids.specs.declared.version_set_id.VersionSetId.{VersionSetId}
