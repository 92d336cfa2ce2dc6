-- The words that lemmas and answers are said with: those of this crate, and of crates below.
pub use Rattle.clause_counters.specs.CounterState.{CounterState}
pub use Rattle.clause_counters.specs.GroupedClauses.{AddsClause, AddsGroup, GroupClause, grouped_clause, GroupedClauses}
pub use Rattle.clause_counters.specs.GroupedClauses.{has_index, Represents, row_literals, with_group}
pub use Rattle.clauses.specs.Clauses.{condition_literals, same_literal}
pub use Rattle.clauses.specs.Stored.{lists_found, stored_in}
pub use Rattle.clauses.specs.declared.disjunction.Disjunction.{Disjunction}
pub use Rattle.decisions.specs.Decisions.{values_in}
pub use Rattle.decisions.specs.LiteralIndex.{literal_index}
pub use Rattle.decisions.specs.Literals.{is_false_literal, Lit, Neg, Pos}
pub use Rattle.providers.specs.Requirement.{same_requirement}
pub use Rattle.providers.specs.RequirementMap.{with_entry}
pub use Rattle.providers.specs.declared.requirement.Requirement.{Requirement}
pub use Rattle.providers.specs.declared.requirement.Requirement.TheVariants.{Single, Union}
pub use Rattle.std.specs.List.{All, Contains, list_all}
pub use Rattle.std.specs.Map.{lookup}
pub use Rattle.std.specs.declared.vec.Vec.{Vec}
pub use Rattle.typed_ids.specs.TotalMaps.{IsUpdate, SameValues}
pub use Rattle.typed_ids.specs.declared.version_set_id.VersionSetId.{VersionSetId}
pub use Rattle.typed_ids.specs.declared.version_set_union_id.VersionSetUnionId.{VersionSetUnionId}
pub use Rattle.falsified_clauses.specs.Clauses.{clause_at, Counted, counted, counted_under, Lists, no_clause}
pub use Rattle.falsified_clauses.specs.Clauses.{PlacedDemand, rows, with_clause, with_false, with_undecided}
pub use Rattle.falsified_clauses.specs.Counts.{Counts, group_clause, grouped_by, IsReady, KeyedCounters}
pub use Rattle.falsified_clauses.specs.Falsified.{is_falsified_at, IsFirstFalsified}
pub use Rattle.falsified_clauses.specs.GroupIndex.{FindsKeys, number_of, SameSlots, slot_at, Tables}
pub use Rattle.falsified_clauses.specs.GroupKeys.{AddsOnly, condition_number, HasConditionGroup, HasGroups}
pub use Rattle.falsified_clauses.specs.GroupKeys.{IsConditionKey, IsKnown, KeepsNumbers, keys_of, keys_under}
pub use Rattle.falsified_clauses.specs.GroupKeys.{literals_of, number_in, numbers, numbers_in, same_key}
pub use Rattle.falsified_clauses.specs.declared.demand.Demand.{Demand}
pub use Rattle.falsified_clauses.specs.declared.group_key.GroupKey.{GroupKey}
pub use Rattle.falsified_clauses.specs.declared.group_key.GroupKey.TheVariants.{Condition, Parent, Rows}
