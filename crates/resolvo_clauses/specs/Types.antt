-- The types of the crates behind this one, each with its fields or variants.
pub use Rattle.decisions.specs.declared.decision.Decision
pub use Rattle.decisions.specs.declared.decision_map.DecisionMap
pub use Rattle.decisions.specs.declared.decision_tracker.AddFault
pub use Rattle.decisions.specs.declared.decision_tracker.DecisionTracker
pub use Rattle.decisions.specs.declared.literal.Literal
pub use Rattle.variables.specs.declared.variable_map.VariableMap
pub use Rattle.variables.specs.declared.variable_origin.VariableOrigin
pub use Rattle.clauses.specs.declared.clause.Clause
pub use Rattle.clauses.specs.declared.disjunction.Disjunction
pub use Rattle.at_most_once.specs.declared.tracker.AtMostOnceTracker
pub use Rattle.watch_map.specs.declared.watched_literals.WatchedLiterals
pub use Rattle.watch_map.specs.declared.lists.WatchMap
pub use Rattle.watch_map.specs.declared.cursor.WatchMapCursor
