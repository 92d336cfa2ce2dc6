-- The words that lemmas and answers are said with: those of this crate, and of crates below.
pub use Rattle.resolvo_clauses.specs.AtMostOne.{is_tracked}
pub use Rattle.resolvo_clauses.specs.Clauses.{literals_of}
pub use Rattle.resolvo_clauses.specs.Literals.{Lit, Neg}
pub use Rattle.resolvo_clauses.specs.Trail.{Entry, val}
pub use Rattle.resolvo_clauses.specs.Types.Clause.{Clause}
pub use Rattle.resolvo_clauses.specs.Types.Decision.{Decision}
pub use Rattle.resolvo_clauses.specs.Variables.{interned_variable}
pub use Rattle.resolvo_ids.specs.Types.StoreError.{StoreError}
pub use Rattle.resolvo_ids.specs.Types.StoreError.TheVariants.{IdSpace}
pub use Rattle.resolvo_ids.specs.Types.StringId.{StringId}
pub use Rattle.resolvo_pool.specs.Provider.{sets_of}
pub use Rattle.resolvo_pool.specs.Types.Requirement.{Requirement}
pub use Rattle.resolvo_queue.specs.declared.offer.Offer.{Offer}
pub use Rattle.resolvo_queue.specs.declared.requires_clause.RequiresClause.{RequiresClause}
pub use Rattle.resolvo_store.specs.Answers.{assignment, next}
pub use Rattle.resolvo_store.specs.Command.{Already, AnyOf, Assign, AtMostOnce, Clash, ClauseIs, Command, command_of}
pub use Rattle.resolvo_store.specs.Command.{Constrains, ConstrainsExcluded, ConstrainsParent, Decide, Exclude}
pub use Rattle.resolvo_store.specs.Command.{Falsified, Helper, is_saturate, IsRefused, Learnt, Load, LoadedAs, Lock}
pub use Rattle.resolvo_store.specs.Command.{Refused, Reply, reply_of, Requires, Root, Saturate, TrackedAs, UndoUntil}
pub use Rattle.resolvo_store.specs.Command.{Unpropagated, VariableIs}
pub use Rattle.resolvo_store.specs.ForbidsTwo.{is_forbidding, is_satisfied}
pub use Rattle.resolvo_store.specs.Growth.{AreCandidates, candidate_variables}
pub use Rattle.resolvo_store.specs.Outcome.{adds_clause, assign_reply, assigned, decision, falsified_clause, hands_next}
pub use Rattle.resolvo_store.specs.Outcome.{helper_origin, load, origins_loaded, Outcome, outcome, picked, tracking}
pub use Rattle.resolvo_store.specs.Outcome.{variables_loaded, with_learnt, with_registered, with_tracked}
pub use Rattle.resolvo_store.specs.Refusals.{first_refusal}
pub use Rattle.resolvo_store.specs.Step.{HasOutcome, IsAnswered, lacks_ids, may_use_up_answers, Step}
pub use Rattle.resolvo_store.specs.Store.{candidates_of, gathered, lists_of, Provider, Store, store_of, stored_of}
pub use Rattle.resolvo_store.specs.Store.{values}
pub use Rattle.resolvo_store.specs.declared.answers.Assignment.{Assignment}
pub use Rattle.resolvo_store.specs.declared.helper_origin.HelperOrigin.{HelperOrigin}
pub use Rattle.std.specs.Bool.{beq}
pub use Rattle.std.specs.List.{AllByRecursion}
pub use Rattle.std.specs.Prelude.{All, Err, filter, IfErr, IfOk, IfSome, IsSome, MatchOption, nat_eq, Ok, OnErr, OnOk}
pub use Rattle.std.specs.Prelude.{option_map, Result, slice_get}
pub use Rattle.test_store_calls.specs.ExampleWords.{two_versions}
pub use Rattle.test_store_calls.specs.Examples.{Examples}
pub use Rattle.test_store_calls.specs.Play.{answer, answered, PlayIsRun}
pub use Rattle.test_store_calls.specs.SaturationExamples.{no_version, SaturationExamples, state_after, with_implied}
pub use Rattle.test_store_calls.specs.SaturationExamples.{with_root, without_candidates}
