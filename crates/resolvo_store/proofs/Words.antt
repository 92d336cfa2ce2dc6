-- The words that lemmas and answers are said with: those of this crate, and of crates below.
pub use Rattle.at_most_once.specs.AtMostOne.{BitClause, has_bit, helper_clauses, is_full, is_tracked, IsAllowed}
pub use Rattle.at_most_once.specs.AtMostOne.{IsFresh, needs_helper, new_clauses, Tracker, variable_clauses, with_helper}
pub use Rattle.at_most_once.specs.AtMostOne.{with_new}
pub use Rattle.at_most_once.specs.NameTrackers.{lacks_tracker, tracker_of}
pub use Rattle.clauses.specs.ClauseTexts.{IsKnown, IsKnownClause}
pub use Rattle.clauses.specs.Clauses.{condition_literals, first_watches, is_conflict, learnt_literals, literals_of}
pub use Rattle.clauses.specs.Clauses.{other_literals, same_literal, StoredLiterals, watch_ends}
pub use Rattle.clauses.specs.Laws.{AreTwoOf}
pub use Rattle.clauses.specs.Stored.{lists_found, stored_in}
pub use Rattle.clauses.specs.declared.clause.Clause.{Clause}
pub use Rattle.decisions.specs.Decisions.{values_in}
pub use Rattle.decisions.specs.Literals.{is_false_literal, known_false, known_true, Lit, Neg, Pos, truth, undecided}
pub use Rattle.decisions.specs.Literals.{Values, variable_of}
pub use Rattle.decisions.specs.Trail.{AddsEntry, cut_to, entries_until, Entry, floor_taken, HasLevel, IsOnce, IsTrail}
pub use Rattle.decisions.specs.Trail.{level_of, propagated, pushed, Trail, undo_last, undo_until, val}
pub use Rattle.decisions.specs.declared.decision.Decision.{Decision}
pub use Rattle.decisions.specs.declared.decision_tracker.AddFault.{AddFault}
pub use Rattle.falsified_clauses.specs.Clauses.{Counted, counted, Lists, no_clause, PlacedDemand, with_false}
pub use Rattle.falsified_clauses.specs.Clauses.{with_undecided}
pub use Rattle.falsified_clauses.specs.Counts.{Counts, IsReady, KeyedCounters}
pub use Rattle.falsified_clauses.specs.Falsified.{IsFirstFalsified}
pub use Rattle.id_maps.specs.Scores.{bumped, decayed}
pub use Rattle.providers.specs.Provider.{favored_first, from_place, knows_requirement, matching, sets_of, sorted}
pub use Rattle.providers.specs.Provider.{Universe}
pub use Rattle.providers.specs.Requirement.{same_requirement}
pub use Rattle.providers.specs.RequirementMap.{with_entry}
pub use Rattle.providers.specs.declared.requirement.Requirement.{Requirement}
pub use Rattle.providers.specs.declared.requirement.Requirement.TheVariants.{Single, Union}
pub use Rattle.resolvo_queue.specs.Pick.{decided, DecidesUnbeaten, eligible, pick}
pub use Rattle.resolvo_queue.specs.Queue.{AgreesBelow, HasTrail, IsNew, IsUnchanged, OnlyHotScore, Queue, SameClauses}
pub use Rattle.resolvo_queue.specs.Queue.{SameSync, StandsOn, values_of}
pub use Rattle.resolvo_queue.specs.References.{CanWalk, IsWalkable, literals_in, References, references, rows_in}
pub use Rattle.resolvo_queue.specs.References.{score_in}
pub use Rattle.resolvo_queue.specs.Routing.{variables_of}
pub use Rattle.resolvo_queue.specs.Rows.{all_false, AreFew, frontier, has_true_row, list_rows, lists_loaded}
pub use Rattle.resolvo_queue.specs.Rows.{lists_or_none, loaded_rows, Row, rows}
pub use Rattle.resolvo_queue.specs.Scan.{add_parent, are_literals_false, clauses_of, first_falsified, is_eligible}
pub use Rattle.resolvo_queue.specs.Scan.{is_falsified, is_open, parents, scan}
pub use Rattle.resolvo_queue.specs.Scan.First.{position_at}
pub use Rattle.resolvo_queue.specs.Scan.Positions.{is_after}
pub use Rattle.resolvo_queue.specs.WalkCounts.{changed_from, HasNoneOf, owed, walks, WalksOnce}
pub use Rattle.resolvo_queue.specs.declared.offer.Frontier.{Frontier}
pub use Rattle.resolvo_queue.specs.declared.offer.Offer.{Offer}
pub use Rattle.resolvo_queue.specs.declared.requires_clause.RequiresClause.{RequiresClause}
pub use Rattle.resolvo_queue.specs.declared.tracked_clause.Position.{Position}
pub use Rattle.solver_cache.specs.Cache.{Cache, is_queried, is_set_queried, listed, sorted_of, sorted_of_set}
pub use Rattle.solver_cache.specs.Questions.{BeginsWith, IsLater, lacks_candidates}
pub use Rattle.std.specs.Bool.{beq}
pub use Rattle.std.specs.Borrow.{Bor}
pub use Rattle.std.specs.Cmp.{IsEquivalence}
pub use Rattle.std.specs.Fmt.{HasWritten, IsPlainFormatter}
pub use Rattle.std.specs.List.{AllByRecursion, AllZip, each_same, enumerate_from, list_all, list_any}
unfoldable pub use Rattle.std.specs.List.{IsDistinct}
pub use Rattle.std.specs.List.{position_from, remove}
pub use Rattle.std.specs.List.Sorted.{IsPermutation}
pub use Rattle.std.specs.Map.{lookup}
pub use Rattle.std.specs.Option.{option_copied, option_map_or}
pub use Rattle.std.specs.Ordering.{is_lt, ordering_then}
pub use Rattle.std.specs.Prelude.{codes, Contains, filter, find, flat_map, fold, IfErr, IfOk, IfSome, is_none, is_some}
pub use Rattle.std.specs.Prelude.{IsErrAnd, IsTrue, MatchOption, nat_le, nat_lt, OnErr, OnOk, unwrap_or, zip, ⊤}
pub use Rattle.std.specs.declared.cmp.Ordering.TheVariants.{Equal, Greater, Less}
pub use Rattle.std.specs.declared.vec.Vec.{Vec}
pub use Rattle.typed_ids.specs.Refusals.{IsGrowthRefusal}
pub use Rattle.typed_ids.specs.TotalMaps.{IsUpdate, SameValues}
pub use Rattle.typed_ids.specs.declared.error.StoreError.{StoreError}
pub use Rattle.typed_ids.specs.declared.error.StoreError.TheVariants.{BadLearnt, BadWatch, Cancelled, IdSpace}
pub use Rattle.typed_ids.specs.declared.error.StoreError.TheVariants.{LevelOutOfRange, NegatesParent, NotLoaded}
pub use Rattle.typed_ids.specs.declared.error.StoreError.TheVariants.{OutOfMemory, TooManyClauses, UnknownId}
pub use Rattle.typed_ids.specs.declared.version_set_id.VersionSetId.{VersionSetId}
pub use Rattle.variables.specs.VariableTexts.{knows_origin}
pub use Rattle.variables.specs.Variables.{are_variables_out, interned_variable, is_solvable, IsPartlyInterned}
pub use Rattle.variables.specs.Variables.{IsRootFirst, lacks_variables, variable_of_solvable, with_variables}
pub use Rattle.variables.specs.declared.variable_origin.VariableOrigin.{VariableOrigin}
pub use Rattle.variables.specs.declared.variable_origin.VariableOrigin.TheVariants.{ForbidMultiple, Solvable}
pub use Rattle.watch_map.specs.ClauseList.{bit_watches, can_rewatch, Clauses, contents, IsClauseList, literals_watched}
pub use Rattle.watch_map.specs.ClauseList.{rewatched, two_or_none, with_forbidden, with_forbidden_one}
pub use Rattle.watch_map.specs.Implication.{are_others_false, AreImplied, AreSettled, decided_literal, is_false}
pub use Rattle.watch_map.specs.Implication.{is_unit, IsConflict, IsImplied, IsSettled}
pub use Rattle.watch_map.specs.Marks.{AreMarks, marks_below, none_false_at, none_watched_false}
pub use Rattle.watch_map.specs.Saturation.{HasImplied, IsRearranged, literals_from}
pub use Rattle.watch_map.specs.Watching.{AreTwoOrNone, is_literal_in, IsExact, started}
pub use Rattle.watch_map.specs.declared.marks.Limit.TheVariants.{Place}
pub use Rattle.watch_map.specs.declared.marks.Mark.{Mark}
pub use Rattle.resolvo_store.specs.Adding.{adding, is_direct, names_known}
pub use Rattle.resolvo_store.specs.Answers.{added, conflict, done, replied, tracked}
pub use Rattle.resolvo_store.specs.Command.{Already, AnyOf, Assign, Assigned, AtMostOnce, Bump, Clash, ClauseIs}
pub use Rattle.resolvo_store.specs.Command.{Command, command_of, Conflict, Constrains, ConstrainsExcluded}
pub use Rattle.resolvo_store.specs.Command.{ConstrainsParent, Decay, Decide, DisjunctionIs, Done, Exclude, Falsified}
pub use Rattle.resolvo_store.specs.Command.{Helper, is_saturate, IsRefused, Learnt, Load, LoadedAs, Lock, NoDecision}
pub use Rattle.resolvo_store.specs.Command.{Refused, Reply, reply_of, Requires, Rewatch, Saturate, Standard, TrackedAs}
pub use Rattle.resolvo_store.specs.Command.{UndoLast, UndoUntil, Unpropagated, Variable, VariableIs, Watchers}
pub use Rattle.resolvo_store.specs.Command.{WatchersAre}
pub use Rattle.resolvo_store.specs.Counted.{AreCounted, clause_at, Counting, demand_of, false_by, false_literal}
pub use Rattle.resolvo_store.specs.Counted.{Follows, no_false, placed, placed_in}
pub use Rattle.resolvo_store.specs.ForbidsTwo.{ForbidsTwo, is_forbidding, is_satisfied, is_true_literal}
pub use Rattle.resolvo_store.specs.Growth.{AreCandidates, candidate_variables, IsOfCandidates, OnlyGrows}
pub use Rattle.resolvo_store.specs.Helpers.{is_helper_known}
pub use Rattle.resolvo_store.specs.Lists.{AreQueried, CameThrough, HasMarks, IsConsistent, IsFit, IsOneMore}
pub use Rattle.resolvo_store.specs.Lists.{lists_of_loaded, stored_disjunctions}
pub use Rattle.resolvo_store.specs.LoadRefusals.{IsLoadRefusal}
pub use Rattle.resolvo_store.specs.Models.{Agrees, is_negation, IsModel, IsModelNow, MayLeaveFalse, true_alone}
pub use Rattle.resolvo_store.specs.Outcome.{adds_clause, assign_reply, assigned, cut_back, decision, falsified_clause}
pub use Rattle.resolvo_store.specs.Outcome.{hands_next, helper_for, helper_origin, is_eligible_clause, load, offers}
pub use Rattle.resolvo_store.specs.Outcome.{origins_loaded, Outcome, outcome, picked, tracking, variables_loaded}
pub use Rattle.resolvo_store.specs.Outcome.{with_bits, with_bumped, with_disjunction, with_registered, with_tracked}
pub use Rattle.resolvo_store.specs.Outcome.{without_newest}
pub use Rattle.resolvo_store.specs.QueueState.{queue_state_of, QueueState}
pub use Rattle.resolvo_store.specs.Refusals.{are_clauses_out, are_disjunctions_out, clause_refusals, first_refusal}
pub use Rattle.resolvo_store.specs.Refusals.{is_bad_learnt, is_learnt_out, is_level, knows_clause, knows_disjunction}
pub use Rattle.resolvo_store.specs.Refusals.{knows_helper, knows_literal, knows_pair, knows_variable, may_rewatch}
pub use Rattle.resolvo_store.specs.Refusals.{negates_parent, refusals}
pub use Rattle.resolvo_store.specs.ReplyTexts.{field, lists_text, others_text}
pub use Rattle.resolvo_store.specs.Saturating.{HasConflict, HasImpliedMore, HasSettled, IsSaturated, RefusalLeaves}
pub use Rattle.resolvo_store.specs.Saturating.{Saturates}
pub use Rattle.resolvo_store.specs.Solved.{IsSolved}
pub use Rattle.resolvo_store.specs.Sound.{AreLiterals, HasOneVariableEach, IsAssigned, IsLoaded, IsPlain, IsSound}
pub use Rattle.resolvo_store.specs.Sound.{IsVariable, requires_from}
pub use Rattle.resolvo_store.specs.Step.{HasOutcome, is_named, IsAnswered, lacks_ids, may_be_refused, Run, Step}
pub use Rattle.resolvo_store.specs.Step.{takes_no_memory}
pub use Rattle.resolvo_store.specs.Store.{all_candidates, bits, candidates_of, clause_literals, condition_of, lists_of}
pub use Rattle.resolvo_store.specs.Store.{new_store, rows_of, score_of, Store, store_of, stored_of, StoredDisjunction}
pub use Rattle.resolvo_store.specs.Store.{StoreState, values}
pub use Rattle.resolvo_store.specs.Synced.{decisions_of, IsInStep, MayDecide}
pub use Rattle.resolvo_store.specs.Tracking.{bits_of, forbidding, is_helper_among, IsTracking, lacks_more, origins_with}
pub use Rattle.resolvo_store.specs.Walks.{changed_since, HasSynced, OwesFirst, SyncsNothing, taken_back, WalksEachOnce}
pub use Rattle.resolvo_store.specs.Walks.{WalksNothing}
pub use Rattle.resolvo_store.specs.declared.answers.Tracked.{Tracked}
pub use Rattle.resolvo_store.specs.declared.helper_origin.HelperOrigin.{HelperOrigin}
