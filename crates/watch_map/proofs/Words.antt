-- The words that lemmas and answers are said with: those of this crate, and of crates below.
pub use Rattle.clauses.specs.Clauses.{conflicts_with_parent, first_not_false, first_watches, literals_of, same_literal}
pub use Rattle.clauses.specs.Clauses.{StoredLiterals, watch_beside, watch_ends, watch_pair}
pub use Rattle.clauses.specs.Stored.{stored_in}
pub use Rattle.clauses.specs.declared.clause.Clause.{Clause}
pub use Rattle.clauses.specs.declared.clause.Clause.TheVariants.{ForbidMultipleInstances}
pub use Rattle.decisions.specs.Decisions.{values_in}
pub use Rattle.decisions.specs.LiteralIndex.{literal_at, literal_index, literal_index-injective}
pub use Rattle.decisions.specs.LiteralIndex.{literal_index-literal_at}
pub use Rattle.decisions.specs.Literals.{is_false_literal, known_false, known_true, Lit, Neg, Pos, satisfying_value}
pub use Rattle.decisions.specs.Literals.{truth, undecided, Values, variable_of}
pub use Rattle.decisions.specs.Trail.{Entry, IsOnce, level_of, Trail, val}
pub use Rattle.decisions.specs.declared.decision.Decision.{Decision}
pub use Rattle.id_storage.specs.Mapping.{AreEmpty, slots_for, value_at, value_count}
pub use Rattle.std.specs.Bool.{beq}
pub use Rattle.std.specs.List.{AllByRecursion, AllPairs, Contains, list_all, list_any}
unfoldable pub use Rattle.std.specs.List.{IsDistinct}
pub use Rattle.std.specs.Option.{ForSome, option_eq, option_map_or, option_or}
pub use Rattle.std.specs.Prelude.{All, count_by, filter, find, fold, IfErr, IfOk, IfSome, IsErrAnd, IsTrue, MatchOption}
pub use Rattle.std.specs.Prelude.{max, nat_le, nat_lt, OnErr, OnOk, option_map, slice_get, unwrap_or, vec_capacity}
pub use Rattle.typed_ids.specs.Refusals.{are_ids_out, IsGrowthRefusal}
pub use Rattle.typed_ids.specs.TotalMaps.{IsUpdate, SameValues}
pub use Rattle.typed_ids.specs.declared.error.StoreError.{StoreError}
pub use Rattle.typed_ids.specs.declared.error.StoreError.TheVariants.{BadWatch, IdSpace, OutOfMemory}
pub use Rattle.watch_map.specs.ClauseList.{bit_watches, can_rewatch, ClauseListState, Clauses, contents, HasRoomFor}
pub use Rattle.watch_map.specs.ClauseList.{helper_literal, is_full, is_learnt_full, IsClauseList, literals_watched}
pub use Rattle.watch_map.specs.ClauseList.{rewatched, two_or_none, with_clause, with_forbidden, with_forbidden_one}
pub use Rattle.watch_map.specs.ClauseList.{with_rewatched}
pub use Rattle.watch_map.specs.Implication.{are_others_false, AreImplied, AreSettled, decided_literal, is_false}
pub use Rattle.watch_map.specs.Implication.{is_unit, IsConflict, IsImplied, IsSettled}
pub use Rattle.watch_map.specs.Laws.{ClausesAreVisitedOnce, CursorsDivide, CursorsOutliveRoom, NewClausesJoin}
pub use Rattle.watch_map.specs.Laws.{RecordsGrow, RecordsSkip, RoomIsForFewer, SameRecordsBelong}
pub use Rattle.watch_map.specs.Marks.{AreMarks, AreRising, beginning, is_from, IsMark, IsRemembered, marks_below}
pub use Rattle.watch_map.specs.Marks.{newest_mark, none_false_at, none_watched_false, not_false_at}
pub use Rattle.watch_map.specs.Saturation.{HasImplied, IsRearranged, literals_from, literals_in_list, WatchOwn}
pub use Rattle.watch_map.specs.Visits.{AreAllSettled, AreAllTrue, AreUnwatchedSettled, AreUnwatchedTrue, ImpliesOther}
pub use Rattle.watch_map.specs.Visits.{IsVisit, IsWatching, may_watch, MayWatch}
pub use Rattle.watch_map.specs.Walks.{IsRewatched, larger_variable, largest_variable, may_rewatch, StartsAtEnd}
pub use Rattle.watch_map.specs.WatchCalls.{HaveRoom, HaveRooms, IsReached, KeepsRoom, Moves, passed, remaining, rest}
pub use Rattle.watch_map.specs.WatchCalls.{SameLists, StandsBehind, StandsIn, Starts, UsesRoom}
pub use Rattle.watch_map.specs.WatchInvariant.{AreWatchesSatisfied, AreWatchesSatisfiedBut, Extends, has_true_beside}
pub use Rattle.watch_map.specs.WatchInvariant.{is_true, is_true_literal, KeepWatchesSatisfied, refuted_literal}
pub use Rattle.watch_map.specs.WatchInvariant.{val_before}
pub use Rattle.watch_map.specs.WatchLists.{AreUnwatchedBelow, AreWatched, chain, clause_of, HasTwoLinks}
unfoldable pub use Rattle.watch_map.specs.WatchLists.{HasRoom}
pub use Rattle.watch_map.specs.WatchLists.{index_of, IsChain, IsCursorAt, IsNode, IsPrevious, IsRelinked, link}
pub use Rattle.watch_map.specs.WatchLists.{link_for, literal_of, next_at, next_in, Position, record_of, watched_by}
pub use Rattle.watch_map.specs.WatchLists.{Watches, WatchLists, with_next, with_watch}
unfoldable pub use Rattle.watch_map.specs.WatchLists.{watchers}
pub use Rattle.watch_map.specs.Watching.{AreTwo, AreTwoOrNone, AreUnwatched, before, behind, count_lists, is_clause_in}
pub use Rattle.watch_map.specs.Watching.{is_literal_in, IsExact, IsListCount, moved, started, without}
pub use Rattle.watch_map.specs.declared.marks.Limit.{Limit}
pub use Rattle.watch_map.specs.declared.marks.Limit.TheVariants.{Level, Place}
pub use Rattle.watch_map.specs.declared.marks.Mark.{Mark}
pub use Rattle.watch_map.specs.declared.nodes.WatchNode.{WatchNode}
pub use Rattle.watch_map.specs.declared.saturation.input.SaturationInput.{SaturationInput}
pub use Rattle.watch_map.specs.declared.saturation.visit.VisitOutcome.{VisitOutcome}
pub use Rattle.watch_map.specs.declared.watched_literals.WatchedLiterals.{WatchedLiterals}
