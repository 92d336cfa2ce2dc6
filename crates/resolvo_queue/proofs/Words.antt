-- The words that lemmas and answers are said with: those of this crate, and of crates below.
pub use Rattle.clauses.specs.Clauses.{condition_literals}
pub use Rattle.clauses.specs.Stored.{stored_in}
pub use Rattle.clauses.specs.declared.disjunction.Disjunction.{Disjunction}
pub use Rattle.decisions.specs.Decisions.{values_in}
pub use Rattle.decisions.specs.Literals.{is_false_literal, known_false, known_true, Lit, Neg, Pos, truth, undecided}
pub use Rattle.decisions.specs.Literals.{Values, variable_of}
pub use Rattle.decisions.specs.Trail.{Entry, val}
pub use Rattle.decisions.specs.declared.decision.Decision.{Decision}
pub use Rattle.providers.specs.Provider.{AreUnionSetsKnown, knows_requirement, sets_of, Universe}
pub use Rattle.providers.specs.Requirement.{same_requirement}
pub use Rattle.providers.specs.RequirementMap.{with_entry}
pub use Rattle.providers.specs.declared.requirement.Requirement.{Requirement}
pub use Rattle.providers.specs.declared.requirement.Requirement.TheVariants.{Single, Union}
pub use Rattle.resolvo_queue.specs.Falsified.{comes_first, Covers, FindsBelow, FindsFirst, is_falsified_in, refs_of}
pub use Rattle.resolvo_queue.specs.Members.{here, Stands, there}
pub use Rattle.resolvo_queue.specs.Occurrences.{GrowsWith, HasAll, is_listed, Listed, listing, Reading, times}
pub use Rattle.resolvo_queue.specs.Parts.{AreCold, ArePlaced, AreWoken, clauses_at, clauses_in, ColdLack}
pub use Rattle.resolvo_queue.specs.Parts.{forgotten, FoundByAll, fresh, GainsNumber, GainsRecord, GrowsBy, HasNoPlace}
pub use Rattle.resolvo_queue.specs.Parts.{HaveNumbers, heated, is_empty_queue, IsCounted, IsOfClause, IsPlaceOf}
pub use Rattle.resolvo_queue.specs.Parts.{IsQueued, IsWoken, known_at, known_of, LosesOnly, names_at, owed_of, OwesSame}
pub use Rattle.resolvo_queue.specs.Parts.{Queued, Record, record_seen, rows_at, SameFound, set_of, updated_at, walk_of}
pub use Rattle.resolvo_queue.specs.Parts.{walked, AreWokenUnder, HasCondition, KeepsItems, with_clause}
pub use Rattle.resolvo_queue.specs.Parts.ByName.{AreBehind, AreEntered, at_place, further, HaveEntries, IsEntered}
pub use Rattle.resolvo_queue.specs.Parts.ByName.{IsFrom, KeepsNumbers, StandsUnder}
pub use Rattle.resolvo_queue.specs.Parts.UnderConditions.{AreChained, IsNewestBelow, newest_at, Renews}
pub use Rattle.resolvo_queue.specs.Parts.Tracking.{BeginFirst, Gains, GainsClauses, HasNoClause, Heats, IsAsBefore}
pub use Rattle.resolvo_queue.specs.Parts.Tracking.{IsFirstOf, IsInOrder, Registers, Tracking, tracking_of}
pub use Rattle.resolvo_queue.specs.Pick.{beats, best_offer, better, decided, DecidesUnbeaten, eligible, is_of_root}
pub use Rattle.resolvo_queue.specs.Pick.{IsUnbeaten, Offer, offer, pick}
pub use Rattle.resolvo_queue.specs.Pick.Grounds.{CanDecideOn, CanDecide, Grounds, grounds, ImprovedBy, offers_on}
pub use Rattle.resolvo_queue.specs.Pick.Grounds.{OnlyWalks, score_by}
pub use Rattle.resolvo_queue.specs.Pick.Groups.{Group, has_of, is_in, IsNextOf, offers_of, only_in}
pub use Rattle.resolvo_queue.specs.Pick.Inspection.{clause_of, eligible_frontier, Learns, ListsOnly, may_be, offer_of}
pub use Rattle.resolvo_queue.specs.Pick.Inspection.{offer_with}
pub use Rattle.resolvo_queue.specs.Pick.Questions.{CanInspectAll, AreUpTo, clause_literals, CanInspect}
pub use Rattle.resolvo_queue.specs.Pick.Ready.{AreLocated, at_position, behind, ColdHasNoScore, improved, IsDone}
pub use Rattle.resolvo_queue.specs.Pick.Ready.{IsReady, offered, picked_behind, place_of, rest_picked, scanned}
pub use Rattle.resolvo_queue.specs.Queue.{AgreesBelow, AreNamed, IsWellFormed, IsRegistered, IsSynced, OnlyHotScore}
pub use Rattle.resolvo_queue.specs.Queue.{Queue, queue_of, StandsOn, values_of}
pub use Rattle.resolvo_queue.specs.References.{CanWalk, HasParts, IsWalkable, Lists, literals_in, References}
pub use Rattle.resolvo_queue.specs.References.{references, score_in}
pub use Rattle.resolvo_queue.specs.Routing.{AreUnknown, ForgetsAmong, OnlyForgets, Routes, Unrouted, variables_of}
pub use Rattle.resolvo_queue.specs.Routing.{NotesConditions, WakesForgotten, Ways, ways, ways_of}
pub use Rattle.resolvo_queue.specs.Routing.Noted.{AreFlagged, AreNoted, has_noted, is_noted, IsConditionOf}
pub use Rattle.resolvo_queue.specs.Routing.Noted.{KeepsNoted, same_number}
pub use Rattle.resolvo_queue.specs.Routing.Possible.{is_possible, Known, may_have_frontier, SameElsewhere}
pub use Rattle.resolvo_queue.specs.Routing.Synced.{AllWokenFrom, counts, FindsAll, FindsConditions, is_among}
pub use Rattle.resolvo_queue.specs.Routing.Synced.{KeepsQueued, ListsKnown, Settles, SyncsTo, WakesIfMet}
pub use Rattle.resolvo_queue.specs.Rows.{all_false, candidates, frontier, frontier_at, has_true_row, is_undecided_row}
pub use Rattle.resolvo_queue.specs.Rows.{list_rows, lists_loaded, lists_or_none, loaded_rows, Row, rows}
pub use Rattle.resolvo_queue.specs.Rows.ByVariable.{items_in, list_at}
pub use Rattle.resolvo_queue.specs.Rows.Listing.{IsListedWell}
pub use Rattle.resolvo_queue.specs.Rows.States.{counted, state_of, unmet_state, with_row, with_rows}
pub use Rattle.resolvo_queue.specs.Scan.{add_parent, are_literals_false, clauses_of, first_falsified, is_eligible}
pub use Rattle.resolvo_queue.specs.Scan.{is_falsified, is_open, scan}
pub use Rattle.resolvo_queue.specs.Scan.First.{first_from, first_of, numbered, numbered_of, numbered_scan, parents_in}
pub use Rattle.resolvo_queue.specs.Scan.First.{position_at, position_in}
pub use Rattle.resolvo_queue.specs.Scan.Positions.{has, is_after, IsBefore, IsNextBehind, position_cmp, same_position}
pub use Rattle.resolvo_queue.specs.WalkCounts.{changed_from, HasNoneOf, is_known, owed, owed_in, OwesFirst, record_of}
pub use Rattle.resolvo_queue.specs.WalkCounts.{walks, walks_in, walks_of, WalksOnce}
pub use Rattle.resolvo_queue.specs.declared.clauses_by_name.NameEntry.{NameEntry}
pub use Rattle.resolvo_queue.specs.declared.clause_index.ClauseIndex.{ClauseIndex}
pub use Rattle.resolvo_queue.specs.declared.group.Group.TheVariants.{OfAllParents, OfParent}
pub use Rattle.resolvo_queue.specs.declared.offer.Candidate.{Candidate}
pub use Rattle.resolvo_queue.specs.declared.offer.Frontier.{Frontier}
pub use Rattle.resolvo_queue.specs.declared.queue_decision.QueueDecision.{QueueDecision}
pub use Rattle.resolvo_queue.specs.declared.requirements.RequirementRecord.{RequirementRecord}
pub use Rattle.resolvo_queue.specs.declared.requires_clause.RequiresClause.{RequiresClause}
pub use Rattle.resolvo_queue.specs.declared.row_state.RowState.{RowState}
pub use Rattle.resolvo_queue.specs.declared.row_state.RowState.TheVariants.{AllFalse, Satisfied, Undecided}
pub use Rattle.resolvo_queue.specs.declared.tracked_clause.Position.{Position}
pub use Rattle.resolvo_queue.specs.declared.tracked_clause.TrackedClause.{TrackedClause}
pub use Rattle.resolvo_queue.specs.declared.tracked_clauses.TrackedClauses.{TrackedClauses}
pub use Rattle.std.specs.BTreeMap.Range.{range_contains}
pub use Rattle.std.specs.BTreeSet.{BTreeSet}
pub use Rattle.std.specs.Cmp.{IsTotalOrder, nat_cmp_total}
pub use Rattle.std.specs.List.{All, AllByRecursion, best_of, cons_option, list_all, list_any}
pub use Rattle.std.specs.List.Sorted.{IsStrictlySortedBy}
pub use Rattle.std.specs.Map.{keys_of, lookup}
pub use Rattle.std.specs.Option.{option_or}
pub use Rattle.std.specs.Ordering.{is_lt, nat_cmp, ordering_reverse, ordering_then}
pub use Rattle.std.specs.declared.cmp.Ordering.{Ordering}
pub use Rattle.std.specs.declared.cmp.Ordering.TheVariants.{Equal, Greater, Less}
pub use Rattle.std.specs.declared.ops.Bound.TheVariants.{Excluded, Unbounded}
pub use Rattle.std.specs.declared.vec.Vec.{Vec}
pub use Rattle.typed_ids.specs.TotalMaps.{IsUpdate, SameValues}
pub use Rattle.typed_ids.specs.declared.error.StoreError.{StoreError}
pub use Rattle.typed_ids.specs.declared.error.StoreError.TheVariants.{IdSpace}
pub use Rattle.typed_ids.specs.declared.version_set_id.VersionSetId.{VersionSetId}
