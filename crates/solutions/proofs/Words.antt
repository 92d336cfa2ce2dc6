-- The words that lemmas and answers are said with: those of this crate, and of crates below.
pub use Rattle.resolvo_ids.specs.TotalMaps.{IsUpdate}
pub use Rattle.resolvo_ids.specs.Types.StringId.{StringId}
pub use Rattle.resolvo_ids.specs.Types.VersionSetId.{VersionSetId}
pub use Rattle.resolvo_pool.specs.Conditions.{form_holds, formula_holds, Leaf, leaf}
pub use Rattle.resolvo_pool.specs.Dependencies.{Known, Needs, needs_of, Unknown}
pub use Rattle.resolvo_pool.specs.Functions.{gathered, Provider}
pub use Rattle.resolvo_pool.specs.Provider.{candidates_of, excluded_of, favored_first, favored_of, filtered}
pub use Rattle.resolvo_pool.specs.Provider.{knows_requirement, locked_of, matching, non_matching, sets_of, sorted}
pub use Rattle.resolvo_pool.specs.Types.Candidates.{Candidates}
pub use Rattle.resolvo_pool.specs.Types.ConditionalRequirement.{ConditionalRequirement}
pub use Rattle.resolvo_pool.specs.Types.Requirement.{Requirement}
pub use Rattle.resolvo_pool.specs.Types.Requirement.TheVariants.{Single, Union}
pub use Rattle.std.specs.Bool.{Decides}
pub use Rattle.std.specs.Cmp.Lexicographic.{pointwise}
pub use Rattle.std.specs.List.{All, AllByRecursion, Any, Contains, flat_map, list_all, list_any}
unfoldable pub use Rattle.std.specs.List.{IsDistinct}
pub use Rattle.std.specs.List.Sorted.{IsPermutation}
pub use Rattle.std.specs.Prelude.{Err, filter, Ok, OnOk, option_map, Result, unwrap_or, ⊤}
pub use Rattle.std.specs.declared.vec.Vec.{Vec}
pub use Rattle.solutions.specs.Clauses.{AreSatisfied, AreTrue, Follows, has_true, is_true, IsClauseAdded, IsStateOf}
pub use Rattle.solutions.specs.Clauses.{Replayed}
pub use Rattle.solutions.specs.Needed.{AreCaused, HoldsIfAny, is_candidate, IsCausedBy, IsNeeded, IsOfferedBy}
pub use Rattle.solutions.specs.Needed.{IsOfferedByNeeds, IsWishedAt, Offers, requested, required, wished}
pub use Rattle.solutions.specs.Newest.{alternatives_for, is_of_one, newest, package_of, packages_of, wish_for}
pub use Rattle.solutions.specs.Reasons.{AreEnough, AreSo, constraints_in, IfPicked, IsMet, IsOneVersion, IsOnlyOne}
pub use Rattle.solutions.specs.Reasons.{IsSo, NoReasonSpare, others, required_by, requirements_in}
pub use Rattle.solutions.specs.Selections.{is_kept, is_so_by, IsNoSolution, rank_by}
pub use Rattle.solutions.specs.Settled.{AreSameUpTo, first_true, first_trues, IsAtLeast, IsUnbeaten, Settled, StaysTrue}
pub use Rattle.solutions.specs.Solutions.{AreNeedsSatisfied, is_allowed, is_among, is_excluded_by, is_locked_out_by}
pub use Rattle.solutions.specs.Solutions.{is_respected, is_satisfied, IsSatisfied, IsSatisfiedUnder, IsSolution}
pub use Rattle.solutions.specs.Solutions.{IsUnsolvable}
pub use Rattle.solutions.specs.Truth.{AreAllFit, AreSatisfiedUnless, AreStillSatisfied, HasTrueOr, IsFit}
pub use Rattle.solutions.specs.Truth.{IsSatisfiedUnless, NonePickedUnless, truth}
pub use Rattle.solutions.specs.Wishes.{alternatives_of, AreGranted, AreRanksSame, before_true, is_so, IsBest, IsSpare}
pub use Rattle.solutions.specs.Wishes.{NoneSpare, rank, without}
pub use Rattle.solutions.specs.declared.clause_state.ClauseState.{ClauseState}
pub use Rattle.solutions.specs.declared.clause_state.ClauseState.TheVariants.{Falsified, Open, Unit}
pub use Rattle.solutions.specs.declared.literal.Fact.{Fact}
pub use Rattle.solutions.specs.declared.literal.Fact.TheVariants.{First, Held, Picked}
pub use Rattle.solutions.specs.declared.literal.Literal.{Literal}
pub use Rattle.solutions.specs.declared.needed.Cause.{Cause}
pub use Rattle.solutions.specs.declared.needed.Cause.TheVariants.{Requested, Required, Wished}
pub use Rattle.solutions.specs.declared.reason.Reason.{Reason}
pub use Rattle.solutions.specs.declared.wish.Alternative.{Alternative}
pub use Rattle.solutions.specs.declared.wish.Wish.{Wish}
