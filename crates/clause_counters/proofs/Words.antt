-- The words that lemmas and answers are said with: those of this crate, and of crates below.
pub use Rattle.decisions.specs.Decisions.{values_in}
pub use Rattle.decisions.specs.LiteralIndex.{literal_at, literal_index, literal_index-injective}
pub use Rattle.decisions.specs.LiteralIndex.{literal_index-literal_at}
pub use Rattle.decisions.specs.Literals.{is_false_literal, Lit, Pos}
pub use Rattle.std.specs.BinaryHeap.{heap_capacity, heap_items, heap_len, IsHeap, PopsGreatest}
pub use Rattle.std.specs.List.{All, AllWithin, count_by, list_all, list_any, sum_by}
pub use Rattle.std.specs.List.Sorted.{IsPermutation}
pub use Rattle.std.specs.Ordering.{is_lt, ordering_then}
pub use Rattle.std.specs.Prelude.{Err, IfSome, IsOk, IsSome, Ok, OnOk, Result, slice_index, vec_capacity, vec_len}
pub use Rattle.std.specs.declared.cmp.Ordering.TheVariants.{Equal, Greater, Less}
pub use Rattle.std.specs.declared.cmp.Reverse.{Reverse}
pub use Rattle.clause_counters.specs.Adding.{AreFlagged, initial_flag, is_newest, IsMember, IsStanding, joined_at}
pub use Rattle.clause_counters.specs.Adding.{open_count, placed_at, placed_once, with_member, with_place}
pub use Rattle.clause_counters.specs.Adding.{with_place_once}
pub use Rattle.clause_counters.specs.Counted.{all_members, all_places, clause_lists, CountsMembers, CountsPlaces}
pub use Rattle.clause_counters.specs.Counted.{group_at, no_group, no_standing, open_members, open_places, standing_at}
pub use Rattle.clause_counters.specs.Counted.{with_left}
pub use Rattle.clause_counters.specs.CounterState.{counters_in, CounterState, fit_three, IsSameButRoom, nowhere, Stood}
pub use Rattle.clause_counters.specs.CounterState.{stood_at, stood_in, with_flag}
pub use Rattle.clause_counters.specs.FalsifiedHeap.{firsts_of, fits_one, heap_clause, heap_cmp, heap_position_cmp}
pub use Rattle.clause_counters.specs.FalsifiedHeap.{IsFalsifiedHeap, IsFirst, IsHeld, IsTop, lefts_of, no_heap_clause}
pub use Rattle.clause_counters.specs.FalsifiedHeap.{tallied, Tallies, with_mark}
pub use Rattle.clause_counters.specs.First.{is_before, IsFirstOf}
pub use Rattle.clause_counters.specs.GroupedClauses.{GroupClause, grouped_clause, GroupedClauses, has_index}
pub use Rattle.clause_counters.specs.GroupedClauses.{is_falsified, IsFirstFalsified, literals_of_group, no_group_clause}
pub use Rattle.clause_counters.specs.GroupedClauses.{once, Represents, row_literals, with_clause, with_false}
pub use Rattle.clause_counters.specs.GroupedClauses.{with_group, with_undecided}
pub use Rattle.clause_counters.specs.Links.{count, IsLinked, link_at, listed_within, no_link, numbers_at}
pub use Rattle.clause_counters.specs.declared.falsified_heap.Clause.{Clause}
pub use Rattle.clause_counters.specs.declared.groups.Group.{Group}
pub use Rattle.clause_counters.specs.declared.groups.Standing.{Standing}
pub use Rattle.clause_counters.specs.declared.links.Link.{Link}
pub use Rattle.clause_counters.specs.declared.position.Position.{Position}
