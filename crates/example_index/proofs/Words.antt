-- The words that lemmas and answers are said with: those of this crate, and of crates below.
pub use Rattle.index_text.specs.Entries.{EntryText, Favored, Limits, Locked, NeedText}
pub use Rattle.index_text.specs.Formats.{VersionFormat}
pub use Rattle.index_text.specs.Index.{index_in_format, IndexText, is_same_version, or_fault, with_request}
pub use Rattle.index_text.specs.Index.{with_version}
pub use Rattle.index_text.specs.Indexes.{NumberedWords}
pub use Rattle.index_text.specs.Lines.{Excluded, Offered, Unknown, version_said, VersionIs, VersionText}
pub use Rattle.index_text.specs.Plain.{plain_entry, plain_need, plain_set, plain_sets, plain_version}
pub use Rattle.index_text.specs.PlainFormats.{plain_format}
pub use Rattle.index_text.specs.PlainLines.{plain_line}
pub use Rattle.index_text.specs.Sets.{SetText}
pub use Rattle.index_text.specs.declared.line.Line.{Line}
pub use Rattle.resolvo_ids.specs.Types.StringId.{StringId}
pub use Rattle.resolvo_ids.specs.Types.VersionSetId.{VersionSetId}
pub use Rattle.resolvo_ids.specs.Types.VersionSetUnionId.{VersionSetUnionId}
pub use Rattle.resolvo_pool.specs.Conditions.{Both, crossed, Either, Formula, Leaf, normal_form}
pub use Rattle.resolvo_pool.specs.Dependencies.{Known, needs_of}
pub use Rattle.resolvo_pool.specs.Interned.{has_same, interned, interned_place}
pub use Rattle.resolvo_pool.specs.Pool.{IsExtended, IsLater, Lists, nothing, same_condition, same_operator, same_set}
pub use Rattle.resolvo_pool.specs.Pool.{with_solvable, with_union}
pub use Rattle.resolvo_pool.specs.PoolIds.{solvable_name_in}
pub use Rattle.resolvo_pool.specs.Provider.{filtered}
pub use Rattle.resolvo_pool.specs.Texts.{IsAppended, IsContinued, IsSameText}
pub use Rattle.resolvo_pool.specs.Types.Condition.{Condition}
pub use Rattle.resolvo_pool.specs.Types.Condition.TheVariants.{Binary}
pub use Rattle.resolvo_pool.specs.Types.ConditionalRequirement.{ConditionalRequirement}
pub use Rattle.resolvo_pool.specs.Types.LogicalOperator.{LogicalOperator}
pub use Rattle.resolvo_pool.specs.Types.LogicalOperator.TheVariants.{And, Or}
pub use Rattle.resolvo_pool.specs.Types.Requirement.TheVariants.{Single, Union}
pub use Rattle.resolvo_pool.specs.Types.Solvable.{Solvable}
pub use Rattle.std.specs.List.{AllZip, list_any, position, position_or_len}
pub use Rattle.std.specs.Prelude.{All, Err, IfOk, nat_lt, Ok, OnOk, option_and_then, option_map, Result, slice_get}
pub use Rattle.std.specs.Prelude.{slice_index_or, unwrap_or, ⊤}
pub use Rattle.std.specs.Str.{bytes_eq}
pub use Rattle.std.specs.String.{string_bytes, string_eq}
pub use Rattle.std.specs.declared.string.String.{String}
pub use Rattle.example_index.specs.Index.{excluded_of, favored_of, here, is_within, locked_of, of_name, version_in}
pub use Rattle.example_index.specs.Listed.{AreRead, has_favored, has_locked, is_excluded, is_favored, is_locked}
pub use Rattle.example_index.specs.Listed.{is_of_package, is_state, IsExcluded, IsKept, IsOf, IsRead, IsVersion}
pub use Rattle.example_index.specs.Listed.{last_where, places_where, state_at, with_bytes}
pub use Rattle.example_index.specs.Mark.{marked, with_reason}
pub use Rattle.example_index.specs.Meaning.{AreEntries, AreNeeds, binary, first_place, IsCondition, IsConditionOr}
pub use Rattle.example_index.specs.Meaning.{IsNamed, IsNeed, IsSet, IsUnion, leaf, limits_in, needs_in, Says}
pub use Rattle.example_index.specs.Notes.{has_within, is_empty_at, is_noted, more_text, note_text, notes_from}
pub use Rattle.example_index.specs.Notes.{package_of, versions_from}
pub use Rattle.example_index.specs.Package.{IsReason, IsSame, IsState, IsWith}
pub use Rattle.example_index.specs.Reading.{IsAdded, IsLineAdded, IsRequestAdded, numbered}
pub use Rattle.example_index.specs.declared.fault.IndexFault.{IndexFault}
pub use Rattle.example_index.specs.declared.fault.IndexFault.TheVariants.{Refused, Unreadable}
pub use Rattle.example_index.specs.declared.index.SmallIndex.{SmallIndex}
pub use Rattle.example_index.specs.declared.packages.Entries.{Entries}
pub use Rattle.example_index.specs.declared.packages.Package.{Package}
pub use Rattle.example_index.specs.declared.range.VersionRange.{VersionRange}
