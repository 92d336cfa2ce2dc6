-- The words that lemmas and answers are said with: those of this crate, and of crates below.
pub use Rattle.debian_directory.specs.Answers.{has_asked, is_lost, is_of_name, is_to_be_kept, may_all_be_picked}
pub use Rattle.debian_directory.specs.Answers.{may_be_picked, must_stay, name_of, names_of, NameText, stay, stays}
pub use Rattle.debian_directory.specs.Directory.{places_of}
pub use Rattle.debian_directory.specs.Plain.{plain_name}
pub use Rattle.debian_directory.specs.declared.name.Name.{Name}
pub use Rattle.debian_directory.specs.declared.rules.Rules.{Rules}
pub use Rattle.debian_installable.specs.Fields.{alternatives, groups, is_blank}
pub use Rattle.debian_installable.specs.Installable.{architecture_of, are_free, are_met, have_one_name, is_concerned}
pub use Rattle.debian_installable.specs.Installable.{is_free, is_free_of, is_group_met, is_installable, is_met}
pub use Rattle.debian_installable.specs.Installable.{is_met_by, is_same, is_served, may_stand_beside, means, serves}
pub use Rattle.debian_installable.specs.Installable.{stand_together}
pub use Rattle.debian_scenario.specs.Packages.{PackageText}
pub use Rattle.debian_scenario.specs.Plain.{plain_package}
pub use Rattle.debian_scenario.specs.declared.package.Package.{Package}
pub use Rattle.debian_text.specs.Plain.{plain_bound, plain_relation}
pub use Rattle.debian_text.specs.Relations.{BoundText, relation_of, RelationText}
pub use Rattle.debian_text.specs.declared.relation.Bound.{Bound}
pub use Rattle.debian_text.specs.declared.relation.Operator.{Operator}
pub use Rattle.debian_text.specs.declared.relation.Operator.TheVariants.{Earlier, EarlierOrEqual, Equal, Later}
pub use Rattle.debian_text.specs.declared.relation.Operator.TheVariants.{LaterOrEqual}
pub use Rattle.debian_text.specs.declared.relation.Relation.{Relation}
pub use Rattle.resolvo_ids.specs.Types.VersionSetId.{VersionSetId}
pub use Rattle.resolvo_ids.specs.Types.VersionSetUnionId.{VersionSetUnionId}
pub use Rattle.resolvo_pool.specs.Dependencies.{Known, Needs, needs_of, Unknown}
pub use Rattle.resolvo_pool.specs.Interned.{has_same, interned, interned_place}
pub use Rattle.resolvo_pool.specs.Pool.{AreSetsHere, IsExtended, IsLater, Lists, nothing, same_set, with_name}
pub use Rattle.resolvo_pool.specs.Pool.{with_solvable, with_string, with_union, with_version_set}
pub use Rattle.resolvo_pool.specs.PoolIds.{solvable_name_in, universe_in}
pub use Rattle.resolvo_pool.specs.Provider.{filtered, sets_of}
pub use Rattle.resolvo_pool.specs.Types.ConditionalRequirement.{ConditionalRequirement}
pub use Rattle.resolvo_pool.specs.Types.Dependencies.{Dependencies}
pub use Rattle.resolvo_pool.specs.Types.Requirement.{Requirement}
pub use Rattle.resolvo_pool.specs.Types.Requirement.TheVariants.{Single, Union}
pub use Rattle.resolvo_pool.specs.Types.Solvable.{Solvable}
pub use Rattle.std.specs.List.{AllZip, list_all, list_any, slice_split}
pub use Rattle.std.specs.Option.{option_eq}
pub use Rattle.std.specs.Prelude.{Any, Contains, Err, IfOk, is_ok, MatchBool, nat_lt, Ok, OnOk, option_and_then}
pub use Rattle.std.specs.Prelude.{option_map, Result, slice_get, string_bytes, unwrap_or}
pub use Rattle.std.specs.Slice.{IsItemAt}
pub use Rattle.std.specs.declared.alloc.Global.{Global}
pub use Rattle.std.specs.declared.vec.Vec.{Vec}
pub use Rattle.debian_provider.specs.Answers.{AreHere, AreKnown, Ids, package_in, place_in, set_has, versions_at}
pub use Rattle.debian_provider.specs.Growing.{AreNamed, HasMoreSets, HasVersions, IsAdded, IsAt, IsGrown, IsNameAdded}
pub use Rattle.debian_provider.specs.Growing.{IsPlaceOf, IsVersion, native_in, packages_in, request_in}
pub use Rattle.debian_provider.specs.Meaning.{HasSet, IsEntry, IsNamed, IsSet, plain_entry}
pub use Rattle.debian_provider.specs.Needs.{AreDemanded, AreFreeFor, AreLimited, AreMetFor, AreNeeds, IfReadable}
pub use Rattle.debian_provider.specs.Needs.{AreOfLost}
pub use Rattle.debian_provider.specs.Needs.{IsAnswer, IsDemand, IsFreeFor, IsGroupMetFor, IsGroupOffered, IsKeepingMore}
pub use Rattle.debian_provider.specs.Needs.{IsLimit, IsMeant, IsNowhere, IsOffered, IsOfferedAt, IsOneOf, IsPartFreeFor}
pub use Rattle.debian_provider.specs.Needs.{IsThere, IsWanted, IsWantedBy, sets_in, Spares, SparesOther}
pub use Rattle.debian_provider.specs.Reading.{AreKept, AreRead, AreRequired, IsRead, IsWhole, IsWider}
pub use Rattle.debian_provider.specs.Sets.{beside, plain_set, SetText}
pub use Rattle.debian_provider.specs.declared.archive.Archive.{Archive}
pub use Rattle.debian_provider.specs.declared.reached.Reached.{Reached}
pub use Rattle.debian_provider.specs.declared.set.Set.{Set}
