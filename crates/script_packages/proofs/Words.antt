-- The words that lemmas and answers are said with: those of this crate, and of crates below.
pub use Rattle.indexmap.specs.IndexMap.{insert_entry}
pub use Rattle.package_pool.specs.Interned.{has_same, interned}
pub use Rattle.package_pool.specs.Pool.{Lists}
pub use Rattle.package_pool.specs.declared.solvable.Solvable.{Solvable}
pub use Rattle.providers.specs.Provider.{filtered}
pub use Rattle.script_text.specs.Numbers.{below, is_digit, number_of, value_from, with_digit}
pub use Rattle.script_text.specs.Words.{begun_word, words, words_from}
pub use Rattle.std.specs.Cmp.{IsStrictWeakOrder, IsTotalOrder, nat_cmp_is}
pub use Rattle.std.specs.List.{AllByRecursion, list_any, position, position_from, position_or_len, swap}
pub use Rattle.std.specs.List.Sorted.{apply_swaps, SwapsInRange}
pub use Rattle.std.specs.Map.{lookup, set_value}
pub use Rattle.std.specs.Ordering.{ordering_reverse, ordering_then}
pub use Rattle.std.specs.Prelude.{All, codes, IfOk, is_some, nat_eq, OnOk, option_and_then, option_map, reverse}
pub use Rattle.std.specs.Prelude.{slice_get, ⊤}
pub use Rattle.std.specs.Str.{bytes_eq}
pub use Rattle.std.specs.String.{string_bytes, string_eq}
pub use Rattle.typed_ids.specs.declared.version_set_id.VersionSetId.{VersionSetId}
pub use Rattle.script_packages.specs.CatalogueEnds.{CommandsBegin, FaultyAt, NeedMemory, NeverBegins}
pub use Rattle.script_packages.specs.Ids.{number_32}
pub use Rattle.script_packages.specs.Listing.{are_sets, has_span, is_listed, listed_sets, listed_versions, Listing}
pub use Rattle.script_packages.specs.Listing.{listing_of, name_number, named, nothing_listed, with_pool}
pub use Rattle.script_packages.specs.Listing.{with_some_union, with_span_from, with_versions}
pub use Rattle.script_packages.specs.Order.{best_first, insert_sorted, preference, rises, rises_from, sort_by}
pub use Rattle.script_packages.specs.Order.{version_at, Versioned, versioned_preference}
pub use Rattle.script_packages.specs.OrderLaws.{sort_by_permutes}
pub use Rattle.script_packages.specs.Packages.{is_within, numbers, same_id}
pub use Rattle.script_packages.specs.Versions.{are_versions, each_is_version, favored_place, is_starred, version_of}
pub use Rattle.script_packages.specs.declared.packages.Packages.{Packages}
pub use Rattle.script_packages.specs.declared.packages.Span.{Span}
pub use Rattle.script_packages.specs.declared.packages.VersionRange.{VersionRange}
