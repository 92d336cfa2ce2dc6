use Rattle.std.proofs.Common.{◌≡◌, rules, sym, subst}
use Rattle.std.specs.List.Sorted.{IsStrictlySortedBy}
use Rattle.std.specs.Ordering.{on}
use Rattle.index_text.specs.Formats.{version_cmp}
use Rattle.semver.specs.Identifiers.{parts_of}
use Rattle.index_text.proofs.format.VersionFormat.of.Goals as goal

pub new-requires : goal.new-requires
unfolding version_cmp
new-requires c =
    let items : c.in_ok-collect.field-0.items ≡ c.loop-line.known.keys = search rules in
    subst (IsStrictlySortedBy (on parts_of version_cmp)) (sym items) c.into_iter.ensures.into_iter_gives.4
