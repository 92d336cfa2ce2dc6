-- A format that was read, as lists and numbers.
use Rattle.std.specs.Prelude.{ℕ, List, map}
use Rattle.std.specs.Borrow.{Bor}
use Rattle.std.specs.BTreeSet.{BTreeSet}
use Rattle.index_text.specs.Formats.{VersionFormat, Numbers, Semver}
use Rattle.index_text.specs.declared.format.VersionFormat.{VersionFormat as Read}
use Rattle.index_text.specs.declared.format.VersionFormat.TheVariants as Is
use Rattle.semver.specs.Identifiers.{parts_of}
use Rattle.semver.specs.Parse.{Parts}
use Rattle.semver.specs.declared.Version.{Version}

abbrev pub plain_format : Read → VersionFormat
plain_format Is.Numbers = Numbers
plain_format (Is.Semver known) = Semver (map parts_of known.versions.items)

-- the versions of a set, in ascending order
abbrev pub plain_keys : BTreeSet Version → List Parts
plain_keys known = map parts_of known.keys

abbrev pub plain_ends : Bor (List ℕ) × Bor (List ℕ) → List ℕ × List ℕ
plain_ends ends = (ends.0.now, ends.1.now)
