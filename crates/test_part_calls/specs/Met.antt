-- Version sets that hold, as a list says it.
use Rattle.std.specs.Prelude.{Bool, false, List, slice_index_or}
use Rattle.typed_ids.specs.declared.version_set_id.VersionSetId.{VersionSetId}

-- whether the version set holds; one past the end doesn't
abbrev pub holds_in : List Bool → VersionSetId → Bool
holds_in sets v = slice_index_or sets v.0 false
