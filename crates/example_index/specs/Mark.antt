-- What a version changes in its package.
use Rattle.std.specs.Prelude.{ℕ, Bool, if◌then◌else◌, List, [], ◌∷◌, ◌++◌, Option, None, Some}
use Rattle.resolvo_ids.specs.Types.StringId.{StringId}

-- the marked version, once this one has the mark or not: the later one counts
abbrev pub marked : Bool → ℕ → Option ℕ → Option ℕ
marked has_mark version earlier = if has_mark then Some version else earlier

-- the excluded versions, with this one at the end if there is a reason
abbrev pub with_reason : List (ℕ × StringId) → ℕ → Option StringId → List (ℕ × StringId)
with_reason excluded version None = excluded
with_reason excluded version (Some reason) = excluded ++ (version, reason) ∷ []
