-- What a map from solvables to variables loses when the last variable is forgotten.
use Rattle.std.specs.Prelude.{ℕ, Bool, true, false, ◌==◌, if◌then◌else◌, Option, None, Some}

-- a solvable's variable once `last` is forgotten, where `is_this` says that it is this solvable that is forgotten
abbrev pub forgotten : Bool → ℕ → Option ℕ → Option ℕ
forgotten false last known = known
forgotten true last None = None
forgotten true last (Some variable) = if variable == last then None else Some variable
