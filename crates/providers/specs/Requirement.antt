-- Requirements: when two are the same, and their indexes.
use Rattle.std.specs.Prelude.{ℕ, Bool, false, ◌==◌}
use Rattle.providers.specs.declared.requirement.Requirement.{Requirement}
use Rattle.providers.specs.declared.requirement.Requirement.TheVariants.{Single, Union}

abbrev pub same_requirement : Requirement → Requirement → Bool
same_requirement (Single v) (Single w) = v.0 == w.0
same_requirement (Union u) (Union w) = u.0 == w.0
same_requirement (Single v) (Union w) = false
same_requirement (Union u) (Single w) = false

-- the index of the version set or of the union
abbrev pub requirement_index : Requirement → ℕ
requirement_index (Single v) = v.0
requirement_index (Union u) = u.0
