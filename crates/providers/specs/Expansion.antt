-- What is left of a conversion: lists of which a part is known, and conditions that come behind it.
use Rattle.std.specs.Prelude.{ℕ, List, [], ◌∷◌, ◌++◌}
use Rattle.typed_ids.specs.declared.version_set_id.VersionSetId.{VersionSetId}
use Rattle.providers.specs.declared.condition.Condition.{Condition}
use Rattle.providers.specs.declared.condition.Condition.TheVariants.{Binary, Requirement}
use Rattle.providers.specs.declared.condition.LogicalOperator.TheVariants.{And, Or}

-- lists that begin with these sets; what follows comes of the conditions, the last of them first
pub record Alternative : Type 0 where
  pub sets : List VersionSetId
  pub pending : List ℕ

-- what an alternative becomes when its last condition, which is taken away, is this one; the last alternative comes
-- first
abbrev pub expanded : Alternative → Condition → List Alternative
expanded a (Requirement set) = record { sets = a.sets ++ set ∷ []; pending = a.pending } ∷ []
expanded a (Binary And left right) = record { sets = a.sets; pending = a.pending ++ right ∷ left ∷ [] } ∷ []
expanded a (Binary Or left right) =
    record { sets = a.sets; pending = a.pending ++ right ∷ [] } ∷
    record { sets = a.sets; pending = a.pending ++ left ∷ [] } ∷ []

-- alternatives, the last of which comes first, and the lists that are done
pub record Expansion : Type 0 where
  pub alternatives : List Alternative
  pub lists : List (List VersionSetId)
