-- What solvables need, with lists where the program has vectors.
use Rattle.std.specs.Prelude.{List}
use Rattle.typed_ids.specs.declared.string_id.StringId.{StringId}
use Rattle.typed_ids.specs.declared.version_set_id.VersionSetId.{VersionSetId}
use Rattle.providers.specs.declared.conditional_requirement.ConditionalRequirement.{ConditionalRequirement}
use Rattle.providers.specs.declared.dependencies.Dependencies.{Dependencies}
use Rattle.providers.specs.declared.dependencies.Dependencies.TheVariants as Answer

pub data Needs : Type 0 where
  Known : (requirements : List ConditionalRequirement) (constrains : List VersionSetId) → Needs
  -- for this reason it can't be told
  Unknown : (reason : StringId) → Needs

-- what an answer says
abbrev pub needs_of : {A : Type 0} → Dependencies A → Needs
needs_of (Answer.Known known) = Known known.requirements.items known.constrains.items
needs_of (Answer.Unknown reason) = Unknown reason
