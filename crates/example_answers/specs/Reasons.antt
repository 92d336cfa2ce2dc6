-- Why there is no solution, in an index's words. N are the names, S the solvables. What isn't known has no text.
use Rattle.std.specs.Prelude.{ℕ, List, [], ◌++◌, codes, if◌then◌else◌, Option, None, Some}
use Rattle.resolvo_ids.specs.Types.VersionSetId.{VersionSetId}
use Rattle.resolvo_pool.specs.Provider.{Universe, knows_requirement}
use Rattle.resolvo_pool.specs.Texts.{Texts, requirement_text}
use Rattle.resolvo_pool.specs.Types.Condition.{Condition}
use Rattle.resolvo_pool.specs.Types.Condition.TheVariants as Cond
use Rattle.resolvo_pool.specs.Types.ConditionalRequirement.{ConditionalRequirement}
use Rattle.resolvo_pool.specs.Types.Requirement.{Requirement}
use Rattle.resolvo_pool.specs.Types.Requirement.TheVariants.{Single}
use Rattle.solutions.specs.declared.reason.Reason.{Reason}
use Rattle.solutions.specs.declared.reason.Reason.TheVariants.{Needs, Lacks, Limits, Unknown, Excluded}
use Rattle.solutions.specs.declared.reason.Reason.TheVariants.{Locked, OneVersion}

module _ {N S : Type 0} (universe : Universe N S) (texts : Texts N S) where
  abbrev pub text_of_name : N → List ℕ
  text_of_name name = if universe.knows_name name then texts.name name else []

  abbrev pub text_of_solvable : S → List ℕ
  text_of_solvable solvable = if universe.knows_solvable solvable then texts.solvable solvable else []

  abbrev pub text_of_requirement : Requirement → List ℕ
  text_of_requirement requirement =
      if knows_requirement universe requirement then requirement_text universe texts requirement else []

  -- behind the name of its package
  abbrev pub text_of_set : VersionSetId → List ℕ
  text_of_set set = text_of_requirement (Single set)

  -- a condition that joins others isn't spelled out
  abbrev pub text_of_parts : Condition → List ℕ
  text_of_parts (Cond.Requirement set) = codes " if " ++ text_of_set set
  text_of_parts (Cond.Binary operator left right) = codes " under a condition"

  abbrev pub text_of_condition : Option ℕ → List ℕ
  text_of_condition None = []
  text_of_condition (Some condition) =
      if universe.knows_condition condition then text_of_parts (universe.condition condition) else []

  -- if no solvable needs it, the request does
  abbrev pub text_of_parent : Option S → List ℕ
  text_of_parent None = codes "request"
  text_of_parent (Some solvable) = text_of_solvable solvable

  abbrev pub text_of_need : Option S → ConditionalRequirement → List ℕ
  text_of_need parent conditional =
      text_of_parent parent
      ++ (codes " needs " ++ (text_of_requirement conditional.requirement ++ text_of_condition conditional.condition))

  abbrev pub text_of_unknown : S → List ℕ
  text_of_unknown solvable = codes "what " ++ (text_of_solvable solvable ++ codes " needs is unknown")

  abbrev pub text_of_reason : Reason N S → List ℕ
  text_of_reason (Needs parent conditional) = text_of_need parent conditional
  text_of_reason (Lacks parent conditional) =
      text_of_need parent conditional ++ codes ", and there is none"
  text_of_reason (Limits solvable set) = text_of_solvable solvable ++ (codes " limits " ++ text_of_set set)
  text_of_reason (Unknown solvable string) = text_of_unknown solvable
  text_of_reason (Excluded solvable string) = text_of_solvable solvable ++ codes " is excluded"
  text_of_reason (Locked solvable) = text_of_solvable solvable ++ codes " is locked"
  text_of_reason (OneVersion name) = codes "one version of " ++ text_of_name name
