-- The text of a line. N are the names, S the solvables.
use Rattle.std.specs.Prelude.{ℕ, ◌==◌, Bool, length, List, [], ◌∷◌, ◌++◌, codes, if◌then◌else◌, Option, None, Some}
use Rattle.resolvo_ids.specs.Types.StringId.{StringId}
use Rattle.resolvo_ids.specs.Types.VersionSetId.{VersionSetId}
use Rattle.resolvo_pool.specs.Provider.{Answers, Universe, knows_requirement, matching, sets_of}
use Rattle.resolvo_pool.specs.Texts.{Texts}
use Rattle.resolvo_pool.specs.Types.ConditionalRequirement.{ConditionalRequirement}
use Rattle.resolvo_pool.specs.Types.Requirement.{Requirement}
use Rattle.resolvo_pool.specs.Types.Requirement.TheVariants.{Single, Union}
use Rattle.reports.specs.ConditionTexts.{text_of_if}
use Rattle.reports.specs.Versions.{text_of_versions}
use Rattle.reports.specs.Words.{text_of_all, text_of_name, text_of_requirement, text_of_set, text_of_string}
use Rattle.reports.specs.declared.line.Line.{Line}
use Rattle.solutions.specs.declared.reason.Reason.{Reason}
use Rattle.solutions.specs.declared.reason.Reason.TheVariants.{Needs, Lacks, Limits, Unknown, Excluded}
use Rattle.solutions.specs.declared.reason.Reason.TheVariants.{Locked, OneVersion}

-- who needs something, if no version does
abbrev pub text_of_request : {S : Type 0} → Option S → List ℕ
text_of_request None = codes "request"
text_of_request (Some solvable) = []

abbrev pub has_no_candidate : {N S : Type 0} → Universe N S → Answers N S → VersionSetId → Bool
has_no_candidate universe answers set = length (matching universe answers set) == 0

module _ {N S : Type 0} (universe : Universe N S) (texts : Texts N S) where
  abbrev pub text_of_need : ConditionalRequirement → List ℕ
  text_of_need need =
      codes " needs "
      ++ (text_of_requirement universe texts need.requirement ++ text_of_if universe texts need.condition)

  abbrev pub text_of_why : List ℕ → StringId → List ℕ
  text_of_why said string = said ++ text_of_string universe texts string

  abbrev pub text_of_no_package : VersionSetId → List ℕ
  text_of_no_package set = codes "there is no package " ++ text_of_name universe texts (universe.set_name set)

  -- none of these versions is in the set
  abbrev pub text_of_outside : VersionSetId → List S → List ℕ
  text_of_outside set candidates =
      text_of_name universe texts (universe.set_name set)
      ++ (codes " has only " ++ (text_of_all universe texts candidates
      ++ (codes ": none is in " ++ texts.version_set set)))

  abbrev pub text_of_absence : VersionSetId → List S → List ℕ
  text_of_absence set candidates =
      if length candidates == 0 then text_of_no_package set else text_of_outside set candidates

  module _ (answers : Answers N S) where
    abbrev pub text_of_missing_set : VersionSetId → List ℕ
    text_of_missing_set set =
        if universe.knows_set set then text_of_absence set (answers.candidates (universe.set_name set)) else []

    -- why each of these sets has no candidate
    abbrev pub text_of_further : List VersionSetId → List ℕ
    text_of_further [] = []
    text_of_further (set ∷ sets) = codes " and " ++ (text_of_missing_set set ++ text_of_further sets)

    abbrev pub text_of_missing_sets : List VersionSetId → List ℕ
    text_of_missing_sets [] = []
    text_of_missing_sets (first ∷ others) =
        codes ", but " ++ (text_of_missing_set first ++ text_of_further others)

    abbrev pub text_of_missing : Requirement → List ℕ
    text_of_missing requirement =
        if knows_requirement universe requirement
        then text_of_missing_sets (sets_of universe requirement)
        else []

    abbrev pub text_of_if_empty : VersionSetId → List ℕ
    text_of_if_empty set =
        if universe.knows_set set
        then (if has_no_candidate universe answers set then codes ", and " ++ text_of_missing_set set else [])
        else []

    abbrev pub text_of_empty_sets : List VersionSetId → List ℕ
    text_of_empty_sets [] = []
    text_of_empty_sets (set ∷ sets) = text_of_if_empty set ++ text_of_empty_sets sets

    -- why the version sets of a union have no candidate that have none
    abbrev pub text_of_empty : Requirement → List ℕ
    text_of_empty (Single set) = []
    text_of_empty (Union union) =
        if universe.knows_union union then text_of_empty_sets (universe.union_sets union) else []

    abbrev pub text_of_said : Reason N S → List ℕ
    text_of_said (Needs parent need) =
        text_of_request parent ++ (text_of_need need ++ text_of_empty need.requirement)
    text_of_said (Lacks parent need) =
        text_of_request parent ++ (text_of_need need ++ text_of_missing need.requirement)
    text_of_said (Limits solvable set) = codes " allows only " ++ text_of_set universe texts set
    text_of_said (Unknown solvable string) = text_of_why (codes " has unknown dependencies: ") string
    text_of_said (Excluded solvable string) = text_of_why (codes " is excluded: ") string
    text_of_said (Locked solvable) = codes " is locked: no other version may be picked"
    text_of_said (OneVersion name) = codes "at most one version of " ++ text_of_name universe texts name

  -- of whom, and what
  abbrev pub text_of_line : {A : Type 0} → (S → S → Bool) → Answers N S → Line N S A → List ℕ
  text_of_line same answers line =
      text_of_versions universe texts same answers line.versions.items ++ text_of_said answers line.reason
