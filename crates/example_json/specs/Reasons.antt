-- Reasons as values. N are the names, S the solvables.
use Rattle.std.specs.Prelude.{ℕ, List, [], ◌∷◌, Option, codes}
use Rattle.resolvo_ids.specs.Types.StringId.{StringId}
use Rattle.resolvo_ids.specs.Types.VersionSetId.{VersionSetId}
use Rattle.resolvo_pool.specs.Provider.{Universe}
use Rattle.resolvo_pool.specs.Texts.{Texts}
use Rattle.resolvo_pool.specs.Types.ConditionalRequirement.{ConditionalRequirement}
use Rattle.serde_json.specs.Data.{Data, Members, string}
use Rattle.solutions.specs.declared.reason.Reason.{Reason}
use Rattle.solutions.specs.declared.reason.Reason.TheVariants.{Needs, Lacks, Limits, Unknown, Excluded}
use Rattle.solutions.specs.declared.reason.Reason.TheVariants.{Locked, OneVersion}
use Rattle.example_answers.specs.Reasons.{text_of_name}
use Rattle.example_json.specs.Values.{array_of, if_data, members_of, object_of, parent_data, set_data, sets_of_data}
use Rattle.example_json.specs.Values.{string_data, version_data}

-- the members that most reasons have: their kind, and whose they are
abbrev pub of_kind : List ℕ → Data → Members
of_kind kind whose = members_of ((codes "kind", string kind) ∷ (codes "package", whose) ∷ [])

module _ {N S : Type 0} (universe : Universe N S) (texts : Texts N S) where
  abbrev pub need_data : List ℕ → Option S → ConditionalRequirement → Data
  need_data kind parent need =
      object_of ((codes "if", if_data universe texts need.condition)
      ∷ (codes "kind", string kind)
      ∷ (codes "needs", sets_of_data universe texts need.requirement)
      ∷ (codes "package", parent_data universe texts parent) ∷ [])

  abbrev pub limits_data : S → VersionSetId → Data
  limits_data solvable set =
      object_of ((codes "kind", string (codes "limits"))
      ∷ (codes "limits", set_data universe texts set)
      ∷ (codes "package", version_data universe texts solvable) ∷ [])

  abbrev pub marked_data : List ℕ → S → StringId → Data
  marked_data kind solvable why =
      object_of ((codes "kind", string kind)
      ∷ (codes "package", version_data universe texts solvable)
      ∷ (codes "why", string_data universe texts why) ∷ [])

  abbrev pub locked_data : S → Data
  locked_data solvable =
      object_of ((codes "kind", string (codes "locked"))
      ∷ (codes "package", version_data universe texts solvable) ∷ [])

  abbrev pub one_version_data : N → Data
  one_version_data name =
      object_of ((codes "kind", string (codes "one version"))
      ∷ (codes "name", string (text_of_name universe texts name)) ∷ [])

  abbrev pub reason_data : Reason N S → Data
  reason_data (Needs parent need) = need_data (codes "needs") parent need
  reason_data (Lacks parent need) = need_data (codes "lacks") parent need
  reason_data (Limits solvable set) = limits_data solvable set
  reason_data (Unknown solvable why) = marked_data (codes "unknown") solvable why
  reason_data (Excluded solvable why) = marked_data (codes "excluded") solvable why
  reason_data (Locked solvable) = locked_data solvable
  reason_data (OneVersion name) = one_version_data name

  abbrev pub reasons_data : List (Reason N S) → Data
  reasons_data = array_of reason_data
