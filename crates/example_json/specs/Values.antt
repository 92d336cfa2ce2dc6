-- Versions, version sets and conditions as values. N are the names, S the solvables. What isn't known has no text.
use Rattle.std.specs.Prelude.{ℕ, zero, suc, Bool, ◌==◌, List, [], ◌∷◌, Option, None, Some, codes, if◌then◌else◌, map}
use Rattle.std.specs.List.{after_first, before_first}
use Rattle.resolvo_ids.specs.Types.StringId.{StringId}
use Rattle.resolvo_ids.specs.Types.VersionSetId.{VersionSetId}
use Rattle.resolvo_pool.specs.Provider.{Universe, knows_requirement, sets_of}
use Rattle.resolvo_pool.specs.Texts.{Texts}
use Rattle.resolvo_pool.specs.Types.Condition.{Condition}
use Rattle.resolvo_pool.specs.Types.Condition.TheVariants as Cond
use Rattle.resolvo_pool.specs.Types.LogicalOperator.{LogicalOperator}
use Rattle.resolvo_pool.specs.Types.LogicalOperator.TheVariants.{And, Or}
use Rattle.resolvo_pool.specs.Types.Requirement.{Requirement}
use Rattle.serde_json.specs.Data.{Data, Members, array, member, no_members, null, number, object, put, string}
use Rattle.serde_json.specs.Data.{unsigned}
use Rattle.serde_json.specs.View.{items_of}
use Rattle.example_answers.specs.Reasons.{text_of_set, text_of_solvable}

-- an object with these members, in the order of their keys
abbrev pub members_of : List (List ℕ × Data) → Members
members_of [] = no_members
members_of (m ∷ rest) = member m.0 m.1 (members_of rest)

abbrev pub object_of : List (List ℕ × Data) → Data
object_of members = object (members_of members)

-- an array with a value for each of these
abbrev pub array_of : {X : Type 0} → (X → Data) → List X → Data
array_of value xs = array (items_of (map value xs))

-- a number that isn't negative
abbrev pub count_data : ℕ → Data
count_data n = number (unsigned n)

abbrev pub is_blank : ℕ → Bool
is_blank byte = byte == 32

-- a text in two parts: the name before its first blank, and what is behind that, which has this key
abbrev pub parted : List ℕ → List ℕ → Data
parted key text =
    object (put key (string (after_first is_blank text))
    (put (codes "name") (string (before_first is_blank text)) no_members))

-- two conditions that are joined
abbrev pub joined : LogicalOperator → Data → Data → Data
joined And left right = object_of ((codes "and", array (items_of (left ∷ right ∷ []))) ∷ [])
joined Or left right = object_of ((codes "or", array (items_of (left ∷ right ∷ []))) ∷ [])

module _ {N S : Type 0} (universe : Universe N S) (texts : Texts N S) where
  abbrev pub version_data : S → Data
  version_data solvable = parted (codes "version") (text_of_solvable universe texts solvable)

  abbrev pub versions_data : List S → Data
  versions_data = array_of version_data

  -- if no solvable needs something, the request does
  abbrev pub parent_data : Option S → Data
  parent_data None = null
  parent_data (Some solvable) = version_data solvable

  abbrev pub set_data : VersionSetId → Data
  set_data set = parted (codes "versions") (text_of_set universe texts set)

  abbrev pub sets_data : List VersionSetId → Data
  sets_data = array_of set_data

  abbrev pub sets_of_data : Requirement → Data
  sets_of_data requirement =
      if knows_requirement universe requirement then sets_data (sets_of universe requirement) else sets_data []

  -- a condition, if this is the value of what it joins
  abbrev pub parts_data : (ℕ → Data) → Condition → Data
  parts_data value (Cond.Requirement set) = set_data set
  parts_data value (Cond.Binary operator left right) = joined operator (value left) (value right)

  -- a condition, spelled out to this depth: what is deeper is two dots
  unfoldable pub condition_data : ℕ → ℕ → Data
  condition_data zero condition = string (codes "..")
  condition_data (suc depth) condition =
      if universe.knows_condition condition then parts_data (condition_data depth) (universe.condition condition)
      else null

  -- the condition of a need
  abbrev pub if_data : Option ℕ → Data
  if_data None = null
  if_data (Some condition) = condition_data 40 condition

  abbrev pub string_data : StringId → Data
  string_data text = string (if universe.knows_string text then texts.string text else [])
