-- The nearest name: which package may be meant by a name that no package has. N are the names, S the solvables.
use Rattle.std.specs.Prelude.{ℕ, zero, suc, Bool, ◌==◌, ◌&&◌, ◌/◌, not, List, [], ◌∷◌, ◌++◌, codes, length, map, min}
use Rattle.std.specs.Prelude.{if◌then◌else◌, Option, None, Some}
use Rattle.std.specs.Option.{option_or}
use Rattle.std.specs.Str.{chars}
use Rattle.strsim.specs.Edits.{osa_table}
use Rattle.resolvo_ids.specs.Types.VersionSetId.{VersionSetId}
use Rattle.resolvo_pool.specs.Provider.{Answers, Universe, knows_requirement, sets_of}
use Rattle.resolvo_pool.specs.Texts.{Texts}
use Rattle.resolvo_pool.specs.Types.Requirement.{Requirement}
use Rattle.reports.specs.Words.{text_of_name}
use Rattle.reports.specs.declared.nearest_name.MeasuredName.{MeasuredName}
use Rattle.solutions.specs.declared.reason.Reason.{Reason}
use Rattle.solutions.specs.declared.reason.Reason.TheVariants.{Needs, Lacks}

-- how many edits make one text of the other: an edit leaves out, adds or changes a letter, or exchanges two neighbours
abbrev pub distance : List ℕ → List ℕ → ℕ
distance first second = (osa_table (chars first) (chars second)).last_row (length (chars second))

-- how many are made at most: one for three letters, and three
abbrev pub furthest : List ℕ → ℕ
furthest text = min (length (chars text) / 3) 3

module _ {N S : Type 0} (universe : Universe N S) (texts : Texts N S) where
  -- the names, and how many edits make each of the text
  abbrev pub measured : List ℕ → List N → List (MeasuredName N)
  measured text names =
      map (λ name. record { name = name; edits = distance text (text_of_name universe texts name) }) names

  -- the question whether this package is meant
  abbrev pub text_of_question : Option N → List ℕ
  text_of_question None = []
  text_of_question (Some name) = codes "; is " ++ (text_of_name universe texts name ++ codes " meant?")

module _ {N S : Type 0} (answers : Answers N S) where
  abbrev pub has_versions : N → Bool
  has_versions name = not (length (answers.candidates name) == 0)

  -- the first of the names of packages with versions that are made by `count` edits
  abbrev pub first_at : List (MeasuredName N) → ℕ → Option N
  first_at [] count = None
  first_at (name ∷ names) count =
      if (name.edits == count) && has_versions name.name then Some name.name else first_at names count

  -- the first that the fewest edits make: at least one, and at most `count`
  abbrev pub nearest_within : List (MeasuredName N) → ℕ → Option N
  nearest_within names zero = None
  nearest_within names (suc count) = option_or (nearest_within names count) (first_at names (suc count))

module _ {N S : Type 0} (universe : Universe N S) (texts : Texts N S) (answers : Answers N S) (names : List N) where
  -- the name of a package with versions that the fewest edits make of the text: the first one of several such names
  abbrev pub nearest : List ℕ → Option N
  nearest text = nearest_within answers (measured universe texts text names) (furthest text)

  -- of a version set, if its package has no versions
  abbrev pub text_of_meant_set : VersionSetId → List ℕ
  text_of_meant_set set =
      if universe.knows_set set
      then (if has_versions answers (universe.set_name set) then []
      else text_of_question universe texts (nearest (text_of_name universe texts (universe.set_name set))))
      else []

  abbrev pub text_of_meant_sets : List VersionSetId → List ℕ
  text_of_meant_sets [] = []
  text_of_meant_sets (set ∷ sets) = text_of_meant_set set ++ text_of_meant_sets sets

  abbrev pub text_of_meant_by : Requirement → List ℕ
  text_of_meant_by requirement =
      if knows_requirement universe requirement then text_of_meant_sets (sets_of universe requirement) else []

  -- which packages are meant by those that a reason needs and that there aren't
  abbrev pub text_of_meant : Reason N S → List ℕ
  text_of_meant (Needs parent need) = text_of_meant_by need.requirement
  text_of_meant (Lacks parent need) = text_of_meant_by need.requirement
  text_of_meant reason = []
