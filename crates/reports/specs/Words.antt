-- How reports name packages, versions and version sets. N are the names, S the solvables. What isn't known has no
-- text.
use Rattle.std.specs.Prelude.{ℕ, Bool, true, false, ◌&&◌, ◌==◌, ◌-◌, List, [], ◌∷◌, ◌++◌, codes, decimal, drop}
use Rattle.std.specs.Prelude.{if◌then◌else◌, length, nat_lt, option_map, slice_get, unwrap_or}
use Rattle.resolvo_ids.specs.Types.StringId.{StringId}
use Rattle.resolvo_ids.specs.Types.VersionSetId.{VersionSetId}
use Rattle.resolvo_pool.specs.Provider.{Universe, knows_requirement}
use Rattle.resolvo_pool.specs.Texts.{Texts, requirement_text}
use Rattle.resolvo_pool.specs.Types.Requirement.{Requirement}
use Rattle.resolvo_pool.specs.Types.Requirement.TheVariants.{Single}

-- whether a text has this beginning
abbrev pub begins : List ℕ → List ℕ → Bool
begins [] text = true
begins (a ∷ beginning) [] = false
begins (a ∷ beginning) (b ∷ text) = (a == b) && begins beginning text

-- the text without this beginning; all of it, if it has another one
abbrev pub without : List ℕ → List ℕ → List ℕ
without beginning text = if begins beginning text then drop (length beginning) text else text

abbrev pub text_of_count : ℕ → List ℕ
text_of_count count = codes " (" ++ (decimal count ++ codes " versions)")

module _ {N S : Type 0} (universe : Universe N S) (texts : Texts N S) where
  abbrev pub text_of_name : N → List ℕ
  text_of_name name = if universe.knows_name name then texts.name name else []

  abbrev pub text_of_solvable : S → List ℕ
  text_of_solvable solvable = if universe.knows_solvable solvable then texts.solvable solvable else []

  abbrev pub text_of_string : StringId → List ℕ
  text_of_string string = if universe.knows_string string then texts.string string else []

  abbrev pub text_of_requirement : Requirement → List ℕ
  text_of_requirement requirement =
      if knows_requirement universe requirement then requirement_text universe texts requirement else []

  -- the name of its package, then the set
  abbrev pub text_of_set : VersionSetId → List ℕ
  text_of_set set = text_of_requirement (Single set)

  -- a solvable without the name of its package, if its text begins with it
  abbrev pub text_of_version : S → List ℕ
  text_of_version solvable =
      if universe.knows_solvable solvable
      then without (texts.name (universe.solvable_name solvable) ++ codes " ") (texts.solvable solvable)
      else []

  -- each version after a comma
  abbrev pub text_of_each : List S → List ℕ
  text_of_each [] = []
  text_of_each (version ∷ versions) = codes ", " ++ (text_of_version version ++ text_of_each versions)

  -- the last of these
  abbrev pub text_of_last_version : List S → List ℕ
  text_of_last_version versions =
      unwrap_or (option_map text_of_version (slice_get versions (length versions - 1))) []

  -- the last of them after two dots, and how many there are
  abbrev pub text_of_last_and_count : List S → List ℕ
  text_of_last_and_count versions =
      codes ", .., " ++ (text_of_last_version versions ++ text_of_count (length versions))

  -- the versions after the first one: all if they are few, otherwise the last one
  abbrev pub text_of_others : List S → List ℕ
  text_of_others [] = []
  text_of_others (first ∷ others) =
      if nat_lt (length others) 4 then text_of_each others else text_of_last_and_count (first ∷ others)

  abbrev pub text_of_all : List S → List ℕ
  text_of_all [] = []
  text_of_all (first ∷ others) = text_of_version first ++ text_of_others (first ∷ others)
