-- The versions of a line, in ranges. S are the solvables; `same` compares them.
use Rattle.std.specs.Prelude.{ℕ, Bool, true, false, List, [], ◌∷◌, ◌++◌, codes, drop, filter, not, reverse}
use Rattle.std.specs.Prelude.{if◌then◌else◌}
use Rattle.std.specs.List.{list_any}
use Rattle.resolvo_pool.specs.Provider.{Answers, Universe}
use Rattle.resolvo_pool.specs.Texts.{Texts}
use Rattle.reports.specs.Words.{text_of_solvable, text_of_version}
use Rattle.reports.specs.declared.versions.Range.{Range}
use Rattle.reports.specs.declared.versions.Size.{Size}
use Rattle.reports.specs.declared.versions.Size.TheVariants.{One, Two, More}

-- the list, the last one first: with the best one last, if the order is that of preference
abbrev pub best_last : {N S : Type 0} → Answers N S → List S → List S
best_last answers solvables = reverse (answers.order solvables)

module _ {S : Type 0} (same : S → S → Bool) where
  abbrev pub is_one : List S → S → Bool
  is_one solvables solvable = list_any (λ s. same s solvable) solvables

  -- those that are among the others, and those that aren't, in order
  abbrev pub those_among : List S → List S → List S
  those_among others solvables = filter (is_one others) solvables

  abbrev pub those_beside : List S → List S → List S
  those_beside others solvables = filter (λ s. not (is_one others s)) solvables

  -- the versions in the order of all, and behind them those that aren't among all
  abbrev pub in_order : List S → List S → List S
  in_order all versions = those_among versions all ++ those_beside all versions

  -- the list from the first place on at which the solvable stands
  abbrev pub from : S → List S → List S
  from solvable [] = []
  from solvable (s ∷ solvables) = if same s solvable then s ∷ solvables else from solvable solvables

  abbrev pub begins_with : List S → S → Bool
  begins_with [] solvable = false
  begins_with (s ∷ solvables) solvable = same s solvable

  -- the candidates behind the next version, if it continues the range, and if it begins one
  abbrev pub rest_of : Bool → List S → List S → S → List S
  rest_of true all rest version = drop 1 rest
  rest_of false all rest version = drop 1 (from version all)

abbrev pub longer : Size → Size
longer One = Two
longer Two = More
longer More = More

abbrev pub begun : {S : Type 0} → S → Range S
begun version = record { last = version; size = One }

-- the range with the next version, if it continues the range, and else the one that it begins
abbrev pub next_range : {S : Type 0} → Bool → Range S → S → Range S
next_range true range version = record { last = version; size = longer range.size }
next_range false range version = begun version

-- behind a range's first version: its last one, whose text this is
abbrev pub text_of_size : Size → List ℕ → List ℕ
text_of_size One text = []
text_of_size Two text = codes ", " ++ text
text_of_size More text = codes " to " ++ text

module _ {N S : Type 0} (universe : Universe N S) (texts : Texts N S) where
  abbrev pub text_of_end : Range S → List ℕ
  text_of_end range = text_of_size range.size (text_of_version universe texts range.last)

  -- what the next version adds, if it continues the range, and if it doesn't
  abbrev pub text_of_next : Bool → Range S → S → List ℕ
  text_of_next true range version = []
  text_of_next false range version = text_of_end range ++ (codes ", " ++ text_of_version universe texts version)

module _ {N S : Type 0} (universe : Universe N S) (texts : Texts N S) (same : S → S → Bool) where
  -- the versions behind the first one of a range, which has these candidates behind it
  abbrev pub text_of_ranges : List S → Range S → List S → List S → List ℕ
  text_of_ranges all range rest [] = text_of_end universe texts range
  text_of_ranges all range rest (version ∷ versions) =
      text_of_next universe texts (begins_with same rest version) range version
      ++ text_of_ranges all (next_range (begins_with same rest version) range version)
      (rest_of same (begins_with same rest version) all rest version) versions

  -- versions in their order among all
  abbrev pub text_in_order : List S → List S → List ℕ
  text_in_order all [] = []
  text_in_order all (first ∷ others) =
      text_of_solvable universe texts first
      ++ text_of_ranges all (begun first) (rest_of same false all [] first) others

  module _ (answers : Answers N S) where
    abbrev pub text_of_known : List S → List ℕ
    text_of_known [] = []
    text_of_known (first ∷ others) =
        let all = best_last answers (answers.candidates (universe.solvable_name first)) in
        text_in_order all (in_order same all (first ∷ others))

    -- those that are known
    abbrev pub text_of_versions : List S → List ℕ
    text_of_versions versions = text_of_known (filter universe.knows_solvable versions)
