-- What apt asks for, and which packages are an answer.
use Rattle.std.specs.Prelude.{ℕ, ◌==◌, ◌&&◌, ◌||◌, not, Bool, List, Option, None, Some, codes, filter, length, map}
use Rattle.std.specs.Prelude.{if◌then◌else◌}
use Rattle.std.specs.Char.{is_ascii_whitespace}
use Rattle.std.specs.List.{list_all, list_any, slice_split}
use Rattle.std.specs.Str.{bytes_eq}
use Rattle.debian_text.specs.Words.{cut_at}
use Rattle.debian_scenario.specs.Packages.{PackageText}
use Rattle.debian_scenario.specs.Requests.{RequestText}
use Rattle.debian_installable.specs.Installable.{architecture_of, is_installable}

-- NAMES

-- a package's name, and an architecture
pub record NameText : Type 0 where
  pub name : List ℕ
  pub architecture : List ℕ

abbrev pub is_same : NameText → NameText → Bool
is_same a b = bytes_eq a.name b.name && bytes_eq a.architecture b.architecture

abbrev pub name_of : List ℕ → PackageText → NameText
name_of native p = record { name = p.identity.name; architecture = architecture_of native p }

-- `git:amd64`; `all`, and none, is the native architecture
abbrev pub named_by : List ℕ → List ℕ → Option (List ℕ × List ℕ) → NameText
named_by native word None = record { name = word; architecture = native }
named_by native word (Some parts) =
    record { name = parts.0; architecture = if bytes_eq parts.1 (codes "all") then native else parts.1 }

abbrev pub named : List ℕ → List ℕ → NameText
named native word = named_by native word (cut_at 58 word)

-- the names that white space separates
abbrev pub names_of : List ℕ → List ℕ → List NameText
names_of native words =
    map (named native) (filter (λ word. not (length word == 0)) (slice_split is_ascii_whitespace words))

abbrev pub is_named : List ℕ → List ℕ → NameText → Bool
is_named native words name = list_any (is_same name) (names_of native words)

abbrev pub is_of_name : List ℕ → NameText → PackageText → Bool
is_of_name native name p = is_same name (name_of native p)

-- a package of this name is there
abbrev pub has : List ℕ → List PackageText → NameText → Bool
has native there name = list_any (is_of_name native name) there

module _ (request : RequestText) (packages : List PackageText) where
  abbrev pub name_in : PackageText → NameText
  name_in = name_of request.architecture

  -- WHAT MAY BE PICKED

  abbrev pub is_to_go : NameText → Bool
  is_to_go = is_named request.architecture request.remove

  abbrev pub is_asked : NameText → Bool
  is_asked = is_named request.architecture request.install

  -- p has this name, and is installed
  abbrev pub is_installed_as : NameText → PackageText → Bool
  is_installed_as name p = is_same name (name_in p) && p.state.is_installed

  abbrev pub is_held_as : NameText → PackageText → Bool
  is_held_as name p = is_same name (name_in p) && p.state.is_held

  abbrev pub is_name_installed : NameText → Bool
  is_name_installed name = list_any (is_installed_as name) packages

  -- apt is to leave the name as it is
  abbrev pub is_name_held : NameText → Bool
  is_name_held name = list_any (is_held_as name) packages

  -- a name may get a version that isn't installed
  abbrev pub may_change : NameText → Bool
  may_change name =
      is_asked name || (not (is_name_held name)
      && (is_name_installed name || not (request.actions.forbid_new_install || request.actions.upgrade)))

  -- p has this name, and is apt's candidate
  abbrev pub is_candidate_as : NameText → PackageText → Bool
  is_candidate_as name p = is_same name (name_in p) && p.state.is_candidate

  abbrev pub has_candidate : NameText → Bool
  has_candidate name = list_any (is_candidate_as name) packages

  -- apt's candidate, or any version if pinning isn't strict
  abbrev pub is_pinned : PackageText → Bool
  is_pinned p = p.state.is_candidate || not request.actions.strict_pinning

  -- an installed version may stay, but not where the candidate of its name is asked for
  abbrev pub may_stay : PackageText → Bool
  may_stay p = p.state.is_installed
      && (is_pinned p || not (is_asked (name_in p)) || not (has_candidate (name_in p)))

  -- its name isn't to go, and it may stay, or may be new
  abbrev pub may_be_picked : PackageText → Bool
  may_be_picked p = not (is_to_go (name_in p)) && (may_stay p || (is_pinned p && may_change (name_in p)))

  -- WHAT HAS TO BE THERE

  -- nothing may be removed but what is to go
  abbrev pub forbids_removals : Bool
  forbids_removals = request.actions.forbid_remove || request.actions.upgrade

  -- installed, and held, essential or not to be removed; and its name isn't to go
  abbrev pub must_stay : PackageText → Bool
  must_stay p =
      p.state.is_installed && (forbids_removals || p.state.is_essential || p.state.is_held)
      && not (is_to_go (name_in p))

  abbrev pub stays : List PackageText → PackageText → Bool
  stays there p = not (must_stay p) || has request.architecture there (name_in p)

  abbrev pub stay : List PackageText → Bool
  stay there = list_all (stays there) packages

  -- WHAT STAYS IF IT CAN

  -- an installed package that isn't to go, unless `Autoremove` lets it go as an automatic one
  abbrev pub is_to_be_kept : PackageText → Bool
  is_to_be_kept p =
      p.state.is_installed && not (is_to_go (name_in p)) && not (p.state.is_automatic && request.actions.autoremove)

  abbrev pub is_kept : List PackageText → PackageText → Bool
  is_kept there p = not (is_to_be_kept p) || has request.architecture there (name_in p)

  -- each of them has a version there
  abbrev pub keeps_all : List PackageText → Bool
  keeps_all there = list_all (is_kept there) packages

  -- it is to be kept, and none of these packages is a version of its name
  abbrev pub is_lost : List PackageText → PackageText → Bool
  is_lost there p = is_to_be_kept p && not (has request.architecture there (name_in p))

  -- what is to be kept and isn't lost in the first packages, isn't lost in the others
  abbrev pub keeps_as_much : List PackageText → List PackageText → Bool
  keeps_as_much there other =
      list_all (λ p. not (is_to_be_kept p && has request.architecture there (name_in p))
      || has request.architecture other (name_in p)) packages

  -- something is lost in the first packages, and not in the others
  abbrev pub keeps_another : List PackageText → List PackageText → Bool
  keeps_another there other =
      list_any (λ p. is_lost there p && has request.architecture other (name_in p)) packages

  -- ANSWERS

  abbrev pub may_all_be_picked : List PackageText → Bool
  may_all_be_picked there = list_all may_be_picked there

  abbrev pub has_asked : List PackageText → Bool
  has_asked there =
      list_all (has request.architecture there) (names_of request.architecture request.install)

  -- these packages may be there together, may each be picked, and are what is asked for
  abbrev pub is_answer : List PackageText → Bool
  is_answer there =
      is_installable request.architecture there && may_all_be_picked there && has_asked there && stay there
