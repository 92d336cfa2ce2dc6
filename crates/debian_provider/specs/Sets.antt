-- Which versions of a name a set has.
use Rattle.std.specs.Prelude.{ℕ, ◌&&◌, not, Bool, true, false, List, Option, None, Some, option_map, if◌then◌else◌}
use Rattle.std.specs.Str.{bytes_eq}
use Rattle.debian_text.specs.Plain.{plain_relation}
use Rattle.debian_text.specs.Relations.{RelationText}
use Rattle.debian_scenario.specs.Packages.{PackageText}
use Rattle.debian_installable.specs.Installable.{is_concerned, is_same, means, serves_architecture}
use Rattle.debian_provider.specs.declared.set.Set.{Set}
use Rattle.debian_provider.specs.declared.set.Set.TheVariants as Is

pub data SetText : Type 0 where
  All : SetText
  -- by a relation of a package of this architecture
  Meeting : RelationText → List ℕ → SetText
  Spared : RelationText → SetText
  Beside : Option (List ℕ) → SetText

-- a set without where its bytes lie
abbrev pub plain_set : Set → SetText
plain_set Is.All = All
plain_set (Is.Meeting relation architecture) = Meeting (plain_relation relation) architecture.now
plain_set (Is.Spared relation) = Spared (plain_relation relation)
plain_set (Is.Beside version) = Beside (option_map (λ v. v.now) version)

module _ (native : List ℕ) where
  -- the relation of a package of this architecture is met by p
  abbrev pub is_met : List ℕ → RelationText → PackageText → Bool
  is_met architecture relation p =
      serves_architecture native architecture p relation.qualifier && means relation p

  -- a conflict by this relation is with p
  abbrev pub is_against : RelationText → PackageText → Bool
  is_against relation p = is_concerned native p relation.qualifier && means relation p

  abbrev pub has : SetText → PackageText → Bool
  has All p = true
  has (Meeting relation architecture) p = is_met architecture relation p
  has (Spared relation) p = not (is_against relation p)
  has (Beside None) p = false
  has (Beside (Some version)) p = is_same p.multi_arch && bytes_eq p.identity.version version

-- the versions of p's name that may stand beside it in other architectures
abbrev pub beside : PackageText → SetText
beside p = Beside (if is_same p.multi_arch then Some p.identity.version else None)
