-- What a stanza says of a package.
use Rattle.std.specs.Prelude.{ℕ, ◌||◌, false, List, Result, Ok, Err, codes, if◌then◌else◌}
use Rattle.std.specs.Str.{bytes_eq}
use Rattle.debian_text.specs.Words.{trimmed}
use Rattle.debian_scenario.specs.Results.{◌>>=◌}
use Rattle.debian_scenario.specs.Values.{Values, flag_in, text_in, values_of, version_in, word_in}
use Rattle.debian_scenario.specs.declared.fault.StanzaFault.{StanzaFault}
use Rattle.debian_scenario.specs.declared.fault.StanzaFault.TheVariants.{Unreadable}
use Rattle.debian_scenario.specs.declared.key.Key.TheVariants as Field
use Rattle.debian_scenario.specs.declared.package.MultiArch.{MultiArch}
use Rattle.debian_scenario.specs.declared.package.MultiArch.TheVariants.{No, Same, Foreign, Allowed}
use Rattle.debian_scenario.specs.declared.package.State.{State}

pub record IdentityText : Type 0 where
  pub name : List ℕ
  pub architecture : List ℕ
  pub version : List ℕ
  pub id : List ℕ

pub record RelationsText : Type 0 where
  pub depends : List ℕ
  pub pre_depends : List ℕ
  pub conflicts : List ℕ
  pub breaks : List ℕ
  pub provides : List ℕ
  pub recommends : List ℕ
  pub pin : List ℕ

pub record PackageText : Type 0 where
  pub identity : IdentityText
  pub state : State
  pub multi_arch : MultiArch
  pub relations : RelationsText

abbrev pub identity_in : Values → Result IdentityText StanzaFault
identity_in values = do
  name ← word_in Field.Package values
  architecture ← word_in Field.Architecture values
  version ← version_in Field.Version values
  id ← word_in Field.Id values
  Ok (record { name = name; architecture = architecture; version = version; id = id })

abbrev pub state_in : Values → Result State StanzaFault
state_in values = do
  is_installed ← flag_in Field.Installed false values
  is_held ← flag_in Field.Hold false values
  is_automatic ← flag_in Field.Automatic false values
  is_candidate ← flag_in Field.Candidate false values
  is_essential ← flag_in Field.Essential false values
  Ok (record {
    is_installed = is_installed;
    is_held = is_held;
    is_automatic = is_automatic;
    is_candidate = is_candidate;
    is_essential = is_essential;
  })

-- nothing is `no`
abbrev pub multi_arch_of : List ℕ → Result MultiArch StanzaFault
multi_arch_of text =
    if bytes_eq text (codes "") || bytes_eq text (codes "no") then Ok No
    else if bytes_eq text (codes "same") then Ok Same
    else if bytes_eq text (codes "foreign") then Ok Foreign
    else if bytes_eq text (codes "allowed") then Ok Allowed
    else Err (Unreadable Field.MultiArch)

abbrev pub multi_arch_in : Values → Result MultiArch StanzaFault
multi_arch_in values = multi_arch_of (trimmed (text_in Field.MultiArch values))

abbrev pub relations_in : Values → RelationsText
relations_in values = record {
  depends = text_in Field.Depends values;
  pre_depends = text_in Field.PreDepends values;
  conflicts = text_in Field.Conflicts values;
  breaks = text_in Field.Breaks values;
  provides = text_in Field.Provides values;
  recommends = text_in Field.Recommends values;
  pin = text_in Field.Pin values;
}

abbrev pub package_in : Values → Result PackageText StanzaFault
package_in values = do
  identity ← identity_in values
  state ← state_in values
  multi_arch ← multi_arch_in values
  Ok (record { identity = identity; state = state; multi_arch = multi_arch; relations = relations_in values })

-- the package that a stanza is about
abbrev pub package_of : List (List ℕ) → Result PackageText StanzaFault
package_of stanza = values_of stanza >>= package_in
