-- How packages that are to be there differ from what is installed, as apt reads it.
use Rattle.std.specs.Prelude.{ℕ, ◌&&◌, ◌++◌, not, Bool, List, [], codes, flat_map, if◌then◌else◌}
use Rattle.debian_scenario.specs.Packages.{PackageText}
use Rattle.debian_directory.specs.Answers.{has, name_of}

-- `Name: value`
abbrev pub field_text : List ℕ → List ℕ → List ℕ
field_text name value = name ++ (value ++ codes "\n")

-- what happens to a package
abbrev pub stanza_text : List ℕ → PackageText → List ℕ
stanza_text action p =
    field_text action p.identity.id
    ++ (field_text (codes "Package: ") p.identity.name
    ++ (field_text (codes "Version: ") p.identity.version
    ++ (field_text (codes "Architecture: ") p.identity.architecture ++ codes "\n")))

-- it isn't installed
abbrev pub is_new : PackageText → Bool
is_new p = not p.state.is_installed

-- an installed package of whose name no version is there
abbrev pub is_removed : List ℕ → List PackageText → PackageText → Bool
is_removed native there p = p.state.is_installed && not (has native there (name_of native p))

abbrev pub text_if_new : PackageText → List ℕ
text_if_new p = if is_new p then stanza_text (codes "Install: ") p else []

abbrev pub text_if_removed : List ℕ → List PackageText → PackageText → List ℕ
text_if_removed native there p = if is_removed native there p then stanza_text (codes "Remove: ") p else []

abbrev pub new_text : List PackageText → List ℕ
new_text there = flat_map text_if_new there

abbrev pub removed_text : List ℕ → List PackageText → List PackageText → List ℕ
removed_text native there packages = flat_map (text_if_removed native there) packages

-- that these packages are to be there: what is installed, and then what is removed
abbrev pub answer_text : List ℕ → List PackageText → List PackageText → List ℕ
answer_text native packages there = new_text there ++ removed_text native there packages
