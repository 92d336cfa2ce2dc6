-- The fields that count.
use Rattle.std.specs.Prelude.{ℕ, List, [], ◌∷◌, Option, codes}
use Rattle.std.specs.List.{find}
use Rattle.std.specs.Str.{bytes_eq}
use Rattle.debian_scenario.specs.declared.key.Key.{Key}
use Rattle.debian_scenario.specs.declared.key.Key.TheVariants.{Depends, PreDepends, Conflicts, Breaks, Provides}
use Rattle.debian_scenario.specs.declared.key.Key.TheVariants.{Recommends, Package, Architecture, Version, Id}
use Rattle.debian_scenario.specs.declared.key.Key.TheVariants.{MultiArch, Pin, Candidate, Installed, Hold}
use Rattle.debian_scenario.specs.declared.key.Key.TheVariants.{Automatic, Essential, Request, Install, Remove}
use Rattle.debian_scenario.specs.declared.key.Key.TheVariants.{Upgrade, DistUpgrade, UpgradeAll, Autoremove}
use Rattle.debian_scenario.specs.declared.key.Key.TheVariants.{ForbidNewInstall, ForbidRemove, StrictPinning}

abbrev pub name_of : Key → List ℕ
name_of Package = codes "Package"
name_of Architecture = codes "Architecture"
name_of Version = codes "Version"
name_of Id = codes "APT-ID"
name_of MultiArch = codes "Multi-Arch"
name_of Depends = codes "Depends"
name_of PreDepends = codes "Pre-Depends"
name_of Conflicts = codes "Conflicts"
name_of Breaks = codes "Breaks"
name_of Provides = codes "Provides"
name_of Recommends = codes "Recommends"
name_of Pin = codes "APT-Pin"
name_of Candidate = codes "APT-Candidate"
name_of Installed = codes "Installed"
name_of Hold = codes "Hold"
name_of Automatic = codes "APT-Automatic"
name_of Essential = codes "Essential"
name_of Request = codes "Request"
name_of Install = codes "Install"
name_of Remove = codes "Remove"
name_of Upgrade = codes "Upgrade"
name_of DistUpgrade = codes "Dist-Upgrade"
name_of UpgradeAll = codes "Upgrade-All"
name_of Autoremove = codes "Autoremove"
name_of ForbidNewInstall = codes "Forbid-New-Install"
name_of ForbidRemove = codes "Forbid-Remove"
name_of StrictPinning = codes "Strict-Pinning"

abbrev pub keys : List Key
keys =
    Package ∷ Architecture ∷ Version ∷ Id ∷ MultiArch ∷ Depends ∷ PreDepends ∷ Conflicts ∷ Breaks ∷ Provides
    ∷ Recommends ∷ Pin ∷ Candidate ∷ Installed ∷ Hold ∷ Automatic ∷ Essential ∷ Request ∷ Install ∷ Remove
    ∷ Upgrade ∷ DistUpgrade ∷ UpgradeAll ∷ Autoremove ∷ ForbidNewInstall ∷ ForbidRemove ∷ StrictPinning ∷ []

-- the field of this name
unfoldable pub key_of : List ℕ → Option Key
key_of name = find (λ key. bytes_eq (name_of key) name) keys

abbrev pub place : Key → ℕ
place Package = 0
place Architecture = 1
place Version = 2
place Id = 3
place MultiArch = 4
place Depends = 5
place PreDepends = 6
place Conflicts = 7
place Breaks = 8
place Provides = 9
place Recommends = 10
place Pin = 11
place Candidate = 12
place Installed = 13
place Hold = 14
place Automatic = 15
place Essential = 16
place Request = 17
place Install = 18
place Remove = 19
place Upgrade = 20
place DistUpgrade = 21
place UpgradeAll = 22
place Autoremove = 23
place ForbidNewInstall = 24
place ForbidRemove = 25
place StrictPinning = 26
