-- Worked examples: which packages may be installed together, computed.
use Rattle.std.proofs.Common.{◌≡◌, ℕ, Bool, true, false, List, [], ◌∷◌, refl}
use Rattle.std.specs.Prelude.{codes}
use Rattle.debian_versions.specs.Order.{keys, upstream_len}
use Rattle.debian_installable.specs.Installable.{is_installable}
use Rattle.debian_scenario.specs.Packages.{PackageText, RelationsText}
use Rattle.debian_scenario.specs.declared.package.MultiArch.{MultiArch}
use Rattle.debian_scenario.specs.declared.package.MultiArch.TheVariants.{No, Same, Foreign, Allowed}
use Rattle.debian_scenario.specs.declared.package.State.{State}

abbrev state : State
state = record {
  is_installed = false;
  is_held = false;
  is_automatic = false;
  is_candidate = true;
  is_essential = false;
}

abbrev nothing : RelationsText
nothing = record {
  depends = [];
  pre_depends = [];
  conflicts = [];
  breaks = [];
  provides = [];
  recommends = [];
  pin = [];
}

abbrev of_architecture : List ℕ → MultiArch → List ℕ → List ℕ → RelationsText → PackageText
of_architecture architecture multi_arch name version relations = record {
  identity = record { name = name; architecture = architecture; version = version; id = [] };
  state = state;
  multi_arch = multi_arch;
  relations = relations;
}

abbrev native : List ℕ → List ℕ → RelationsText → PackageText
native = of_architecture (codes "amd64") No

abbrev may : List PackageText → Bool
may = is_installable (codes "amd64")

-- `a` needs `b` from 2 on
abbrev a : PackageText
a = native (codes "a") (codes "1") (record nothing { depends = codes " b (>= 2) | c,\n d\n" })

abbrev b : List ℕ → PackageText
b version = native (codes "b") version nothing

abbrev d : PackageText
d = native (codes "d") (codes "1") nothing

-- a need is met by a version within the bound, and by no other one
needs_bound : may (a ∷ b (codes "2:1") ∷ d ∷ []) ≡ true
unfolding keys upstream_len
needs_bound = refl

needs_later : may (a ∷ b (codes "2~rc1") ∷ d ∷ []) ≡ false
unfolding keys upstream_len
needs_later = refl

-- each need has to be met
needs_each : may (a ∷ b (codes "2") ∷ []) ≡ false
unfolding keys upstream_len
needs_each = refl

-- one alternative is enough; what is provided meets a need, but without a version none that has a bound
needs_provided : may (a ∷ native (codes "x") (codes "7") (record nothing { provides = codes "c, y" }) ∷ d ∷ []) ≡ true
unfolding keys upstream_len
needs_provided = refl

needs_version_provided : may (a ∷ native (codes "x") (codes "7") (record nothing { provides = codes "b" }) ∷ d ∷ [])
    ≡ false
unfolding keys upstream_len
needs_version_provided = refl

needs_provided_version : may (a ∷ native (codes "x") (codes "7")
    (record nothing { provides = codes "b (= 2.1)" }) ∷ d ∷ []) ≡ true
unfolding keys upstream_len
needs_provided_version = refl

-- who provides what it conflicts with is alone with it
abbrev mailer : List ℕ → PackageText
mailer name = native name (codes "1") (record nothing { provides = codes "mta"; conflicts = codes "mta" })

alone : may (mailer (codes "m") ∷ []) ≡ true
unfolding keys upstream_len
alone = refl

two_mailers : may (mailer (codes "m") ∷ mailer (codes "n") ∷ []) ≡ false
unfolding keys upstream_len
two_mailers = refl

-- a break of versions that aren't there
abbrev breaker : PackageText
breaker = native (codes "e") (codes "1") (record nothing { breaks = codes "b (<< 2)" })

breaks_earlier : may (breaker ∷ b (codes "1.9-1") ∷ []) ≡ false
unfolding keys upstream_len
breaks_earlier = refl

breaks_no_later : may (breaker ∷ b (codes "2-0") ∷ []) ≡ true
unfolding keys upstream_len
breaks_no_later = refl

-- one version of a name
two_versions : may (b (codes "1") ∷ b (codes "2") ∷ []) ≡ false
unfolding keys upstream_len
two_versions = refl

-- another architecture
abbrev other : MultiArch → List ℕ → PackageText
other multi_arch version = of_architecture (codes "i386") multi_arch (codes "b") version nothing

abbrev needing : List ℕ → PackageText
needing text = native (codes "f") (codes "1") (record nothing { depends = text })

serves_none : may (needing (codes "b") ∷ other No (codes "1") ∷ []) ≡ false
unfolding keys upstream_len
serves_none = refl

serves_foreign : may (needing (codes "b") ∷ other Foreign (codes "1") ∷ []) ≡ true
unfolding keys upstream_len
serves_foreign = refl

serves_any : may (needing (codes "b:any") ∷ other Allowed (codes "1") ∷ []) ≡ true
unfolding keys upstream_len
serves_any = refl

serves_no_other_any : may (needing (codes "b:any") ∷ b (codes "1") ∷ []) ≡ false
unfolding keys upstream_len
serves_no_other_any = refl

serves_named : may (needing (codes "b:i386") ∷ other No (codes "1") ∷ []) ≡ true
unfolding keys upstream_len
serves_named = refl

same_twice : may (of_architecture (codes "amd64") Same (codes "b") (codes "1") nothing ∷ other Same (codes "1") ∷ [])
    ≡ true
unfolding keys upstream_len
same_twice = refl

-- who provides what it conflicts with may be there in two architectures
abbrev library : List ℕ → PackageText
library architecture = of_architecture architecture Same (codes "l") (codes "1")
    (record nothing { provides = codes "v"; conflicts = codes "v" })

library_twice : may (library (codes "amd64") ∷ library (codes "i386") ∷ []) ≡ true
unfolding keys upstream_len
library_twice = refl

same_in_two_versions : may (of_architecture (codes "amd64") Same (codes "b") (codes "2") nothing ∷ other Same
    (codes "1") ∷ []) ≡ false
unfolding keys upstream_len
same_in_two_versions = refl

-- what can't be read isn't installed
unreadable : may (needing (codes "b (2)") ∷ b (codes "2") ∷ []) ≡ false
unfolding keys upstream_len
unreadable = refl
