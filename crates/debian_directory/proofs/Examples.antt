-- Worked examples: which packages are an answer to a request, computed.
use Rattle.std.proofs.Common.{◌≡◌, ℕ, Bool, true, false, List, [], ◌∷◌, refl}
use Rattle.std.specs.Prelude.{codes}
use Rattle.debian_versions.specs.Order.{keys, upstream_len}
use Rattle.debian_scenario.specs.Packages.{PackageText, RelationsText}
use Rattle.debian_scenario.specs.Requests.{RequestText}
use Rattle.debian_scenario.specs.declared.package.MultiArch.TheVariants.{No}
use Rattle.debian_scenario.specs.declared.package.State.{State}
use Rattle.debian_scenario.specs.declared.request.Actions.{Actions}
use Rattle.debian_directory.specs.Answers.{is_answer, is_lost, keeps_another, keeps_as_much}

-- PACKAGES

abbrev nothing : RelationsText
nothing = record {
  depends = [];
  pre_depends = [];
  conflicts = [];
  breaks = [];
  provides = [];
  recommends = [];
  pin = [];
}

abbrev version : State → List ℕ → List ℕ → RelationsText → PackageText
version state name number relations = record {
  identity = record { name = name; architecture = codes "amd64"; version = number; id = [] };
  state = state;
  multi_arch = No;
  relations = relations;
}

abbrev candidate : State
candidate = record {
  is_installed = false;
  is_held = false;
  is_automatic = false;
  is_candidate = true;
  is_essential = false;
}

abbrev installed : State
installed = record candidate { is_installed = true; is_candidate = false }

-- `a` is installed, and there is a newer one; `b` isn't, and needs `c`; of `c` there are two versions
abbrev a : State → PackageText
a state = version state (codes "a") (codes "1") nothing

abbrev newer_a : State → PackageText
newer_a state = version state (codes "a") (codes "2") nothing

abbrev b : PackageText
b = version candidate (codes "b") (codes "1") (record nothing { depends = codes "c (>= 2)" })

abbrev c : PackageText
c = version candidate (codes "c") (codes "2") nothing

abbrev older_c : PackageText
older_c = version (record candidate { is_candidate = false }) (codes "c") (codes "1") nothing

abbrev packages : List PackageText
packages = a installed ∷ newer_a candidate ∷ b ∷ c ∷ older_c ∷ []

-- REQUESTS

abbrev actions : Actions
actions = record {
  upgrade = false;
  dist_upgrade = false;
  upgrade_all = false;
  autoremove = false;
  forbid_new_install = false;
  forbid_remove = false;
  strict_pinning = true;
}

abbrev request : Actions → List ℕ → List ℕ → RequestText
request actions install remove =
    record { architecture = codes "amd64"; install = install; remove = remove; actions = actions }

abbrev is_install : List ℕ → List PackageText → Bool
is_install words there = is_answer (request actions words []) packages there

abbrev is_done : Actions → List PackageText → Bool
is_done actions there = is_answer (request actions [] []) packages there

-- INSTALL

installs : is_install (codes "b:amd64") (a installed ∷ b ∷ c ∷ []) ≡ true
unfolding keys upstream_len
installs = refl

installs_all : is_install (codes " b:amd64\n c") (a installed ∷ b ∷ c ∷ []) ≡ true
unfolding keys upstream_len
installs_all = refl

lacks_what_is_asked_for : is_install (codes "b:amd64 c") (a installed ∷ c ∷ []) ≡ false
unfolding keys upstream_len
lacks_what_is_asked_for = refl

lacks_what_that_needs : is_install (codes "b:amd64") (a installed ∷ b ∷ []) ≡ false
unfolding keys upstream_len
lacks_what_that_needs = refl

of_another_architecture : is_install (codes "b:i386") (a installed ∷ b ∷ c ∷ []) ≡ false
unfolding keys upstream_len
of_another_architecture = refl

-- only candidates may be picked anew, unless pinning isn't strict
no_candidate : is_install (codes "c") (a installed ∷ older_c ∷ []) ≡ false
unfolding keys upstream_len
no_candidate = refl

pinned_loosely : is_done (record actions { strict_pinning = false }) (a installed ∷ older_c ∷ []) ≡ true
unfolding keys upstream_len
pinned_loosely = refl

two_versions : is_install (codes "a") (a installed ∷ newer_a candidate ∷ []) ≡ false
unfolding keys upstream_len
two_versions = refl

-- a name that is asked for has its candidate
stays_old : is_install (codes "a") (a installed ∷ []) ≡ false
unfolding keys upstream_len
stays_old = refl

is_new : is_install (codes "a") (newer_a candidate ∷ []) ≡ true
unfolding keys upstream_len
is_new = refl

-- and may be new where nothing else may
upgrades_with : is_answer (request (record actions { upgrade = true }) (codes "b c") []) packages
    (a installed ∷ b ∷ c ∷ []) ≡ true
unfolding keys upstream_len
upgrades_with = refl

upgrades_with_no_other : is_answer (request (record actions { upgrade = true }) (codes "b") []) packages
    (a installed ∷ b ∷ c ∷ []) ≡ false
unfolding keys upstream_len
upgrades_with_no_other = refl

-- REMOVE

removes : is_answer (request actions [] (codes "a:amd64")) packages [] ≡ true
unfolding keys upstream_len
removes = refl

keeps_what_is_to_go : is_answer (request actions [] (codes "a:amd64")) packages (a installed ∷ []) ≡ false
unfolding keys upstream_len
keeps_what_is_to_go = refl

-- what has to stay may be upgraded, and may not go
abbrev essential : State
essential = record installed { is_essential = true }

essential_upgraded : is_answer (request actions [] []) (a essential ∷ newer_a candidate ∷ [])
    (newer_a candidate ∷ []) ≡ true
unfolding keys upstream_len
essential_upgraded = refl

essential_removed : is_answer (request actions [] []) (a essential ∷ newer_a candidate ∷ []) [] ≡ false
unfolding keys upstream_len
essential_removed = refl

essential_to_go : is_answer (request actions [] (codes "a")) (a essential ∷ []) [] ≡ true
unfolding keys upstream_len
essential_to_go = refl

-- HOLDS

abbrev held : State → State
held state = record state { is_held = true }

abbrev is_beside_hold : List ℕ → List PackageText → Bool
is_beside_hold words there =
    is_answer (request actions words []) (a (held installed) ∷ newer_a (held candidate) ∷ []) there

stays_held : is_beside_hold [] (a (held installed) ∷ []) ≡ true
unfolding keys upstream_len
stays_held = refl

held_upgraded : is_beside_hold [] (newer_a (held candidate) ∷ []) ≡ false
unfolding keys upstream_len
held_upgraded = refl

held_upgraded_as_asked : is_beside_hold (codes "a") (newer_a (held candidate) ∷ []) ≡ true
unfolding keys upstream_len
held_upgraded_as_asked = refl

held_removed : is_beside_hold [] [] ≡ false
unfolding keys upstream_len
held_removed = refl

-- apt holds a name that isn't to be installed
held_installed : is_answer (request actions [] []) (a (held candidate) ∷ []) (a (held candidate) ∷ []) ≡ false
unfolding keys upstream_len
held_installed = refl

-- WHAT IS FORBIDDEN

nothing_new : is_done (record actions { forbid_new_install = true }) (newer_a candidate ∷ c ∷ []) ≡ false
unfolding keys upstream_len
nothing_new = refl

nothing_removed : is_done (record actions { forbid_remove = true }) (c ∷ []) ≡ false
unfolding keys upstream_len
nothing_removed = refl

upgraded : is_done (record actions { upgrade = true }) (newer_a candidate ∷ []) ≡ true
unfolding keys upstream_len
upgraded = refl

nothing_new_in_an_upgrade : is_done (record actions { upgrade = true }) (newer_a candidate ∷ c ∷ []) ≡ false
unfolding keys upstream_len
nothing_new_in_an_upgrade = refl

nothing_removed_in_an_upgrade : is_done (record actions { upgrade = true }) [] ≡ false
unfolding keys upstream_len
nothing_removed_in_an_upgrade = refl

-- WHAT IS KEPT

-- `a` is to go, `d` needs it, and `e` needs nothing
abbrev d : PackageText
d = version installed (codes "d") (codes "1") (record nothing { depends = codes "a" })

abbrev e : PackageText
e = version installed (codes "e") (codes "1") nothing

abbrev all : List PackageText
all = a installed ∷ d ∷ e ∷ []

abbrev removal : RequestText
removal = request actions [] (codes "a")

lost : is_lost removal all (e ∷ []) d ≡ true
lost = refl

to_go : is_lost removal all (e ∷ []) (a installed) ≡ false
to_go = refl

there_still : is_lost removal all (e ∷ []) e ≡ false
there_still = refl

keeps_e : keeps_another removal all [] (e ∷ []) ≡ true
keeps_e = refl

keeps_no_more : keeps_another removal all (e ∷ []) (e ∷ []) ≡ false
keeps_no_more = refl

keeps_less : keeps_as_much removal all (e ∷ []) (d ∷ []) ≡ false
keeps_less = refl

keeps_d_too : keeps_as_much removal all (e ∷ []) (d ∷ e ∷ []) ≡ true
keeps_d_too = refl
