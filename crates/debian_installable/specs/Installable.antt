-- What may be installed together.
use Rattle.std.specs.Prelude.{ℕ, ◌&&◌, ◌||◌, not, Bool, true, false, List, [], ◌∷◌, Option, None, Some, codes}
use Rattle.std.specs.Prelude.{option_map, if◌then◌else◌}
use Rattle.std.specs.List.{list_all, list_any}
use Rattle.std.specs.Ordering.{is_eq, is_ge, is_gt, is_le, is_lt}
use Rattle.std.specs.Str.{bytes_eq}
use Rattle.std.specs.declared.cmp.Ordering.{Ordering}
use Rattle.debian_text.specs.Relations.{BoundText, RelationText, relation_of}
use Rattle.debian_text.specs.declared.relation.Operator.{Operator}
use Rattle.debian_text.specs.declared.relation.Operator.TheVariants.{Earlier, EarlierOrEqual, Equal, LaterOrEqual}
use Rattle.debian_text.specs.declared.relation.Operator.TheVariants.{Later}
use Rattle.debian_versions.specs.Order.{cmp_versions}
use Rattle.debian_scenario.specs.Packages.{PackageText}
use Rattle.debian_scenario.specs.declared.package.MultiArch.{MultiArch}
use Rattle.debian_scenario.specs.declared.package.MultiArch.TheVariants.{Same, Foreign, Allowed}
use Rattle.debian_installable.specs.Fields.{alternatives, groups}

-- VERSIONS

abbrev pub is_in_order : Operator → Ordering → Bool
is_in_order Earlier = is_lt
is_in_order EarlierOrEqual = is_le
is_in_order Equal = is_eq
is_in_order LaterOrEqual = is_ge
is_in_order Later = is_gt

-- a version meets a bound; what has no version meets none
abbrev pub meets : Option BoundText → Option (List ℕ) → Bool
meets None version = true
meets (Some bound) None = false
meets (Some bound) (Some version) = is_in_order bound.operator (cmp_versions version bound.version)

-- NAMES

-- a part of `Provides` is what the relation means: a name, perhaps with `= VERSION`
abbrev pub is_meant : RelationText → Option RelationText → Bool
is_meant relation None = false
is_meant relation (Some said) =
    bytes_eq relation.name said.name && meets relation.bound (option_map (λ bound. bound.version) said.bound)

abbrev pub is_provided : RelationText → List ℕ → Bool
is_provided relation field = list_any (λ part. is_meant relation (relation_of part)) (groups field)

-- the relation means this package, or something that it provides
abbrev pub means : RelationText → PackageText → Bool
means relation p =
    (bytes_eq relation.name p.identity.name && meets relation.bound (Some p.identity.version))
    || is_provided relation p.relations.provides

-- ARCHITECTURES

-- `all` counts as the native one
abbrev pub architecture_of : List ℕ → PackageText → List ℕ
architecture_of native p =
    if bytes_eq p.identity.architecture (codes "all") then native else p.identity.architecture

abbrev pub is_foreign : MultiArch → Bool
is_foreign Foreign = true
is_foreign _ = false

abbrev pub is_allowed : MultiArch → Bool
is_allowed Allowed = true
is_allowed _ = false

abbrev pub is_same : MultiArch → Bool
is_same Same = true
is_same _ = false

abbrev pub have_one_architecture : List ℕ → PackageText → PackageText → Bool
have_one_architecture native p q = bytes_eq (architecture_of native p) (architecture_of native q)

-- q may serve one of this architecture, whose relation has this behind its colon
abbrev pub serves_architecture : List ℕ → List ℕ → PackageText → Option (List ℕ) → Bool
serves_architecture native architecture q None =
    bytes_eq architecture (architecture_of native q) || is_foreign q.multi_arch
serves_architecture native architecture q (Some qualifier) =
    if bytes_eq qualifier (codes "any") then is_allowed q.multi_arch
    else bytes_eq qualifier (architecture_of native q)

-- q may serve p, where a relation of p has this behind its colon
abbrev pub serves : List ℕ → PackageText → PackageText → Option (List ℕ) → Bool
serves native p q qualifier = serves_architecture native (architecture_of native p) q qualifier

-- a conflict is with every architecture, if it names none
abbrev pub is_concerned : List ℕ → PackageText → Option (List ℕ) → Bool
is_concerned native q None = true
is_concerned native q (Some qualifier) =
    bytes_eq qualifier (codes "any") || bytes_eq qualifier (architecture_of native q)

-- PACKAGES THAT ARE THERE TOGETHER

abbrev pub have_one_name : PackageText → PackageText → Bool
have_one_name p q = bytes_eq p.identity.name q.identity.name

-- a relation of p is met by q
abbrev pub is_met_by : List ℕ → PackageText → RelationText → PackageText → Bool
is_met_by native p relation q = means relation q && serves native p q relation.qualifier

-- p doesn't conflict with q by this relation of p; never with a package of its own name, in any architecture
abbrev pub is_free_of : List ℕ → PackageText → RelationText → PackageText → Bool
is_free_of native p relation q =
    have_one_name p q || not (means relation q && is_concerned native q relation.qualifier)

-- a relation of p is met by a package that is there
abbrev pub is_met : List ℕ → List PackageText → PackageText → Option RelationText → Bool
is_met native there p None = false
is_met native there p (Some relation) = list_any (is_met_by native p relation) there

-- an alternative of the group is met
abbrev pub is_group_met : List ℕ → List PackageText → PackageText → List ℕ → Bool
is_group_met native there p group = list_any (λ part. is_met native there p (relation_of part)) (alternatives group)

-- each group of the field is met
abbrev pub are_met : List ℕ → List PackageText → PackageText → List ℕ → Bool
are_met native there p field = list_all (is_group_met native there p) (groups field)

-- p conflicts with nothing that is there by this relation of p
abbrev pub is_free : List ℕ → List PackageText → PackageText → Option RelationText → Bool
is_free native there p None = false
is_free native there p (Some relation) = list_all (is_free_of native p relation) there

abbrev pub are_free : List ℕ → List PackageText → PackageText → List ℕ → Bool
are_free native there p field = list_all (λ part. is_free native there p (relation_of part)) (groups field)

-- all relations of p hold
abbrev pub is_served : List ℕ → List PackageText → PackageText → Bool
is_served native there p =
    are_met native there p p.relations.pre_depends && are_met native there p p.relations.depends
    && are_free native there p p.relations.conflicts && are_free native there p p.relations.breaks

-- of one name there is one version, in several architectures only where each is `same`
abbrev pub may_stand_beside : List ℕ → PackageText → PackageText → Bool
may_stand_beside native p q =
    not (have_one_name p q)
    || (is_same p.multi_arch && is_same q.multi_arch && bytes_eq p.identity.version q.identity.version
    && not (have_one_architecture native p q))

abbrev pub stand_together : List ℕ → List PackageText → Bool
stand_together native [] = true
stand_together native (p ∷ rest) = list_all (may_stand_beside native p) rest && stand_together native rest

-- these packages may be there together, and no others
abbrev pub is_installable : List ℕ → List PackageText → Bool
is_installable native there = stand_together native there && list_all (is_served native there) there
