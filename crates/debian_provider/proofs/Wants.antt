-- That a version of a name is there, as a requirement.
use Rattle.std.proofs.Common.{◌≡◌, ◌∙◌, ℕ, zero, ◌<◌, not, true, List, [], ◌∷◌, ◌++◌, None, ap, ap₂, arith, inl, inr}
use Rattle.std.proofs.Common.{length}
use Rattle.std.proofs.Common.{get_or, map, refl, subst, sym, take, ◌+◌, ◌&&◌, ◌||◌}
use Rattle.std.specs.Prelude.{All}
use Rattle.std.proofs.lemmas.Bool.{and_parts, false≢true, or_cases}
use Rattle.std.proofs.lemmas.List.{get_or-map, length-map, map-append, take_more}
use Rattle.std.proofs.lemmas.List.Elements.{All-weaker, Contains-get_or, Contains-push_cases}
use Rattle.std.proofs.lemmas.List.Folds.{Any-from_list_any}
use Rattle.debian_directory.specs.Answers.{has}
use Rattle.debian_provider.proofs.Words.{Any, Archive, AreKept, AreOfLost, AreRequired, ConditionalRequirement}
use Rattle.debian_provider.proofs.Words.{Contains, Global, has_asked, HasSet, Ids, is_installable, is_lost, is_of_name}
use Rattle.debian_provider.proofs.Words.{is_to_be_kept, IsAnswer, IsDemand, IsGrown, IsKeepingMore, IsLater, IsMeant}
use Rattle.debian_provider.proofs.Words.{IsOneOf, IsRead, IsSet, IsWanted, IsWantedBy, IsWider, may_all_be_picked}
use Rattle.debian_provider.proofs.Words.{must_stay, Name, name_of, names_of, NameText, native_in, Package, packages_in}
use Rattle.debian_provider.proofs.Words.{PackageText, plain_name, plain_package, request_in, Requirement, Rules}
use Rattle.debian_provider.proofs.Words.{sets_of, Single, stay, stays, Union, universe_in, Vec, VersionSetId}
use Rattle.debian_provider.specs.Sets.{All as Whole}
use Rattle.debian_provider.proofs.Demands.{demands_more, demands_still, four_parts, passes}
use Rattle.debian_provider.proofs.Later.{extended_itself}
use Rattle.debian_provider.proofs.Named.{has_set_still, same_bytes}
use Rattle.debian_provider.proofs.Wider.{wider_by}

-- A REQUIREMENT OF A NAME

same_name : (a b : NameText) → a.name ≡ b.name → a.architecture ≡ b.architecture → a ≡ b
same_name a b n c = ap₂ (λ (x y : List ℕ). record { name = x; architecture = y }) n c

of_name : (native : List ℕ) (name : NameText) (q : PackageText) → is_of_name native name q ≡ true
    → name ≡ name_of native q
of_name native name q h =
    let both = and_parts _ _ h in
    same_name name (name_of native q) (same_bytes name.name q.identity.name both.0)
    (same_bytes name.architecture (name_of native q).architecture both.1)

module _ (rules : Rules) (pool : Ids) (IsSuch : List PackageText → Type 0) (name : NameText)
    (wanted : IsWantedBy rules IsSuch name) where
  meant : (v : VersionSetId) → IsSet pool v name Whole → (there : List PackageText) → IsSuch there
      → Any (IsMeant rules pool (v ∷ [])) there
  meant v is there such =
      let found = Any-from_list_any (is_of_name (native_in rules) name) there (wanted there such) in
      let same : name ≡ name_of (native_in rules) found.1 = of_name (native_in rules) name found.1 found.4 in (
        found.0,
        found.1,
        found.2,
        found.3,
        (Whole, (v, (zero, omega arith, refl), subst (λ (n : NameText). IsSet pool v n Whole) same is), refl),
      )

  pub wanted_demand : (r : Requirement) → IsOneOf pool name r
      → IsDemand rules pool IsSuch (record { condition = None; requirement = r })
  wanted_demand (Single v) is = (refl, meant v is)
  wanted_demand (Union u) is = absurd is

-- WHICH NAMES ARE WANTED

contains_seen : {X Y : Type 0} (view : X → Y) (xs : List X) (x : X) → Contains xs x → Contains (map view xs) (view x)
contains_seen view xs x h =
    (h.0, omega (arith, length-map xs view, h.1), get_or-map view xs h.0 x (view x) h.1 ∙ ap view h.2)

-- what it takes to be an answer
module _ (rules : Rules) (there : List PackageText) (answer : IsAnswer rules there) where
  abbrev Parts : Type 0
  Parts = (is_installable (native_in rules) there ≡ true)
      × (may_all_be_picked (request_in rules) (packages_in rules) there ≡ true)
      × (has_asked (request_in rules) (packages_in rules) there ≡ true)
      × (stay (request_in rules) (packages_in rules) there ≡ true)

  parts : Parts
  parts = four_parts (is_installable (native_in rules) there)
      (may_all_be_picked (request_in rules) (packages_in rules) there)
      (has_asked (request_in rules) (packages_in rules) there) (stay (request_in rules) (packages_in rules) there)
      answer.answers

-- names that are asked for
wanted_asked : (rules : Rules) (name : NameText)
    → Contains (names_of (native_in rules) (request_in rules).install) name → IsWanted rules name
wanted_asked rules name in' there answer =
    passes (has (native_in rules) there) (names_of (native_in rules) (request_in rules).install) name
    (parts rules there answer).2 in'

pub asked_at : (old new : Rules) → new ≡ old → (names : List Name)
    → map plain_name names ≡ names_of (native_in old) (request_in old).install → (k : ℕ) (d : Name) → k < length names
    → IsWanted new (plain_name (get_or names k d))
asked_at old new same names is k d lt =
    subst (λ (r : Rules). IsWanted r (plain_name (get_or names k d))) (sym same)
    (wanted_asked old (plain_name (get_or names k d))
    (subst (λ (l : List NameText). Contains l (plain_name (get_or names k d))) is
    (contains_seen plain_name names (get_or names k d) (Contains-get_or names k d lt))))

-- and that of a package that has to stay
pub wanted_stays : (rules : Rules) (one : Package) → Contains rules.packages.now one
    → must_stay (request_in rules) (packages_in rules) (plain_package one) ≡ true
    → IsWanted rules (name_of (native_in rules) (plain_package one))
wanted_stays rules one in' must there answer =
    elim (or_cases _ _ (passes (stays (request_in rules) (packages_in rules) there) (packages_in rules)
    (plain_package one) (parts rules there answer).3
    (contains_seen plain_package rules.packages.now one in'))) [
      | inl may_go ↦ absurd (false≢true (ap not (sym must) ∙ may_go))
      | inr is_there ↦ is_there
    ]

-- and that of a package that is to be kept and has a version among some packages, of answers that keep as much
pub wanted_kept : (few : List PackageText) (rules : Rules) (one : Package) → Contains rules.packages.now one
    → (is_to_be_kept (request_in rules) (packages_in rules) (plain_package one)
    && has (native_in rules) few (name_of (native_in rules) (plain_package one))) ≡ true
    → IsWantedBy rules (IsKeepingMore few rules) (name_of (native_in rules) (plain_package one))
wanted_kept few rules one in' must there keeping =
    elim (or_cases _ _ (passes (λ p. not (is_to_be_kept (request_in rules) (packages_in rules) p
    && has (native_in rules) few (name_of (native_in rules) p)) || has (native_in rules) there
    (name_of (native_in rules) p)) (packages_in rules) (plain_package one) keeping.as_much
    (contains_seen plain_package rules.packages.now one in'))) [
      | inl may_go ↦ absurd (false≢true (ap not (sym must) ∙ may_go))
      | inr is_there ↦ is_there
    ]

-- one of those that are lost among some packages, of answers that keep another
pub another_demand : (few : List PackageText) (rules : Rules) (pool : Ids) (r : Requirement) (sets : List VersionSetId)
    → sets_of (universe_in pool) r ≡ sets → AreOfLost few rules pool (packages_in rules) sets
    → IsDemand rules pool (IsKeepingMore few rules) (record { condition = None; requirement = r })
another_demand few rules pool r sets same lost = (
  refl,
  λ there keeping.
      let native = native_in rules in
      let some = Any-from_list_any (λ p. is_lost (request_in rules) (packages_in rules) few p
      && has native there (name_of native p)) (packages_in rules) keeping.another in
      let both = and_parts _ _ some.4 in
      let found = Any-from_list_any (is_of_name native (name_of native some.1)) there both.1 in
      let set = lost some.1 (some.0, some.2, some.3) both.0 in (
        found.0,
        found.1,
        found.2,
        found.3,
        (
          Whole,
          (
            set.0,
            subst (λ l. Contains l set.0) (sym same) set.1,
            subst (λ (n : NameText). IsSet pool set.0 n Whole) (of_name native (name_of native some.1) found.1 found.4)
                set.2,
          ),
          refl,
        ),
      ),
)

pub package_within : (old new : Rules) → new ≡ old → (k : ℕ) (d : Package) → k < length old.packages.now
    → Contains new.packages.now (get_or old.packages.now k d)
package_within old new same k d lt =
    subst (λ (r : Rules). Contains r.packages.now (get_or old.packages.now k d)) (sym same)
    (Contains-get_or old.packages.now k d lt)

-- AN ARCHIVE WITH ONE MORE

-- with a requirement that each answer has
module _ (old mid : Archive) (grown : IsGrown old mid) (v : Vec ConditionalRequirement Global)
    (c : ConditionalRequirement) (pushed : v.items ≡ mid.requirements.items ++ c ∷ [])
    (demand : IsDemand old.rules mid.reached.pool (IsAnswer old.rules) c) where
  abbrev Demanded : List ConditionalRequirement → Type 0
  Demanded requirements = All (IsDemand mid.rules mid.reached.pool (IsAnswer mid.rules)) requirements

  pub wider_required : IsWider old (record mid { requirements = v })
  wider_required = record {
    rules = grown.rules;
    later = grown.later;
    named = grown.named;
    read = λ read s lt.
        let h : IsRead mid s = (wider_by old mid grown).read read s lt in
        record { one = h.one; is = h.is; needs = h.needs; at = h.at; so = h.so };
    required = λ required.
        subst Demanded (sym pushed) (subst (λ (w : Vec ConditionalRequirement Global). Demanded (w.items ++ c ∷ []))
        (sym grown.requirements)
        (demands_more old mid grown.rules grown.later IsAnswer old.requirements.items c demand required));
  }

-- WHAT KEEPS MORE

module _ (few : List PackageText) where
  -- what each answer has
  pub kept_first : (archive : Archive) (requirements : List ConditionalRequirement)
      → requirements ≡ archive.requirements.items → AreRequired archive → AreKept few archive requirements
  kept_first archive requirements same required =
      subst (AreKept few archive) (sym same) (All-weaker
      (IsDemand archive.rules archive.reached.pool (IsAnswer archive.rules))
      (IsDemand archive.rules archive.reached.pool (IsKeepingMore few archive.rules))
      (λ c demand. (demand.0, λ there keeping. demand.1 there keeping.answer)) archive.requirements.items required)

  pub kept_still : (old new : Archive) → new.rules ≡ old.rules → IsLater old.reached.pool new.reached.pool
      → (requirements : List ConditionalRequirement) → AreKept few old requirements → AreKept few new requirements
  kept_still old new rules later requirements = demands_still old new rules later (IsKeepingMore few) requirements

  -- and one requirement more
  pub kept_more : (old mid : Archive) → IsGrown old mid → (requirements more : List ConditionalRequirement)
      (c : ConditionalRequirement) → more ≡ requirements ++ c ∷ []
      → IsDemand old.rules mid.reached.pool (IsKeepingMore few old.rules) c → AreKept few old requirements
      → AreKept few mid more
  kept_more old mid grown requirements more c pushed demand kept =
      subst (AreKept few mid) (sym pushed)
      (demands_more old mid grown.rules grown.later (IsKeepingMore few) requirements c demand kept)

pub lost_still : (few : List PackageText) (rules : Rules) (pool later : Ids) → IsLater pool later
    → (packages : List PackageText) (sets : List VersionSetId) → AreOfLost few rules pool packages sets
    → AreOfLost few rules later packages sets
lost_still few rules pool later is_later packages sets lost p at is =
    has_set_still pool later is_later sets sets (extended_itself sets) (name_of (native_in rules) p) Whole
    (lost p at is)

-- the lost ones of the packages so far
pub lost_more : (few : List PackageText) (rules now : Rules) → now ≡ rules → (pool later : Ids)
    (sets more : List VersionSetId) (packages : List Package) (i : ℕ) (d : Package) → i < length packages
    → ((name : NameText) → HasSet pool sets name Whole → HasSet later more name Whole)
    → (is_lost (request_in now) (packages_in now) few (plain_package (get_or packages i d)) ≡ true
    → HasSet later more (name_of (native_in now) (plain_package (get_or packages i d))) Whole)
    → AreOfLost few rules pool (map plain_package (take i packages)) sets
    → AreOfLost few rules later (map plain_package (take (i + 1) packages)) more
lost_more few rules now same_rules pool later sets more packages i d lt still found lost p at is =
    let one = subst (λ (r : Rules). is_lost (request_in r) (packages_in r) few (plain_package (get_or packages i d))
    ≡ true → HasSet later more (name_of (native_in r) (plain_package (get_or packages i d))) Whole) same_rules found in
    let all : Contains (map plain_package (take i packages) ++ plain_package (get_or packages i d) ∷ []) p =
    subst (λ l. Contains l p) (ap (map plain_package) (take_more packages i d lt)
    ∙ map-append plain_package (take i packages) (get_or packages i d ∷ [])) at in
    elim (Contains-push_cases (map plain_package (take i packages)) (plain_package (get_or packages i d)) p all) [
      | inl before ↦ still (name_of (native_in rules) p) (lost p before is)
      | inr same ↦ subst (λ q. HasSet later more (name_of (native_in rules) q) Whole) same
          (one (subst (λ q. is_lost (request_in rules) (packages_in rules) few q ≡ true) (sym same) is))
    ]
