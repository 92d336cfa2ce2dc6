-- If packages are an answer in Debian's words, a request of what such answers have has a solution: of each name the
-- first version that is one of them. So where there is no solution, there is no such answer.
use Rattle.std.proofs.Common.{◌≡◌, ◌∙◌, ◌<◌, ◌==◌, ◌&&◌, ℕ, Bool, true, false, not, List, [], ◌∷◌, Option, None, Some}
use Rattle.std.proofs.Common.{All, Contains, ap, arith, inl, inr, length, refl, subst, sym}
use Rattle.std.specs.Prelude.{Any, option_and_then, option_map, slice_get, unwrap_or}
use Rattle.std.specs.List.{find, list_all, list_any}
use Rattle.std.specs.Option.{option_eq}
use Rattle.std.proofs.lemmas.Bool.{and_from, and_parts, both_ways, cases_lt, eq-eqb, eqb-true, false_from_ne_true}
use Rattle.std.proofs.lemmas.Bool.{lt-ltb, not-true, not_from_false}
use Rattle.std.proofs.lemmas.List.Elements.{All-contains, All-contains_itself, All-head, All-tail, All-weaker}
use Rattle.std.proofs.lemmas.List.Elements.{Contains-append_cases, Contains-append_left, Contains-append_right}
use Rattle.std.proofs.lemmas.List.Elements.{Contains-push}
use Rattle.std.proofs.lemmas.List.Folds.{list_any_none}
use Rattle.std.proofs.lemmas.List.Sums.{list_all-from_AllPass}
use Rattle.std.proofs.lemmas.Option.{none-some, same_Some, slice_get-get_or, slice_get-map, slice_get_past}
use Rattle.debian_scenario.specs.Packages.{PackageText}
use Rattle.debian_scenario.specs.Plain.{plain_package}
use Rattle.debian_scenario.specs.declared.package.Package.{Package}
use Rattle.debian_installable.specs.Installable.{is_installable, is_served, stand_together}
use Rattle.debian_directory.specs.Answers.{NameText, has_asked, is_same, may_all_be_picked, may_be_picked}
use Rattle.debian_directory.specs.Answers.{name_of, stay}
use Rattle.debian_directory.specs.declared.rules.Rules.{Rules}
use Rattle.resolvo_ids.specs.Types.VersionSetId.{VersionSetId}
use Rattle.resolvo_pool.specs.Dependencies.{Needs, Known, Unknown}
use Rattle.resolvo_pool.specs.Functions.{Provider}
use Rattle.resolvo_pool.specs.PoolIds.{set_name_in, solvable_name_in, universe_in}
use Rattle.resolvo_pool.specs.Provider.{Answers, knows_requirement, matching, non_matching, sets_of}
use Rattle.resolvo_pool.specs.Types.ConditionalRequirement.{ConditionalRequirement}
use Rattle.resolvo_pool.specs.Types.Requirement.{Requirement}
use Rattle.resolvo_pool.specs.Types.Requirement.TheVariants.{Single, Union}
use Rattle.resolvo_pool.specs.Types.Solvable.{Solvable}
use Rattle.solutions.specs.Solutions.{AreNeedsSatisfied, IsSatisfied, IsSatisfiedUnder, IsSolution, IsUnsolvable}
use Rattle.solutions.specs.Solutions.{has_picked, is_allowed, is_among, is_respected, is_satisfied}
use Rattle.debian_provider.specs.Answers.{Ids, favored_at, matches_in, needs_at, place_in, set_has, versions_at}
use Rattle.debian_provider.specs.Growing.{IsPlaceOf, IsVersion, native_in, packages_in, request_in}
use Rattle.debian_provider.specs.Meaning.{IsNamed, IsSet, plain_entry}
use Rattle.debian_provider.specs.Needs.{AreNeeds, IsAnswer, IsDemand, IsLimit, IsMeant, IsThere}
use Rattle.debian_provider.specs.Reading.{IsWhole}
use Rattle.debian_provider.specs.Sets.{SetText, has, plain_set}
use Rattle.debian_provider.specs.declared.archive.Archive.{Archive}
use Rattle.debian_provider.specs.declared.set.Set.{Set}
use Rattle.debian_directory.proofs.Elements.{all_of, any_of, filtered, is_head, kept, some_of}
use Rattle.apt_solver.proofs.Changed.{one_there, same_self}
use Rattle.apt_solver.proofs.Firsts.{all_picked, contains_picked, first_is, names_apart, picked_below, some_first}

-- THE PROVIDER

-- what the impls of `Interner` and `DependencyProvider` answer
abbrev pub answers_in : Archive → Answers ℕ ℕ
answers_in archive = record {
  candidates = λ name. versions_at archive.reached.versions.items name;
  matches = λ set s. matches_in archive.rules.request.now.architecture.now archive.reached.pool
      archive.rules.packages.now set s;
  favored = λ name. favored_at archive.favored.items name;
  locked = λ name. None;
  excluded = λ name. [];
  order = λ list. list;
  needs = λ s. needs_at archive.unreadable archive.needs.items s;
}

-- and which ids nothing can be kept by, of which nothing has to be known
abbrev pub provided : (large_name large_solvable large_hint : ℕ → Bool) → Bool → Archive → Provider ℕ ℕ
provided large_name large_solvable large_hint many archive = record {
  same_name = ◌==◌;
  same_solvable = ◌==◌;
  is_large_name = large_name;
  is_large_solvable = large_solvable;
  is_large_hint = large_hint;
  are_names_many = many;
  universe = universe_in archive.reached.pool;
  answers = answers_in archive;
}

-- WHAT IS AT AN ID

none_within : {X : Type 0} (x : X) → Contains [] x → ⊥
none_within x at = absurd (omega (arith, at.1))

seen_within : {X Y : Type 0} (view : X → Y) (xs : List X) (k : ℕ) (y : Y) → option_map view (slice_get xs k) ≡ Some y
    → k < length xs
seen_within view xs k y at =
    elim (cases_lt k (length xs)) [
      | inl lt ↦ lt
      | inr past ↦ absurd (none-some y (sym (ap (option_map view) (slice_get_past xs k past)) ∙ at))
    ]

listed_within : {X Y : Type 0} (view : X → List Y) (xs : List X) (k : ℕ) (y : Y)
    → Contains (unwrap_or (option_map view (slice_get xs k)) []) y → k < length xs
listed_within view xs k y at =
    elim (cases_lt k (length xs)) [
      | inl lt ↦ lt
      | inr past ↦ absurd (none_within y
          (subst (λ o. Contains (unwrap_or (option_map view o) []) y) (slice_get_past xs k past) at))
    ]

itself_within : {X : Type 0} (xs : List (List X)) (k : ℕ) (y : X) → Contains (unwrap_or (slice_get xs k) []) y
    → k < length xs
itself_within xs k y at =
    elim (cases_lt k (length xs)) [
      | inl lt ↦ lt
      | inr past ↦ absurd (none_within y (subst (λ o. Contains (unwrap_or o []) y) (slice_get_past xs k past) at))
    ]

-- the entry of a version set
record Entry (o : Option (ℕ × Set)) (id : ℕ) (set : SetText) : Type 0 where
  name : unwrap_or (option_map (λ (x : ℕ × Set). x.0) o) 0 ≡ id
  value : Set
  is : option_map (λ (x : ℕ × Set). x.1) o ≡ Some value
  plain : plain_set value ≡ set

entry_of : (o : Option (ℕ × Set)) (id : ℕ) (set : SetText) → option_map plain_entry o ≡ Some (id, set) → Entry o id set
entry_of None id set h = absurd (none-some (id, set) h)
entry_of (Some x) id set h =
    let same : plain_entry x ≡ (id, set) = same_Some (plain_entry x) (id, set) h in
    record { name = ap (λ y. y.0) same; value = x.1; is = refl; plain = ap (λ y. y.1) same }

had : (native : List ℕ) (o : Option Package) (one : PackageText) → option_map plain_package o ≡ Some one → (value : Set)
    → set_has native (Some value) o ≡ has native (plain_set value) one
had native None one h value = absurd (none-some one h)
had native (Some p) one h value = ap (has native (plain_set value)) (same_Some (plain_package p) one h)

-- THE PLACES OF AN ANSWER

pub places_of : (packages there : List PackageText) → All (Contains packages) there → List ℕ
places_of packages [] known = []
places_of packages (p ∷ there) known =
    (All-head (Contains packages) p there known).0
    ∷ places_of packages there (All-tail (Contains packages) p there known)

first_place : (packages there : List PackageText) (p : PackageText) (known : All (Contains packages) (p ∷ there))
    → slice_get packages (All-head (Contains packages) p there known).0 ≡ Some p
first_place packages there p known =
    let first = All-head (Contains packages) p there known in
    slice_get-get_or packages first.0 p first.1 ∙ ap Some first.2

place_of : (packages there : List PackageText) (known : All (Contains packages) there) (p : PackageText)
    → Contains there p
    → (place : ℕ) × Contains (places_of packages there known) place × (slice_get packages place ≡ Some p)
unfolding places_of
place_of packages [] known p at = absurd (none_within p at)
place_of packages (q ∷ there) known p at =
    let first = All-head (Contains packages) q there known in
    let others = All-tail (Contains packages) q there known in
    elim (Contains-append_cases (q ∷ []) there p at) [
      | inl here ↦ (
        first.0,
        Contains-append_left (first.0 ∷ []) (places_of packages there others) first.0 (Contains-push [] first.0),
        first_place packages there q known ∙ ap Some (is_head q p here),
      )
      | inr behind ↦
          let found = place_of packages there others p behind in
          (found.0, Contains-append_right (first.0 ∷ []) (places_of packages there others) found.0 found.1, found.2)
    ]

one_at : (packages there : List PackageText) (known : All (Contains packages) there) (place : ℕ) (p : PackageText)
    → Contains (places_of packages there known) place → slice_get packages place ≡ Some p → Contains there p
unfolding places_of
one_at packages [] known place p at is = absurd (none_within place at)
one_at packages (q ∷ there) known place p at is =
    let first = All-head (Contains packages) q there known in
    let others = All-tail (Contains packages) q there known in
    elim (Contains-append_cases (first.0 ∷ []) (places_of packages there others) place at) [
      | inl here ↦
          let same : q ≡ p = same_Some q p (sym (first_place packages there q known)
          ∙ ap (slice_get packages) (is_head first.0 place here) ∙ is) in
          subst (λ z. Contains (q ∷ there) z) same (Contains-append_left (q ∷ []) there q (Contains-push [] q))
      | inr behind ↦ Contains-append_right (q ∷ []) there p (one_at packages there others place p behind is)
    ]

four_parts : (a b c d : Bool) → (a && b && c && d) ≡ true → (a ≡ true) × (b ≡ true) × (c ≡ true) × (d ≡ true)
four_parts a b c d all =
    let last = and_parts (a && b && c) d all in
    let third = and_parts (a && b) c last.0 in
    let second = and_parts a b third.0 in
    (second.0, second.1, third.1, last.1)

-- A WHOLE ARCHIVE AND AN ANSWER

module _ (large_name large_solvable large_hint : ℕ → Bool) (many : Bool) (archive : Archive) (whole : IsWhole archive)
    (there : List PackageText) (is : IsAnswer archive.rules there) where
  abbrev rules : Rules
  rules = archive.rules

  abbrev pool : Ids
  pool = archive.reached.pool

  abbrev native : List ℕ
  native = native_in archive.rules

  abbrev packages : List PackageText
  packages = packages_in archive.rules

  abbrev versions : ℕ → List ℕ
  versions name = versions_at archive.reached.versions.items name

  abbrev p : Provider ℕ ℕ
  p = provided large_name large_solvable large_hint many archive

  Parts : Type 0
  Parts = (is_installable native there ≡ true) × (may_all_be_picked (request_in rules) packages there ≡ true)
      × (has_asked (request_in rules) packages there ≡ true) × (stay (request_in rules) packages there ≡ true)

  parts : Parts
  unfolding Parts
  parts = four_parts (is_installable native there) (may_all_be_picked (request_in rules) packages there)
      (has_asked (request_in rules) packages there) (stay (request_in rules) packages there) is.answers

  installable : is_installable native there ≡ true
  unfolding Parts
  installable = parts.0

  stand : stand_together native there ≡ true
  stand = (and_parts (stand_together native there) (list_all (is_served native there) there) installable).0

  pickable : (q : PackageText) → Contains there q → may_be_picked (request_in rules) packages q ≡ true
  unfolding Parts
  pickable q at = all_of (may_be_picked (request_in rules) packages) there q parts.1 at

  -- ---- which version is picked of a name
  abbrev is_at : ℕ → ℕ → Bool
  is_at s place = option_eq ◌==◌ (place_in pool s) (Some place)

  abbrev is_in : ℕ → Bool
  is_in s = list_any (is_at s) (places_of packages there is.known)

  abbrev pick : ℕ → Option ℕ
  pick name = find is_in (versions name)

  abbrev chosen : List ℕ
  chosen = picked_below pick (length archive.reached.versions.items)

  at_place : (s place : ℕ) → place_in pool s ≡ Some place → Contains (places_of packages there is.known) place
      → is_in s ≡ true
  at_place s place is_placed at =
      any_of (is_at s) (places_of packages there is.known) place at
      (ap (λ o. option_eq ◌==◌ o (Some place)) is_placed ∙ eq-eqb place place refl)

  in_places : (s place : ℕ) → place_in pool s ≡ Some place → is_in s ≡ true
      → Contains (places_of packages there is.known) place
  in_places s place is_placed so =
      let some = some_of (is_at s) (places_of packages there is.known) so in
      let same : place ≡ some.0 = eqb-true place some.0
      (sym (ap (λ o. option_eq ◌==◌ o (Some some.0)) is_placed) ∙ some.2) in
      subst (Contains (places_of packages there is.known)) (sym same) some.1

  -- a version that is picked, and its package
  record IsPicked (name s : ℕ) : Type 0 where
    listed : Contains (versions name) s
    within : name < length archive.reached.versions.items
    version : IsVersion rules pool name s
    contains : Contains there version.one

  picked_is : (name s : ℕ) → pick name ≡ Some s → IsPicked name s
  picked_is name s picked =
      let found = first_is is_in (versions name) s picked in
      let within = listed_within (λ v. v.items) archive.reached.versions.items name s found.0 in
      let version = All-contains (IsVersion rules pool name) (versions name) s (whole.named.each name within) found.0 in
      record {
        listed = found.0;
        within = within;
        version = version;
        contains = one_at packages there is.known version.place version.one
            (in_places s version.place version.at found.1) version.is;
      }

  -- of the name of a package that is there a version is picked, and it is this package
  pick_of : (name : ℕ) (q : PackageText) → Contains there q → IsNamed pool name (name_of native q)
      → (s : ℕ) × (pick name ≡ Some s)
  pick_of name q at named =
      let placed = place_of packages there is.known q at in
      let of_name : IsPlaceOf rules (name_of native q) placed.0 =
      record { one = q; at = placed.2; named = refl; pickable = pickable q at } in
      let some = whole.named.all name (name_of native q) named placed.0 of_name in
      some_first is_in (versions name) some.1 (some.0, some.2, some.3) (at_place some.1 placed.0 some.4 placed.1)

  same_one : (name s : ℕ) (q : PackageText) → Contains there q → IsNamed pool name (name_of native q)
      → (picked : IsPicked name s) → picked.version.one ≡ q
  same_one name s q at named picked =
      let one = picked.version.one in
      let names : name_of native one ≡ name_of native q =
      same_Some (name_of native one) (name_of native q) (sym picked.version.named ∙ named) in
      one_there native there one q stand picked.contains at
      (sym (ap (is_same (name_of native one)) names) ∙ same_self (name_of native one))

  -- ---- what is picked
  abbrev has_one : ℕ → Bool
  has_one = is_among p chosen

  among : (name s : ℕ) → pick name ≡ Some s → has_one s ≡ true
  among name s picked =
      any_of (◌==◌ s) chosen s
      (contains_picked pick (length archive.reached.versions.items) name s (picked_is name s picked).within picked)
      (eq-eqb s s refl)

  abbrev IsOfOne : ℕ → Type 0
  IsOfOne s = (name : ℕ) × (pick name ≡ Some s)

  one_of : (s : ℕ) → has_one s ≡ true → IsOfOne s
  one_of s so =
      let some = some_of (◌==◌ s) chosen so in
      subst IsOfOne (sym (eqb-true s some.0 some.2))
      (All-contains IsOfOne chosen some.0
      (all_picked pick IsOfOne (λ name t picked. (name, picked)) (length archive.reached.versions.items)) some.1)

  -- ---- version sets
  knows_set : (v : VersionSetId) (name : NameText) (set : SetText) → IsSet pool v name set
      → p.universe.knows_set v ≡ true
  knows_set v name set h = lt-ltb _ _ (seen_within plain_entry pool.version_sets v.0 (h.id, set) h.entry)

  matched : (v : VersionSetId) (name : NameText) (set : SetText) → IsSet pool v name set → (id s : ℕ)
      → (version : IsVersion rules pool id s) → p.answers.matches v s ≡ has native set version.one
  matched v name set h id s version =
      let entry = entry_of (slice_get pool.version_sets v.0) h.id set h.entry in
      let seen : option_map plain_package (slice_get rules.packages.now version.place) ≡ Some version.one =
      sym (slice_get-map plain_package rules.packages.now version.place) ∙ version.is in
      ap (λ o. set_has native o (option_and_then (slice_get rules.packages.now) (place_in pool s))) entry.is
      ∙ ap (λ o. set_has native (Some entry.value) (option_and_then (slice_get rules.packages.now) o)) version.at
      ∙ had native (slice_get rules.packages.now version.place) version.one seen entry.value
      ∙ ap (λ (t : SetText). has native t version.one) entry.plain

  named_by : (v : VersionSetId) (name : NameText) (set : SetText) → (h : IsSet pool v name set)
      → set_name_in pool v ≡ h.id
  named_by v name set h = (entry_of (slice_get pool.version_sets v.0) h.id set h.entry).name

  held : (v : VersionSetId) (q : PackageText) (set : SetText) → Contains there q
      → IsSet pool v (name_of native q) set → has native set q ≡ true → has_picked p has_one v ≡ true
  held v q set at h has_it =
      let found = pick_of h.id q at h.named in
      let picked = picked_is h.id found.0 found.1 in
      let listed : Contains (versions (set_name_in pool v)) found.0 =
      subst (λ n. Contains (versions n) found.0) (sym (named_by v (name_of native q) set h)) picked.listed in
      let matches : p.answers.matches v found.0 ≡ true =
      matched v (name_of native q) set h h.id found.0 picked.version
      ∙ ap (has native set) (same_one h.id found.0 q at h.named picked) ∙ has_it in
      and_from (p.universe.knows_set v) (list_any has_one (matching p.universe p.answers v))
      (knows_set v (name_of native q) set h)
      (any_of has_one (matching p.universe p.answers v) found.0
      (kept (p.answers.matches v) (versions (set_name_in pool v)) found.0 listed matches)
      (among h.id found.0 found.1))

  -- ---- requirements
  knows : (r : Requirement) (v : VersionSetId) (name : NameText) (set : SetText)
      → Contains (sets_of p.universe r) v → IsSet pool v name set → knows_requirement p.universe r ≡ true
  knows (Single w) v name set at h =
      subst (λ (u : VersionSetId). p.universe.knows_set u ≡ true) (sym (is_head w v at)) (knows_set v name set h)
  knows (Union u) v name set at h = lt-ltb _ _ (itself_within pool.unions u.0 v at)

  satisfied : (r : Requirement) → Any (IsMeant rules pool (sets_of (universe_in pool) r)) there
      → is_satisfied p has_one r ≡ true
  satisfied r any =
      let meant = any.4 in
      let at : Contains there any.1 = (any.0, any.2, any.3) in
      let v = meant.1.0 in
      and_from (knows_requirement p.universe r) (list_any (has_picked p has_one) (sets_of p.universe r))
      (knows r v (name_of native any.1) meant.0 meant.1.1 meant.1.2)
      (any_of (has_picked p has_one) (sets_of p.universe r) v meant.1.1
      (held v any.1 meant.0 at meant.1.2 meant.2))

  demand_met : (IsSuch : List PackageText → Type 0) → IsSuch there → (c : ConditionalRequirement)
      → IsDemand rules pool IsSuch c → IsSatisfied p has_one c
  demand_met IsSuch such c demand =
      subst (λ o. IsSatisfiedUnder p has_one o c.requirement) (sym demand.0)
      (satisfied c.requirement (demand.1 there such))

  -- ---- limits
  respected : (one : PackageText) → IsThere rules one there → (v : VersionSetId) → IsLimit rules pool one v
      → is_respected p has_one v ≡ true
  respected one is_there v limit =
      let h = limit.2 in
      let name_is = named_by v limit.0 limit.1 h in
      let none : (s : ℕ) → Contains (non_matching p.universe p.answers v) s → has_one s ≡ true → ⊥ =
      λ s other so.
      let outside = filtered (λ t. not (p.answers.matches v t)) (versions (set_name_in pool v)) s other in
      let of_one = one_of s so in
      let picked = picked_is of_one.0 s of_one.1 in
      let listed : Contains (versions h.id) s = subst (λ n. Contains (versions n) s) name_is outside.0 in
      let within = listed_within (λ x. x.items) archive.reached.versions.items h.id s listed in
      let version = All-contains (IsVersion rules pool h.id) (versions h.id) s (whole.named.each h.id within) listed in
      let same : of_one.0 ≡ h.id = sym picked.version.is_of ∙ version.is_of in
      let named : name_of native picked.version.one ≡ limit.0 =
      same_Some (name_of native picked.version.one) limit.0
      (sym (subst (λ n. IsNamed pool n (name_of native picked.version.one)) same picked.version.named) ∙ h.named) in
      let spared = limit.3 there is_there picked.version.one picked.contains named in
      both_ways (p.answers.matches v s) (not-true (p.answers.matches v s) outside.1)
      (matched v limit.0 limit.1 h of_one.0 s picked.version ∙ spared) in
      and_from (p.universe.knows_set v) (not (list_any has_one (non_matching p.universe p.answers v)))
      (knows_set v limit.0 limit.1 h)
      (not_from_false (list_any has_one (non_matching p.universe p.answers v))
      (list_any_none has_one (non_matching p.universe p.answers v)
      (All-weaker (Contains (non_matching p.universe p.answers v)) (λ s. has_one s ≡ false)
      (λ s other. false_from_ne_true (has_one s) (none s other)) (non_matching p.universe p.answers v)
      (All-contains_itself (non_matching p.universe p.answers v)))))

  -- ---- needs
  needs_met : (one : PackageText) → IsThere rules one there → (needs : Needs) → AreNeeds rules pool one needs
      → AreNeedsSatisfied p has_one needs
  needs_met one is_there (Known requirements constrains) h = (
    All-weaker (IsDemand rules pool (IsThere rules one)) (IsSatisfied p has_one)
        (demand_met (IsThere rules one) is_there) requirements h.0,
    list_all-from_AllPass (is_respected p has_one) constrains
        (All-weaker (IsLimit rules pool one) (λ v. is_respected p has_one v ≡ true) (respected one is_there) constrains
        h.1),
  )
  needs_met one is_there (Unknown reason) h = absurd (h there is_there)

  picked_needs : (name s : ℕ) → pick name ≡ Some s → AreNeedsSatisfied p has_one (p.answers.needs s)
  picked_needs name s at =
      let picked = picked_is name s at in
      let version = picked.version in
      let within = seen_within (λ (x : Solvable ℕ). x.payload) pool.solvables s version.place version.at in
      let read = whole.read s (omega (arith, within, whole.closed)) in
      let found : slice_get rules.packages.now version.place ≡ Some read.one =
      sym (ap (option_and_then (slice_get rules.packages.now)) version.at) ∙ read.is in
      let same : plain_package read.one ≡ version.one =
      same_Some (plain_package read.one) version.one
      (sym (slice_get-map plain_package rules.packages.now version.place ∙ ap (option_map plain_package) found)
      ∙ version.is) in
      let is_there : IsThere rules (plain_package read.one) there =
      record {
        known = is.known;
        installable = installable;
        contains = subst (Contains there) (sym same) picked.contains;
      } in
      subst (AreNeedsSatisfied p has_one) (sym (ap (λ o. unwrap_or o (Unknown archive.unreadable)) read.at))
      (needs_met (plain_package read.one) is_there read.needs read.so)

  -- ---- the solution
  picked_known : (name s : ℕ) → pick name ≡ Some s → p.universe.knows_solvable s ≡ true
  picked_known name s at =
      let version = (picked_is name s at).version in
      lt-ltb _ _ (seen_within (λ (x : Solvable ℕ). x.payload) pool.solvables s version.place version.at)

  picked_allowed : (name s : ℕ) → pick name ≡ Some s → is_allowed p s ≡ true
  picked_allowed name s at =
      let picked = picked_is name s at in
      let listed : Contains (versions (solvable_name_in pool s)) s =
      subst (λ n. Contains (versions n) s) (sym picked.version.is_of) picked.listed in
      and_from (is_among p (versions (solvable_name_in pool s)) s) true
      (any_of (◌==◌ s) (versions (solvable_name_in pool s)) s listed (eq-eqb s s refl)) refl

  -- what such packages have is met
  module _ (IsSuch : List PackageText → Type 0) (such : IsSuch there) (requested : List ConditionalRequirement)
      (demands : All (IsDemand rules pool IsSuch) requested) where
    pub solution : IsSolution p requested chosen
    solution =
        let count = length archive.reached.versions.items in
        record {
          known = all_picked pick (λ s. p.universe.knows_solvable s ≡ true) picked_known count;
          allowed = all_picked pick (λ s. is_allowed p s ≡ true) picked_allowed count;
          one_a_package = names_apart pick (solvable_name_in pool)
              (λ name s at. (picked_is name s at).version.is_of) count;
          satisfied = All-weaker (IsDemand rules pool IsSuch) (IsSatisfied p has_one) (demand_met IsSuch such) requested
              demands;
          needs_satisfied = all_picked pick (λ s. AreNeedsSatisfied p has_one (p.answers.needs s)) picked_needs count;
        }

-- where what some answers have has no solution, there are no such answers
module _ (large_name large_solvable large_hint : ℕ → Bool) (many : Bool) (archive : Archive) (whole : IsWhole archive)
    (IsSuch : List PackageText → Type 0) (answers : (there : List PackageText) → IsSuch there
    → IsAnswer archive.rules there) (requested : List ConditionalRequirement)
    (demands : All (IsDemand archive.rules archive.reached.pool IsSuch) requested) where
  pub no_such : IsUnsolvable (provided large_name large_solvable large_hint many archive) requested
      → (there : List PackageText) → IsSuch there → ⊥
  no_such none there such =
      none (chosen large_name large_solvable large_hint many archive whole there (answers there such))
      (solution large_name large_solvable large_hint many archive whole there (answers there such) IsSuch such requested
      demands)
