-- What is offered stays offered as an archive grows.
use Rattle.std.proofs.Common.{◌≡◌, ◌∙◌, ℕ, ◌<◌, true, List, [], ◌∷◌, ◌++◌, Option, None}
use Rattle.std.proofs.Common.{Some}
use Rattle.std.proofs.Common.{Bor, get_or, length, ap, refl, subst, sym}
use Rattle.std.proofs.lemmas.Bool.{and_parts}
use Rattle.std.proofs.lemmas.List.Elements.{All-weaker}
use Rattle.std.proofs.lemmas.Option.{same_Some, slice_get-get_or, slice_get-map}
use Rattle.debian_directory.proofs.Names.{placed_by_relation}
use Rattle.debian_provider.proofs.Words.{alternatives, architecture_of, Archive, AreNamed, AreSetsHere, Err}
use Rattle.debian_provider.proofs.Words.{HasMoreSets, HasSet, Ids, IfOk, IsAdded, IsExtended, IsGroupOffered, IsGrown}
use Rattle.debian_provider.proofs.Words.{IsItemAt, IsLater, IsOffered, IsOfferedAt, means, name_of, NameText, native_in}
use Rattle.debian_provider.proofs.Words.{Ok, OnOk, option_map, Package, packages_in, PackageText, places_of}
use Rattle.debian_provider.proofs.Words.{plain_package, Reached, relation_of, RelationText, Requirement, Result, Rules}
use Rattle.debian_provider.proofs.Words.{sets_in, SetText, slice_get, VersionSetId}
use Rattle.debian_provider.specs.Sets.{Meeting}
use Rattle.debian_provider.proofs.Growing.{sets_pushed, sets_still}
use Rattle.debian_provider.proofs.Later.{extended_itself, extended_longer, extended_twice, later_itself}
use Rattle.debian_provider.proofs.Later.{later_twice}
use Rattle.debian_provider.proofs.Named.{has_set_still}
use Rattle.debian_provider.proofs.Picks.{among_at}
use Rattle.debian_provider.proofs.Versions.{named_with_sets}

pub grown_itself : (a : Archive) → IsGrown a a
grown_itself a = record {
  rules = refl;
  needs = refl;
  requirements = refl;
  later = later_itself a.reached.pool;
  named = λ named. named;
}

pub grown_twice : (a b c : Archive) → IsGrown a b → IsGrown b c → IsGrown a c
grown_twice a b c h k = record {
  rules = k.rules ∙ h.rules;
  needs = k.needs ∙ h.needs;
  requirements = k.requirements ∙ h.requirements;
  later = later_twice a.reached.pool b.reached.pool c.reached.pool h.later k.later;
  named = λ named. subst (λ (r : Rules). AreNamed r b.reached → AreNamed r c.reached) h.rules k.named (h.named named);
}

pub added_itself : (a : Archive) (sets : List VersionSetId) → IsAdded a a sets sets
added_itself a sets = record { grown = grown_itself a; kept = extended_itself sets; here = λ here. here }

pub added_twice : (a b c : Archive) (sets more all : List VersionSetId) → IsAdded a b sets more → IsAdded b c more all
    → IsAdded a c sets all
added_twice a b c sets more all h k = record {
  grown = grown_twice a b c h.grown k.grown;
  kept = extended_twice sets more all h.kept k.kept;
  here = λ here. k.here (h.here here);
}

-- with more version sets
pub grown_more : (old mid : Archive) (last : Reached) → IsGrown old mid → HasMoreSets mid.reached last
    → IsGrown old (record mid { reached = last })
grown_more old mid last grown more = record {
  rules = grown.rules;
  needs = grown.needs;
  requirements = grown.requirements;
  later = later_twice old.reached.pool mid.reached.pool last.pool grown.later more.later;
  named = λ named. named_with_sets old.rules mid.reached last more (grown.named named);
}

-- a version set is in the pool, and among these or behind them
module _ (old mid : Archive) (last : Reached) (grown : IsGrown old mid) (more : HasMoreSets mid.reached last)
    (sets : List VersionSetId) where
  here_still : AreSetsHere old.reached.pool sets → AreSetsHere last.pool sets
  here_still here = sets_still old.reached.pool last.pool sets
      (extended_longer old.reached.pool.version_sets last.pool.version_sets
      (grown_more old mid last grown more).later.version_sets) here

  pub added_none : IsAdded old (record mid { reached = last }) sets sets
  added_none = record { grown = grown_more old mid last grown more; kept = extended_itself sets; here = here_still }

  pub added_one : (v : VersionSetId) → v.0 < length last.pool.version_sets
      → IsAdded old (record mid { reached = last }) sets (sets ++ v ∷ [])
  added_one v lt = record {
    grown = grown_more old mid last grown more;
    kept = (v ∷ [], refl);
    here = λ here. sets_pushed last.pool sets v (here_still here) lt;
  }

-- OFFERED

module _ (rules : Rules) (p q : Ids) (later : IsLater p q) (sets more : List VersionSetId)
    (kept : IsExtended sets more) where
  at_later : (place : ℕ) (set : SetText) → IsOfferedAt rules p place sets set → IsOfferedAt rules q place more set
  at_later place set h one at holds =
      has_set_still p q later sets more kept (name_of (native_in rules) one) set (h one at holds)

  offered_later : (one : PackageText) (relation : Option RelationText) → IsOffered rules p one sets relation
      → IsOffered rules q one more relation
  offered_later one None h = h
  offered_later one (Some relation) h = λ place. at_later place _ (h place)

module _ (old new : Archive) (grown : IsGrown old new) (sets more : List VersionSetId)
    (kept : IsExtended sets more) where
  pub offered_still : (place : ℕ) (set : SetText) → IsOfferedAt old.rules old.reached.pool place sets set
      → IsOfferedAt new.rules new.reached.pool place more set
  offered_still place set h =
      subst (λ (r : Rules). IsOfferedAt r new.reached.pool place more set) (sym grown.rules)
      (at_later old.rules old.reached.pool new.reached.pool grown.later sets more kept place set h)

  pub relation_offered_still : (one : PackageText) (relation : Option RelationText)
      → IsOffered old.rules old.reached.pool one sets relation → IsOffered new.rules new.reached.pool one more relation
  relation_offered_still one relation h =
      subst (λ (r : Rules). IsOffered r new.reached.pool one more relation) (sym grown.rules)
      (offered_later old.rules old.reached.pool new.reached.pool grown.later sets more kept one relation h)

-- AT A PLACE

pub got_some : {X : Type 0} (xs : List X) (place : ℕ) (x : Bor X) → IsItemAt xs place (Some x)
    → slice_get xs place ≡ Some x.now
got_some xs place x h = slice_get-get_or xs place x.now h.3.0 ∙ ap Some (sym h.1)

module _ (rules : Rules) (place : ℕ) where
  package_at : (one : Package) (p : PackageText) → slice_get rules.packages.now place ≡ Some one
      → slice_get (packages_in rules) place ≡ Some p → plain_package one ≡ p
  package_at one p is at = same_Some _ _
      (sym (slice_get-map plain_package rules.packages.now place ∙ ap (option_map plain_package) is) ∙ at)

  module _ (pool : Ids) (sets : List VersionSetId) (set : SetText) where
    pub offered_more : (one : Package) → slice_get rules.packages.now place ≡ Some one
        → HasSet pool sets (name_of (native_in rules) (plain_package one)) set → IsOfferedAt rules pool place sets set
    offered_more one is h p at holds =
        subst (λ (q : PackageText). HasSet pool sets (name_of (native_in rules) q) set) (package_at one p is at) h

-- A RELATION, AND A GROUP

-- what meets a relation is offered, if it is where the directory has the relation's name
pub meeting_offered : (old last : Archive) → IsGrown old last → (sets : List VersionSetId) (one : PackageText)
    (relation : RelationText) (set : SetText) → set ≡ Meeting relation (architecture_of (native_in old.rules) one)
    → ((k : ℕ) → k < length (places_of old.rules.directory.now relation.name)
    → IsOfferedAt last.rules last.reached.pool (get_or (places_of old.rules.directory.now relation.name) k 0) sets set)
    → IsOffered last.rules last.reached.pool one sets (Some relation)
meeting_offered old last grown sets one relation set is each =
    subst (λ (r : Rules). IsOffered r last.reached.pool one sets (Some relation)) (sym grown.rules) (
    λ place p here holds.
    let rules = old.rules in
    let meets : means relation p ≡ true = (and_parts _ _ holds).1 in
    let found = among_at (places_of rules.directory.now relation.name) place
    (placed_by_relation (packages_in rules) rules.directory.now rules.of_packages place p here relation meets) in
    let at : IsOfferedAt rules last.reached.pool place sets set =
    subst (λ (k : ℕ). IsOfferedAt rules last.reached.pool k sets set) found.is
    (subst (λ (r : Rules). IsOfferedAt r last.reached.pool
    (get_or (places_of rules.directory.now relation.name) found.index 0) sets set) grown.rules
    (each found.index found.within)) in
    subst (λ (s : SetText). IsOfferedAt rules last.reached.pool place sets s) is at p here holds
    )

-- the version sets of a group that has been read are those of its requirement
pub group_offered : (mid last : Archive) → IsGrown mid last → (one : PackageText) (sets : List VersionSetId)
    (found : Option Requirement) → sets_in last.reached.pool found ≡ sets → (group : List ℕ)
    → IsGroupOffered mid.rules mid.reached.pool one sets group
    → IsGroupOffered last.rules last.reached.pool one (sets_in last.reached.pool found) group
group_offered mid last grown one sets found is group h =
    subst (λ (l : List VersionSetId). IsGroupOffered last.rules last.reached.pool one l group) (sym is)
    (All-weaker (λ (part : List ℕ). IsOffered mid.rules mid.reached.pool one sets (relation_of part)) _
    (λ part o. relation_offered_still mid last grown sets sets (extended_itself sets) one (relation_of part) o)
    (alternatives group) h)

-- WHAT A LAST CALL ANSWERS

pub grown_then : {T E : Type 0} (r : Result T E) (a b c : Archive) → IsGrown a b → OnOk r (IsGrown b c)
    → OnOk r (IsGrown a c)
grown_then (Ok t) a b c h k = grown_twice a b c h k
grown_then (Err e) a b c h k = k

pub offered_then : {E : Type 0} (r : Result (Option Requirement) E) (mid last : Archive) (one : PackageText)
    (sets : List VersionSetId) (group : List ℕ) → OnOk r (IsGrown mid last)
    → IfOk r (λ found. sets_in last.reached.pool found ≡ sets)
    → IsGroupOffered mid.rules mid.reached.pool one sets group
    → IfOk r (λ found. IsGroupOffered last.rules last.reached.pool one (sets_in last.reached.pool found) group)
offered_then (Ok found) mid last one sets group grown is h = group_offered mid last grown one sets found is group h
offered_then (Err e) mid last one sets group grown is h = is

pub offered_at_then : {T E : Type 0} (r : Result T E) (old last : Archive) (before sets : List VersionSetId)
    → OnOk r (IsAdded old last before sets) → (place : ℕ) (one : Package)
    → slice_get old.rules.packages.now place ≡ Some one → (name : NameText)
    → name ≡ name_of (native_in old.rules) (plain_package one) → (set : SetText)
    → OnOk r (HasSet last.reached.pool sets name set)
    → OnOk r (IsOfferedAt last.rules last.reached.pool place sets set)
offered_at_then (Ok t) old last before sets added place one is name named set h =
    subst (λ (r : Rules). IsOfferedAt r last.reached.pool place sets set) (sym added.grown.rules)
    (offered_more old.rules place last.reached.pool sets set one is
    (subst (λ (n : NameText). HasSet last.reached.pool sets n set) named h))
offered_at_then (Err e) old last before sets added place one is name named set h = h

-- the same of more
pub on_ok : {T E : Type 0} (r : Result T E) (P Q : Type 0) → (P → Q) → OnOk r P → OnOk r Q
on_ok (Ok t) P Q f p = f p
on_ok (Err e) P Q f p = p

pub ok_any : {T E : Type 0} (r : Result T E) (P : Type 0) → P → OnOk r P
ok_any (Ok t) P p = p
ok_any (Err e) P p = tt
