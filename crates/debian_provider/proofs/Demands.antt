-- What is demanded of the packages that are there, by the groups of a field.
use Rattle.std.proofs.Common.{◌≡◌, ◌∙◌, ℕ, zero, suc, ◌<◌, ◌==◌, ◌&&◌, not, Bool, true, false, cond, List, [], ◌∷◌}
use Rattle.std.proofs.Common.{◌++◌, Option}
use Rattle.std.proofs.Common.{None, Some, get_or, length, filter, ap, arith, refl, subst, sym}
use Rattle.std.specs.Prelude.{All}
use Rattle.std.proofs.lemmas.Bool.{and_from, and_parts, false≢true}
use Rattle.std.proofs.lemmas.List.Elements.{All-push, All-weaker}
use Rattle.std.proofs.lemmas.List.Folds.{Any-from_list_any}
use Rattle.std.proofs.lemmas.List.Sums.{AllPass-from_list_all}
use Rattle.std.proofs.lemmas.Option.{slice_get-get_or}
use Rattle.debian_provider.proofs.Words.{alternatives, Any, architecture_of, Archive, are_free, are_met}
use Rattle.debian_provider.proofs.Words.{AreFreeFor, AreMetFor, ConditionalRequirement, Contains, Err, groups, Ids}
use Rattle.debian_provider.proofs.Words.{IfOk, is_blank, is_free, is_group_met, is_met, is_met_by, is_served, IsDemand}
use Rattle.debian_provider.proofs.Words.{IsGroupMetFor, IsGroupOffered, IsLater, IsMeant, IsNowhere, IsOffered}
use Rattle.debian_provider.proofs.Words.{IsPartFreeFor, IsThere, list_all, MatchBool, means, native_in, Ok}
use Rattle.debian_provider.proofs.Words.{packages_in, PackageText, relation_of, RelationText, Requirement, Result}
use Rattle.debian_provider.proofs.Words.{Rules, serves, sets_of, Single, slice_get, slice_split}
use Rattle.debian_provider.proofs.Words.{stand_together, Union, universe_in, unwrap_or, VersionSetId}
use Rattle.debian_provider.specs.Sets.{Meeting, has}
use Rattle.debian_provider.proofs.Named.{set_still}
use Rattle.debian_provider.proofs.Versions.{still_at}

-- LISTS

rest_pass : {X : Type 0} (b : Bool) (p : X → Bool) (x : X) (ys : List X) → list_all p (cond b (x ∷ ys) ys) ≡ true
    → list_all p ys ≡ true
rest_pass true p x ys h = (and_parts _ _ h).1
rest_pass false p x ys h = h

-- all that a filter keeps pass a test: so does an element that it keeps
pub passes_at : {X : Type 0} (f p : X → Bool) (xs : List X) (k : ℕ) (d : X) → list_all p (filter f xs) ≡ true
    → k < length xs → f (get_or xs k d) ≡ true → p (get_or xs k d) ≡ true
passes_at f p [] k d h lt holds = absurd (omega arith)
passes_at f p (x ∷ xs) zero d h lt holds =
    (and_parts _ _ (subst (λ (b : Bool). list_all p (cond b (x ∷ filter f xs) (filter f xs)) ≡ true) holds h)).0
passes_at f p (x ∷ xs) (suc k) d h lt holds =
    passes_at f p xs k d (rest_pass (f x) p x (filter f xs) h) (omega arith) holds

pub passes : {X : Type 0} (p : X → Bool) (xs : List X) (x : X) → list_all p xs ≡ true → Contains xs x → p x ≡ true
passes p xs x h in' = subst (λ y. p y ≡ true) in'.2 (AllPass-from_list_all p xs h in'.0 x in'.1)

pub contains_none : {X : Type 0} (x : X) → Contains [] x → ⊥
contains_none x h = absurd (omega (arith, h.1))

-- THE PARTS OF BEING THERE

pub four_parts : (a b c d : Bool) → (a && b && c && d) ≡ true → (a ≡ true) × (b ≡ true) × (c ≡ true) × (d ≡ true)
four_parts true true true true h = (refl, refl, refl, refl)
four_parts true true true false h = cc
four_parts true true false d h = cc
four_parts true false c d h = cc
four_parts false b c d h = cc

module _ (rules : Rules) (one : PackageText) (there : List PackageText) (is : IsThere rules one there) where
  pub standing : stand_together (native_in rules) there ≡ true
  standing = (and_parts _ _ is.installable).0

  served : is_served (native_in rules) there one ≡ true
  served = passes (is_served (native_in rules) there) there one (and_parts _ _ is.installable).1 is.contains

  abbrev Parts : Type 0
  Parts = (are_met (native_in rules) there one one.relations.pre_depends ≡ true)
      × (are_met (native_in rules) there one one.relations.depends ≡ true)
      × (are_free (native_in rules) there one one.relations.conflicts ≡ true)
      × (are_free (native_in rules) there one one.relations.breaks ≡ true)

  pub parts : Parts
  parts = four_parts _ _ _ _ served

-- WHAT MEETS A GROUP IS MEANT

module _ (rules : Rules) (pool : Ids) (one : PackageText) (sets : List VersionSetId) (there : List PackageText)
    (is : IsThere rules one there) where
  relation_meant : (r : Option RelationText) → IsOffered rules pool one sets r
      → is_met (native_in rules) there one r ≡ true → Any (IsMeant rules pool sets) there
  relation_meant None offered h = absurd (false≢true h)
  relation_meant (Some r) offered h =
      let found = Any-from_list_any (is_met_by (native_in rules) one r) there h in
      let q = found.1 in
      let known : Contains (packages_in rules) q =
      subst (Contains (packages_in rules)) found.3 (is.known found.0 q found.2) in
      let at : slice_get (packages_in rules) known.0 ≡ Some q =
      slice_get-get_or (packages_in rules) known.0 q known.1 ∙ ap Some known.2 in
      let met = and_parts (means r q) (serves (native_in rules) one q r.qualifier) found.4 in
      let holds : has (native_in rules) (Meeting r (architecture_of (native_in rules) one)) q ≡ true =
      and_from _ _ met.1 met.0 in (
        found.0,
        q,
        found.2,
        found.3,
        (Meeting r (architecture_of (native_in rules) one), offered known.0 q at holds, holds),
      )

  pub group_meant : (group : List ℕ) → IsGroupOffered rules pool one sets group
      → is_group_met (native_in rules) there one group ≡ true → Any (IsMeant rules pool sets) there
  group_meant group offered h =
      let found = Any-from_list_any (λ part. is_met (native_in rules) there one (relation_of part)) (alternatives group)
      h in
      relation_meant (relation_of found.1)
      (subst (λ (part : List ℕ). IsOffered rules pool one sets (relation_of part)) found.3
      (offered found.0 found.1 found.2)) found.4

module _ (rules : Rules) (pool : Ids) (one : PackageText) (group : List ℕ) (met : (there : List PackageText)
    → IsThere rules one there → is_group_met (native_in rules) there one group ≡ true) where
  pub group_demand : (requirement : Requirement)
      → IsGroupOffered rules pool one (sets_of (universe_in pool) requirement) group
      → IsDemand rules pool (IsThere rules one) (record { condition = None; requirement = requirement })
  group_demand requirement offered = (
    refl,
    λ there is. group_meant rules pool one (sets_of (universe_in pool) requirement) there is group offered
        (met there is),
  )

  pub group_nowhere : IsGroupOffered rules pool one [] group → IsNowhere rules one
  group_nowhere offered there is =
      let found = group_meant rules pool one [] there is group offered (met there is) in
      contains_none found.4.1.0 found.4.1.1

-- DEMANDS STAY

module _ (p q : Ids) (later : IsLater p q) where
  union_later : (v : VersionSetId) (o r : Option (List VersionSetId))
      → ((sets : List VersionSetId) → o ≡ Some sets → r ≡ Some sets) → Contains (unwrap_or o []) v
      → Contains (unwrap_or r []) v
  union_later v None r each h = absurd (contains_none v h)
  union_later v (Some sets) r each h =
      subst (λ (o : Option (List VersionSetId)). Contains (unwrap_or o []) v) (sym (each sets refl)) h

  set_later : (v : VersionSetId) (r : Requirement) → Contains (sets_of (universe_in p) r) v
      → Contains (sets_of (universe_in q) r) v
  set_later v (Single w) h = h
  set_later v (Union u) h = union_later v (slice_get p.unions u.0) (slice_get q.unions u.0)
      (λ sets. still_at p.unions q.unions u.0 sets later.unions) h

  module _ (rules : Rules) where
    meant_later : (r : Requirement) (one : PackageText) → IsMeant rules p (sets_of (universe_in p) r) one
        → IsMeant rules q (sets_of (universe_in q) r) one
    meant_later r one h =
        (h.0, (h.1.0, set_later h.1.0 r h.1.1, set_still p q later h.1.0 _ _ h.1.2), h.2)

    pub demand_later : (IsSuch : List PackageText → Type 0) (c : ConditionalRequirement) → IsDemand rules p IsSuch c
        → IsDemand rules q IsSuch c
    demand_later IsSuch c h = (
      h.0,
      λ there is. let found = h.1 there is in
          (found.0, found.1, found.2, found.3, meant_later c.requirement found.1 found.4),
    )

-- what sets of packages of a kind have, they have in a later archive
module _ (old new : Archive) (rules : new.rules ≡ old.rules) (later : IsLater old.reached.pool new.reached.pool)
    (Such : Rules → List PackageText → Type 0) (requirements : List ConditionalRequirement) where
  abbrev InNew : Rules → List ConditionalRequirement → Type 0
  InNew r more = All (IsDemand r new.reached.pool (Such r)) more

  abbrev InOld : Type 0
  InOld = All (IsDemand old.rules old.reached.pool (Such old.rules)) requirements

  still : InOld → InNew old.rules requirements
  still = All-weaker (IsDemand old.rules old.reached.pool (Such old.rules))
      (IsDemand old.rules new.reached.pool (Such old.rules))
      (demand_later old.reached.pool new.reached.pool later old.rules (Such old.rules)) requirements

  pub demands_still : InOld → InNew new.rules requirements
  demands_still h = subst (λ (r : Rules). InNew r requirements) (sym rules) (still h)

  pub demands_more : (c : ConditionalRequirement) → IsDemand old.rules new.reached.pool (Such old.rules) c → InOld
      → InNew new.rules (requirements ++ c ∷ [])
  demands_more c more h = subst (λ (r : Rules). InNew r (requirements ++ c ∷ [])) (sym rules)
      (All-push (IsDemand old.rules new.reached.pool (Such old.rules)) requirements c (still h) more)

-- THE GROUPS AND PARTS OF A FIELD

not_blank : (text : List ℕ) → is_blank text ≡ false → not (is_blank text) ≡ true
not_blank text fails = ap not fails

-- the part at a place of a field's parts
abbrev pub IsPartAt : List ℕ → ℕ → List ℕ → Type 0
IsPartAt field k part =
    (k < length (slice_split (λ b. b == 44) field)) × (part ≡ get_or (slice_split (λ b. b == 44) field) k part)

part_passes : (p : List ℕ → Bool) (field part : List ℕ) (k : ℕ) → IsPartAt field k part
    → list_all p (groups field) ≡ true → is_blank part ≡ false → p part ≡ true
part_passes p field part k at all fails =
    let parts = slice_split (λ b. b == 44) field in
    ap p at.1 ∙ passes_at (λ part. not (is_blank part)) p parts k part all at.0
    (ap (λ part. not (is_blank part)) (sym at.1) ∙ not_blank part fails)

module _ (rules : Rules) (one : PackageText) (field part : List ℕ) (k : ℕ) (at : IsPartAt field k part) where
  pub group_met_for : AreMetFor rules one field → IsGroupMetFor rules one part
  group_met_for met fails there is =
      part_passes (is_group_met (native_in rules) there one) field part k at (met there is) fails

  pub part_free_for : AreFreeFor rules one field → IsPartFreeFor rules one part
  part_free_for free fails there is =
      part_passes (λ part. is_free (native_in rules) there one (relation_of part)) field part k at (free there is) fails

-- WHAT CAN BE READ

pub readable_then : (readable : Bool) (A B C D : Type 0) → (A → C) → (B → D) → MatchBool readable A B
    → MatchBool readable C D
readable_then true A B C D f g h = f h
readable_then false A B C D f g h = g h

pub if_ok : {T E : Type 0} (r : Result T E) (P Q : T → Type 0) → ((t : T) → P t → Q t) → IfOk r P → IfOk r Q
if_ok (Ok t) P Q f p = f t p
if_ok (Err e) P Q f p = p
