-- What the tables of places say of requirements when one of them changes.
use Rattle.std.proofs.Common.{◌≡◌, ◌≢◌, ℕ, ◌^◌, List, Option, Some, None, refl, sym, ap, subst}
use Rattle.typed_ids.specs.TotalMaps.{IsUpdate, SameValues}
use Rattle.typed_ids.specs.declared.version_set_id.VersionSetId.{VersionSetId}
use Rattle.typed_ids.specs.declared.version_set_union_id.VersionSetUnionId.{VersionSetUnionId}
use Rattle.providers.specs.declared.requirement.Requirement.{Requirement}
use Rattle.providers.specs.declared.requirement.Requirement.TheVariants.{Single, Union}
use Rattle.providers.specs.RequirementSlots.{Tables, slot_at, SameSlots, place_in}

-- the tables as one
abbrev pub tables : List (Option ℕ) → List (Option ℕ) → Tables
tables sets unions = record { sets = sets; unions = unions }

module _ (sets unions new : List (Option ℕ)) where
  abbrev old : Requirement → Option ℕ
  old = place_in (tables sets unions)

  -- ---- a table of the same places

  pub same_sets : SameSlots (2 ^ 32) (λ (s : VersionSetId). s.0) sets new
      → SameValues old (place_in (tables new unions))
  same_sets same (Single s) = same s
  same_sets same (Union u) = refl

  pub same_unions : SameSlots (2 ^ 32) (λ (u : VersionSetUnionId). u.0) unions new
      → SameValues old (place_in (tables sets new))
  same_unions same (Single s) = refl
  same_unions same (Union u) = same u

  -- ---- a place more in a table

  pub put_set : (s : VersionSetId) (place : Option ℕ)
      → IsUpdate (λ (t : VersionSetId). slot_at (2 ^ 32) sets t.0) s place (λ t. slot_at (2 ^ 32) new t.0)
      → IsUpdate old (Single s) place (place_in (tables new unions))
  put_set s place put = (put.0, others)
    where
      others : (other : Requirement) → other ≢ Single s → place_in (tables new unions) other ≡ old other
      others (Single t) differs = put.1 t (λ same. differs (ap (λ r. Single r) same))
      others (Union u) differs = refl

  pub put_union : (u : VersionSetUnionId) (place : Option ℕ)
      → IsUpdate (λ (t : VersionSetUnionId). slot_at (2 ^ 32) unions t.0) u place (λ t. slot_at (2 ^ 32) new t.0)
      → IsUpdate old (Union u) place (place_in (tables sets new))
  put_union u place put = (put.0, others)
    where
      others : (other : Requirement) → other ≢ Union u → place_in (tables sets new) other ≡ old other
      others (Single s) differs = refl
      others (Union t) differs = put.1 t (λ same. differs (ap (λ r. Union r) same))

-- ---- tables of no places

pub all_none : (sets unions : List (Option ℕ)) → ((s : VersionSetId) → slot_at (2 ^ 32) sets s.0 ≡ None)
    → ((u : VersionSetUnionId) → slot_at (2 ^ 32) unions u.0 ≡ None)
    → (r : Requirement) → place_in (tables sets unions) r ≡ None
all_none sets unions no_set no_union (Single s) = no_set s
all_none sets unions no_set no_union (Union u) = no_union u

-- ---- the same under other names

pub put_at : (old now new : Tables) (r at : Requirement) (slot : Option ℕ) (place : ℕ) → old ≡ now → r ≡ at
    → slot ≡ Some place → IsUpdate (place_in old) at slot (place_in new)
    → IsUpdate (place_in now) r (Some place) (place_in new)
put_at old now new r at slot place represents is holds put =
    subst (λ t. IsUpdate (place_in t) r (Some place) (place_in new)) represents
    (subst (λ q. IsUpdate (place_in old) q (Some place) (place_in new)) (sym is)
    (subst (λ s. IsUpdate (place_in old) at s (place_in new)) holds put))
