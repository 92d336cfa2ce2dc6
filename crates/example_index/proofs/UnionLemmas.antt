-- The union of version sets that came into a pool.
use Rattle.std.proofs.Common.{◌≡◌, ◌∙◌, ℕ, List, [], ◌∷◌, ◌++◌, length, map, Some, refl, ap, sym, subst}
use Rattle.example_index.proofs.Words.{AllZip, IsLater, IsSet, Lists, SetText, slice_get, String, string_bytes}
use Rattle.example_index.proofs.Words.{VersionRange, VersionSetId, VersionSetUnionId, with_bytes, with_union}
use Rattle.example_index.proofs.Later.{at_end, extended_itself, sets_still}

module _ {A : Type 0} (pool after : Lists (String A) VersionRange ℕ) where
  later_union : (ids : List VersionSetId) → IsLater (with_bytes pool) (with_bytes (with_union pool ids))
  later_union ids = record {
    strings = extended_itself pool.strings;
    names = extended_itself (map string_bytes pool.names);
    solvables = extended_itself pool.solvables;
    version_sets = extended_itself pool.version_sets;
    unions = (ids ∷ [], refl);
    conditions = extended_itself pool.conditions;
  }

  pub union_made : (u : VersionSetUnionId) (first : VersionSetId) (others : List VersionSetId) (set : SetText)
      (sets : List SetText)
      → after ≡ with_union pool (first ∷ others) → u.0 ≡ length pool.unions → IsSet (with_bytes pool) first set
      → AllZip (IsSet (with_bytes pool)) others sets
      → (ids : List VersionSetId) × (slice_get after.unions u.0 ≡ Some ids) × AllZip (IsSet (with_bytes after)) ids
      (set ∷ sets)
  union_made u first others set sets is at h k = (
    first ∷ others,
    ap (λ p. slice_get p.unions u.0) is ∙ ap (slice_get (pool.unions ++ (first ∷ others) ∷ [])) at ∙ at_end
        pool.unions (first ∷ others),
    subst (λ p. AllZip (IsSet (with_bytes p)) (first ∷ others) (set ∷ sets)) (sym is)
        (sets_still (with_bytes pool) (with_bytes (with_union pool (first ∷ others))) (later_union (first ∷ others))
        (first ∷ others) (set ∷ sets) (h, k)),
  )
