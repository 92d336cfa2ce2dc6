-- More version sets and texts, and the same names.
use Rattle.std.proofs.Common.{◌≡◌, ◌∙◌, ℕ, Bool, List, [], ◌∷◌, ◌++◌, Some, ap, length, refl, subst, sym}
use Rattle.debian_provider.proofs.Words.{HasMoreSets, Ids, IsLater, Reached, Set, slice_get, VersionSetId, with_string}
use Rattle.debian_provider.proofs.Words.{with_union, with_version_set}
use Rattle.debian_provider.proofs.Later.{later_itself, later_with_string, later_with_union, later_with_version_set}

module _ (old new : Reached) (versions : new.versions ≡ old.versions) where
  more_by : (p : Ids) → IsLater old.pool p → p.names ≡ old.pool.names → new.pool ≡ p → HasMoreSets old new
  more_by p later names is = record {
    later = subst (IsLater old.pool) (sym is) later;
    names = ap (λ (q : Ids). q.names) is ∙ names;
    versions = versions;
  }

  pub more_none : new.pool ≡ old.pool → HasMoreSets old new
  more_none is = more_by old.pool (later_itself old.pool) refl is

  pub more_by_string : (text : List ℕ) → new.pool ≡ with_string old.pool text → HasMoreSets old new
  more_by_string text is = more_by (with_string old.pool text) (later_with_string old.pool text) refl is

  pub more_by_set : (same : Set → Set → Bool) (name : ℕ) (set : Set) → new.pool ≡ with_version_set old.pool same
      name set
      → HasMoreSets old new
  more_by_set same name set is =
      more_by (with_version_set old.pool same name set) (later_with_version_set old.pool same name set) refl is

  pub more_by_union : (sets : List VersionSetId) → new.pool ≡ with_union old.pool sets → HasMoreSets old new
  more_by_union sets is = more_by (with_union old.pool sets) (later_with_union old.pool sets) refl is

-- what is pushed stands behind all others
pub at_end : {X : Type 0} (xs : List X) (x : X) → slice_get (xs ++ x ∷ []) (length xs) ≡ Some x
at_end [] x = refl
at_end (y ∷ xs) x = at_end xs x
