-- A package that a relation may mean is under the relation's name.
use Rattle.std.proofs.Common.{◌≡◌, ℕ, zero, suc, ◌==◌, not, Bool, true, List, [], ◌∷◌, Option, None, Some, filter}
use Rattle.std.proofs.Common.{inl, inr, subst, sym, take}
use Rattle.std.specs.Prelude.{slice_get}
use Rattle.std.specs.List.{list_any, slice_split}
use Rattle.std.specs.Str.{bytes_eq}
use Rattle.std.proofs.lemmas.Bool.{and_parts, cond_both, or_cases, or_left, or_right}
use Rattle.std.proofs.lemmas.Slice.Eq.{bytes_eq-Decides}
use Rattle.debian_text.specs.Relations.{RelationText, relation_of}
use Rattle.debian_scenario.specs.Packages.{PackageText}
use Rattle.debian_installable.specs.Fields.{is_blank}
use Rattle.debian_installable.specs.Installable.{is_meant, means}
use Rattle.debian_installable.specs.Installable as meaning
use Rattle.debian_directory.specs.Directory.{has_name, is_placed, is_provided, IsDirectoryOf}
use Rattle.debian_directory.specs.declared.directory.Directory.{Directory}

list_any-filter : {X : Type 0} (f p q : X → Bool) → ((x : X) → p x ≡ true → q x ≡ true) → (xs : List X) →
    list_any p (filter f xs) ≡ true → list_any q xs ≡ true
list_any-filter f p q each [] h = h
list_any-filter f p q each (x ∷ xs) h =
    let rest : list_any p (filter f xs) ≡ true → list_any q (x ∷ xs) ≡ true =
    λ e. or_right (q x) (list_any q xs) (list_any-filter f p q each xs e) in
    cond_both (f x) (x ∷ filter f xs) (filter f xs) (λ ys. list_any p ys ≡ true → list_any q (x ∷ xs) ≡ true)
    (λ _ e. elim (or_cases (p x) (list_any p (filter f xs)) e) [
      | inl d ↦
          or_left (q x) (list_any q xs) (each x d)
      | inr d ↦ rest d
    ])
    (λ _ e. rest e) h

is_meant-name : (r : RelationText) (said : Option RelationText) → is_meant r said ≡ true → has_name r.name said ≡ true
is_meant-name r None h = h
is_meant-name r (Some said) h = (and_parts _ _ h).0

is_provided-name : (r : RelationText) (field : List ℕ) → meaning.is_provided r field ≡ true →
    is_provided r.name field ≡ true
is_provided-name r field h =
    list_any-filter (λ part. not (is_blank part)) (λ part. is_meant r (relation_of part))
    (λ part. has_name r.name (relation_of part))
    (λ part e. is_meant-name r (relation_of part) e) (slice_split (λ b. b == 44) field) h

module _ (packages : List PackageText) (directory : Directory) (of : IsDirectoryOf packages directory) (place : ℕ)
    (p : PackageText) (at : slice_get packages place ≡ Some p) where
  pub placed_by_name : (name : List ℕ) → bytes_eq name p.identity.name ≡ true → is_placed directory name place ≡ true
  placed_by_name name e =
      subst (λ n. is_placed directory n place ≡ true) (sym ((bytes_eq-Decides name p.identity.name).0 e))
      (of.named place p at)

  pub placed_by_relation : (r : RelationText) → means r p ≡ true → is_placed directory r.name place ≡ true
  placed_by_relation r h = elim (or_cases _ _ h) [
    | inl e ↦ placed_by_name r.name (and_parts _ _ e).0
    | inr e ↦ of.provided place p at r.name (is_provided-name r p.relations.provides e)
  ]

slice_get-first : (packages : List PackageText) (count place : ℕ) (p : PackageText) →
    slice_get (take count packages) place ≡ Some p → slice_get packages place ≡ Some p
slice_get-first [] zero place p h = h
slice_get-first [] (suc count) place p h = h
slice_get-first (q ∷ packages) zero place p h = let bad : None ≡ Some p = h in cc
slice_get-first (q ∷ packages) (suc count) zero p h = h
slice_get-first (q ∷ packages) (suc count) (suc place) p h = slice_get-first packages count place p h

-- a directory of packages is one of the first of them
pub of_first : (packages : List PackageText) (directory : Directory) (count : ℕ) → IsDirectoryOf packages directory →
    IsDirectoryOf (take count packages) directory
of_first packages directory count of = record {
  named = λ place p at. of.named place p (slice_get-first packages count place p at);
  provided = λ place p at. of.provided place p (slice_get-first packages count place p at);
}
