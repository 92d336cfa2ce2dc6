-- Once apt has done what an answer says, what is installed is what is to be there.
use Rattle.std.proofs.Common.{◌≡◌, ◌∙◌, ◌↔◌, ◌&&◌, ◌||◌, Bool, true, false, not, List, [], ◌∷◌}
use Rattle.std.proofs.Common.{ℕ, All, Contains, ap, arith, filter, inl, inr, refl, subst, sym}
use Rattle.std.specs.List.{list_all}
use Rattle.std.specs.Str.{bytes_eq}
use Rattle.std.proofs.lemmas.Bool.{and_from, and_parts, both_ways, cases_Bool}
use Rattle.std.proofs.lemmas.List.Elements.{All-contains, Contains-append_cases}
use Rattle.std.proofs.lemmas.List.Elements.{Contains-append_left, Contains-append_right}
use Rattle.std.proofs.lemmas.Slice.Eq.{bytes_eq-Decides}
use Rattle.debian_scenario.specs.Packages.{PackageText}
use Rattle.debian_installable.specs.Installable.{may_stand_beside, stand_together}
use Rattle.debian_directory.proofs.Elements.{all_of, any_of, filtered, is_head, kept, some_of}
use Rattle.debian_directory.specs.Answers.{NameText, has, is_of_name, is_same, name_of}
use Rattle.apt_solver.specs.Changes.{AreOneVersion, changed, is_left}
use Rattle.apt_solver.specs.Difference.{is_new}

-- TESTS

not_true : (b : Bool) → not b ≡ true → b ≡ false
not_true true not_so = absurd (both_ways false refl not_so)
not_true false not_so = refl

not_false : (b : Bool) → (b ≡ true → ⊥) → not b ≡ true
not_false true not_so = absurd (not_so refl)
not_false false not_so = refl

-- NAMES

clash_of : (name architecture other : Bool) → (not name || (other && not architecture)) ≡ true
    → (name && architecture) ≡ true → ⊥
clash_of true true true apart same = both_ways false refl apart
clash_of true true false apart same = both_ways false refl apart
clash_of true false other apart same = both_ways false refl same
clash_of false architecture other apart same = both_ways false refl same

same_again : (xs ys : List ℕ) → bytes_eq xs ys ≡ true → bytes_eq ys xs ≡ true
same_again xs ys same = (bytes_eq-Decides ys xs).1 (sym ((bytes_eq-Decides xs ys).0 same))

pub same_self : (a : NameText) → is_same a a ≡ true
same_self a =
    and_from (bytes_eq a.name a.name) (bytes_eq a.architecture a.architecture) ((bytes_eq-Decides a.name a.name).1 refl)
    ((bytes_eq-Decides a.architecture a.architecture).1 refl)

same_sym : (a b : NameText) → is_same a b ≡ true → is_same b a ≡ true
same_sym a b same =
    let parts = and_parts (bytes_eq a.name b.name) (bytes_eq a.architecture b.architecture) same in
    and_from (bytes_eq b.name a.name) (bytes_eq b.architecture a.architecture) (same_again a.name b.name parts.0)
    (same_again a.architecture b.architecture parts.1)

-- PACKAGES

module _ (native : List ℕ) where
  clash : (p q : PackageText) → may_stand_beside native p q ≡ true
      → is_same (name_of native p) (name_of native q) ≡ true → ⊥
  clash p q apart same = clash_of _ _ _ apart same

  beside : (p y : PackageText) (rest : List PackageText) (q : PackageText) → y ≡ p
      → list_all (may_stand_beside native y) rest ≡ true → Contains rest q
      → is_same (name_of native p) (name_of native q) ≡ true → ⊥
  beside p y rest q is all at same =
      clash p q (all_of (may_stand_beside native p) rest q
      (subst (λ (z : PackageText). list_all (may_stand_beside native z) rest ≡ true) is all) at) same

  -- of one name one package is there
  pub one_there : (there : List PackageText) (p q : PackageText) → stand_together native there ≡ true → Contains there p
      → Contains there q → is_same (name_of native p) (name_of native q) ≡ true → p ≡ q
  one_there [] p q stand at other same = absurd (omega (arith, at.1))
  one_there (y ∷ rest) p q stand at other same =
      let parts = and_parts (list_all (may_stand_beside native y) rest) (stand_together native rest) stand in
      elim (Contains-append_cases (y ∷ []) rest p at) [
        | inl first ↦ elim (Contains-append_cases (y ∷ []) rest q other) [
          | inl second ↦ sym (is_head y p first) ∙ is_head y q second
          | inr second ↦ absurd (beside p y rest q (is_head y p first) parts.0 second same)
        ]
        | inr first ↦ elim (Contains-append_cases (y ∷ []) rest q other) [
          | inl second ↦ absurd (beside q y rest p (is_head y q second) parts.0 first
              (same_sym (name_of native p) (name_of native q) same))
          | inr second ↦ one_there rest p q parts.1 first second same
        ]
      ]

  module _ (packages there : List PackageText) (one : AreOneVersion native packages)
      (known : All (Contains packages) there) (stand : stand_together native there ≡ true) where
    -- of a name that has no new version the version that is there is the installed one
    installed_there : (p q : PackageText) → Contains packages p → p.state.is_installed ≡ true
        → has native (filter is_new there) (name_of native p) ≡ false → Contains there q
        → is_same (name_of native p) (name_of native q) ≡ true → Contains there p
    installed_there p q at installed none other same =
        elim (cases_Bool q.state.is_installed) [
          | inl so ↦ subst (λ (z : PackageText). Contains there z)
              (sym (one p q at (All-contains (Contains packages) there q known other) installed so same)) other
          | inr not_so ↦ absurd (both_ways _ none (any_of (is_of_name native (name_of native p)) (filter is_new there) q
              (kept is_new there q other (ap not not_so)) same))
        ]

    left_there : (p : PackageText) → Contains packages p → is_left native there p ≡ true → Contains there p
    left_there p at left =
        let stays = and_parts (p.state.is_installed && has native there (name_of native p)) _ left in
        let was = and_parts p.state.is_installed (has native there (name_of native p)) stays.0 in
        let some = some_of (is_of_name native (name_of native p)) there was.1 in
        installed_there p some.0 at was.0 (not_true _ stays.1) some.1 some.2

    new_there : (p : PackageText) → Contains there p → p.state.is_installed ≡ true
        → has native (filter is_new there) (name_of native p) ≡ true → ⊥
    new_there p at installed has_new =
        let some = some_of (is_of_name native (name_of native p)) (filter is_new there) has_new in
        let new = filtered is_new there some.0 some.1 in
        let same = one_there there p some.0 stand at new.0 some.2 in
        both_ways _ (ap not (ap (λ (z : PackageText). z.state.is_installed) (sym same) ∙ installed)) new.1

    there_changed : (p : PackageText) → Contains there p → Contains (changed native packages there) p
    there_changed p at =
        elim (cases_Bool p.state.is_installed) [
          | inl so ↦ Contains-append_right (filter is_new there) (filter (is_left native there) packages) p
              (kept (is_left native there) packages p (All-contains (Contains packages) there p known at)
              (and_from _ _ (and_from _ _ so (any_of (is_of_name native (name_of native p)) there p at
              (same_self (name_of native p)))) (not_false _ (new_there p at so))))
          | inr not_so ↦ Contains-append_left (filter is_new there) (filter (is_left native there) packages) p
              (kept is_new there p at (ap not not_so))
        ]

    changed_there : (p : PackageText) → Contains (changed native packages there) p → Contains there p
    changed_there p at =
        elim (Contains-append_cases (filter is_new there) (filter (is_left native there) packages) p at) [
          | inl new ↦ (filtered is_new there p new).0
          | inr left ↦ let was = filtered (is_left native there) packages p left in left_there p was.0 was.1
        ]

    pub changed_is_there : (p : PackageText) → Contains (changed native packages there) p ↔ Contains there p
    changed_is_there p = (changed_there p, there_changed p)
