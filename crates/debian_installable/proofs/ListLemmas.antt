-- Tests of lists.
use Rattle.std.proofs.Common.{◌≡◌, ℕ, ◌+◌, ◌-◌, ◌<◌, ◌&&◌, ◌||◌, Bool, true, List, [], ◌∷◌, length, get_or, drop}
use Rattle.std.proofs.Common.{take, map, refl, ap, ◌∙◌, sym, arith, length-drop}
use Rattle.std.specs.List.{list_all, list_any}
use Rattle.std.proofs.lemmas.List.{at_drop_more, take_all}
use Rattle.debian_installable.specs.Installable.{may_stand_beside, stand_together}
use Rattle.debian_scenario.specs.Plain.{plain_package}
use Rattle.debian_scenario.specs.declared.package.Package.{Package}

pub list_any-map : {X Y : Type 0} (p : X → Bool) (h : Y → X) (ys : List Y) →
    list_any p (map h ys) ≡ list_any (λ y. p (h y)) ys
list_any-map p h [] = refl
list_any-map p h (y ∷ ys) = ap (λ b. p (h y) || b) (list_any-map p h ys)

-- a package that may be there together with all behind it
pub stand_together-drop : (native : List ℕ) (there : List Package) (i : ℕ) (d : Package) → i < length there →
    list_all (may_stand_beside native (plain_package (get_or there i d)))
    (map plain_package (take (length there - (i + 1)) (drop (i + 1) there))) ≡ true →
    stand_together native (map plain_package (drop i there))
    ≡ stand_together native (map plain_package (drop (i + 1) there))
stand_together-drop native there i d within beside =
    let rest : take (length there - (i + 1)) (drop (i + 1) there) ≡ drop (i + 1) there =
    take_all _ _ (omega (arith, length-drop (i + 1) there)) in
    at_drop_more (λ xs. stand_together native (map plain_package xs)) there i d within
    ∙ ap (λ b. b && stand_together native (map plain_package (drop (i + 1) there)))
    (sym (ap (λ xs. list_all (may_stand_beside native (plain_package (get_or there i d))) (map plain_package xs))
    rest) ∙ beside)
