-- Packages that may be there together: one step of a loop over them.
use Rattle.std.proofs.Common.{◌≡◌, ℕ, ◌+◌, ◌<◌, ◌&&◌, Bool, List, length, get_or, drop, map, sym, ◌∙◌, ap}
use Rattle.std.specs.List.{list_all}
use Rattle.std.proofs.lemmas.List.{at_drop_more, drop-map}
use Rattle.debian_scenario.specs.Plain.{plain_package}
use Rattle.debian_scenario.specs.declared.package.Package.{Package}
use Rattle.debian_installable.specs.Installable.{may_stand_beside, stand_together}

pub stand_together-at : (native : List ℕ) (there : List Package) (i : ℕ) (d : Package) (answer : Bool) →
    i < length there → list_all (may_stand_beside native (plain_package (get_or there i d)))
    (drop (i + 1) (map plain_package there)) ≡ answer → stand_together native (map plain_package (drop i there))
    ≡ (answer && stand_together native (map plain_package (drop (i + 1) there)))
stand_together-at native there i d answer within beside =
    at_drop_more (λ xs. stand_together native (map plain_package xs)) there i d within
    ∙ ap (λ b. b && stand_together native (map plain_package (drop (i + 1) there)))
    (sym (ap (list_all (may_stand_beside native (plain_package (get_or there i d))))
    (drop-map plain_package (i + 1) there)) ∙ beside)
