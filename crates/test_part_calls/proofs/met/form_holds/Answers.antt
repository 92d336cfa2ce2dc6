use Rattle.std.proofs.Common.{◌≡◌, Bool, ◌||◌, List, [], ◌∷◌, map, refl, ap, ◌∙◌, rules, tests}
use Rattle.std.specs.List.{list_all, list_any}
use Rattle.std.proofs.lemmas.Iterator.{YieldsList-from_slice}
use Rattle.std.proofs.lemmas.Iterator.Search.{any_from_yields_List}
use Rattle.test_part_calls.specs.Met.{holds_in}
use Rattle.test_part_calls.proofs.met.form_holds.Goals as goal

any-map : {X Y : Type 0} (p : Y → Bool) (h : X → Y) (xs : List X) → list_any (λ x. p (h x)) xs ≡ list_any p (map h xs)
any-map p h [] = refl
any-map p h (x ∷ xs) = ap (λ b. p (h x) || b) (any-map p h xs)

pub returns : goal.returns
returns g c =
    any_from_yields_List (λ l. list_all (holds_in c.args.sets.now) l.items) _ _ _ c.any.ensures.ran
    (YieldsList-from_slice c.args.lists.now cc) (λ x b q k. search (rules, tests))
    ∙ any-map (list_all (holds_in c.args.sets.now)) (λ l. l.items) c.args.lists.now
