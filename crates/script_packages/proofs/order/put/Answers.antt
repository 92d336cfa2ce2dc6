use Rattle.std.proofs.Common.{◌≡◌, ◌<◌, ◌∙◌, ◌++◌, ◌∷◌, [], ap, sym, map, take, length, length-set, get_or, arith}
use Rattle.std.proofs.lemmas.List.{take_more, take_more_set, get_or-map, length-map}
use Rattle.script_packages.proofs.order.put.Goals as goal

pub loop-i-preserved : goal.loop-i-preserved
loop-i-preserved c =
    let from = c.args.list.now in
    let i = c.loop-i.i in
    let x = c.solvable.result in
    let within : i < length c.loop-i.solvables = omega (arith, c.loop-i.invariant.0, c.requires, c.loop-i-test.true) in
    let inside : i < length from = omega (arith, c.requires, c.loop-i-test.true) in
    let mapped : i < length (map (λ v. v.solvable) from) = omega (arith, length-map from (λ v. v.solvable), inside) in
    let here : get_or (map (λ v. v.solvable) from) i x ≡ x =
    get_or-map (λ v. v.solvable) from i c.index-list-i.result x inside
    ∙ ap (λ v. v.solvable) (sym c.index-list-i.is) ∙ sym c.solvable.ensures in (
      length-set c.loop-i.solvables i x ∙ c.loop-i.invariant.0,
      take_more_set c.loop-i.solvables i x within
          ∙ ap (λ l. l ++ x ∷ []) c.loop-i.invariant.1
          ∙ ap (λ y. take i (map (λ v. v.solvable) from) ++ y ∷ []) (sym here)
          ∙ sym (take_more (map (λ v. v.solvable) from) i x mapped),
    )
