use Rattle.std.proofs.Common.{◌≡◌, ◌<◌, ◌∙◌, ◌++◌, ◌∷◌, [], ap, sym, map, take, length, length-set, get_or, arith}
use Rattle.std.proofs.lemmas.List.{take_more, take_more_set, get_or-map, length-map}
use Rattle.script_packages.specs.Order.{with_version}
use Rattle.script_packages.proofs.order.look_up.Goals as goal

pub loop-i-preserved : goal.loop-i-preserved
loop-i-preserved c =
    let all = c.args.pool.now.solvables in
    let from = c.args.solvables.now in
    let i = c.loop-i.i in
    let x = c.with_version.result in
    let within : i < length c.loop-i.list = omega (arith, c.loop-i.invariant.0, c.loop-i-test.true) in
    let mapped : i < length (map (with_version all) from) =
    omega (arith, length-map from (with_version all), c.loop-i-test.true) in
    let here : get_or (map (with_version all) from) i x ≡ x =
    get_or-map (with_version all) from i c.index-solvables-i.result x c.loop-i-test.true
    ∙ ap (with_version all) (sym c.index-solvables-i.is) ∙ sym c.with_version.ensures in (
      length-set c.loop-i.list i x ∙ c.loop-i.invariant.0,
      take_more_set c.loop-i.list i x within
          ∙ ap (λ l. l ++ x ∷ []) c.loop-i.invariant.1
          ∙ ap (λ y. take i (map (with_version all) from) ++ y ∷ []) (sym here)
          ∙ sym (take_more (map (with_version all) from) i x mapped),
    )
