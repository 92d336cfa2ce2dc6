use Rattle.std.proofs.Common.{◌≡◌, ◌+◌, ◌-◌, ◌<◌, take, subst, arith}
use Rattle.watch_map.proofs.Words.{All}
use Rattle.watch_map.proofs.UnwatchedLaws.{up_to_here}
use Rattle.watch_map.proofs.saturation.unwatched.count_before.Goals as goal

pub returns-then-to_index-bound : goal.returns-then-to_index-bound
returns-then-to_index-bound g c =
    let ids = c.args.input.now.unwatched.now in
    let count = c.loop-count.count in
    let bound = c.args.bound in
    let some = c.loop-count-test.true in
    let most = c.loop-count.invariant in
    let index = c.to_index.ensures.value in
    let test = c.if-to_index-bound.true in
    let whole : count - 1 + 1 ≡ count = omega (arith, some) in
    subst (λ n. All (λ x. x < bound) (take n ids)) whole
    (up_to_here ids (count - 1) c.index-input-count.result (omega (arith, some, most)) c.index-input-count.is
    c.requires bound
    (omega (arith, index, test)))
