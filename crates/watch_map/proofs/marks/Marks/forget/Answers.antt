use Rattle.std.proofs.Common.{◌<◌, length, sym, ◌∙◌, arith}
use Rattle.std.proofs.lemmas.Bool.{and_parts}
use Rattle.std.proofs.lemmas.Bool.Decides.{nat_tests}
use Rattle.watch_map.proofs.Words.{is_from, nat_lt, newest_mark}
use Rattle.watch_map.proofs.StackLaws.{below_step, below_done, fewer}
use Rattle.watch_map.proofs.marks.Marks.forget.Goals as goal

pub loop-limit-preserved : goal.loop-limit-preserved
loop-limit-preserved g c =
    let marks = c.loop-limit.self in
    let tests = and_parts (nat_lt 0 (length marks)) (is_from c.args.limit (newest_mark marks))
    (sym c.is_newest_from.ensures.value ∙ c.loop-limit-test.true) in
    let some : 0 < length marks = (let t = tests.0 in grind (arith, nat_tests, t)) in
    rw c.drop_newest.ensures (below_step c.args.limit marks some tests.1 ∙ c.loop-limit.invariant)

pub loop-limit-smaller : goal.loop-limit-smaller
loop-limit-smaller g c =
    let marks = c.loop-limit.self in
    let tests = and_parts (nat_lt 0 (length marks)) (is_from c.args.limit (newest_mark marks))
    (sym c.is_newest_from.ensures.value ∙ c.loop-limit-test.true) in
    let some : 0 < length marks = (let t = tests.0 in grind (arith, nat_tests, t)) in
    rw c.drop_newest.ensures (fewer marks some)

pub returns : goal.returns
returns g c =
    sym (below_done c.args.limit c.loop-limit.self c.is_newest_from.ensures.rising
    (sym c.is_newest_from.ensures.value ∙ c.loop-limit-test.false)) ∙ c.loop-limit.invariant
