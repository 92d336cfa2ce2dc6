use Rattle.std.proofs.Common.{◌∙◌, ◌++◌, ap}
use Rattle.std.proofs.lemmas.List.{take_all}
use Rattle.solutions.proofs.Words.{alternatives_for, filtered, is_of_one}
use Rattle.solutions.proofs.NewestLemmas.{filtered_joins, next_part}
use Rattle.solutions.proofs.newest.Wisher.push_all.Invariants.{provided}
use Rattle.solutions.proofs.newest.Wisher.push_all.Goals as goal

pub loop-solvable-preserved : goal.loop-solvable-preserved
loop-solvable-preserved g c =
    let test = is_of_one (provided g c.args.self.now.provider.now) c.args.self.now.needed.items in
    next_part c.args.solvables.now c.loop-solvable.solvable-index c.solvable-item.result c.loop-solvable-test.true
    c.solvable-item.is
    (λ l. alternatives_for (filtered test c.args.inverse l)) (filtered_joins test c.args.inverse)
    c.args.alternatives.now.items c.loop-solvable.alternatives.items c.push.new.alternatives.items
    c.loop-solvable.invariant c.in_ok-push.ensures

pub returns : goal.returns
returns g c =
    let test = is_of_one (provided g c.args.self.now.provider.now) c.args.self.now.needed.items in
    c.loop-solvable.invariant ∙ ap (λ l. c.args.alternatives.now.items ++ alternatives_for
    (filtered test c.args.inverse l))
    (take_all c.loop-solvable.solvable-index c.args.solvables.now c.loop-solvable-test.false)
