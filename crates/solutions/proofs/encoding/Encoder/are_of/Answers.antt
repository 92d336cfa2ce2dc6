use Rattle.std.proofs.Common.{◌≡◌, true, subst, rules}
use Rattle.std.proofs.lemmas.List.{take_all}
use Rattle.solutions.proofs.Words.{All}
use Rattle.solutions.proofs.DecisionLemmas.{next_holds}
use Rattle.solutions.proofs.encoding.Encoder.are_of.Given.{Over}
use Rattle.solutions.proofs.encoding.Encoder.are_of.Goals as goal

pub loop-solvable-preserved : goal.loop-solvable-preserved
loop-solvable-preserved g c =
    let Named = λ (s : g.row.D-SolvableId.Denot). (g.D.Interner.universe c.args.self.now.provider.now).solvable_name
    s ≡ c.args.name in
    let yes : c.is_of.result ≡ true = search rules in
    next_holds Named c.args.solvables.now c.loop-solvable.solvable-index c.solvable-item.result
    c.loop-solvable-test.true c.solvable-item.is
    (c.is_of.ensures yes) c.loop-solvable.invariant

pub returns : goal.returns
returns g c = λ yes.
    let Named = λ (s : g.row.D-SolvableId.Denot). (g.D.Interner.universe c.args.self.now.provider.now).solvable_name
    s ≡ c.args.name in
    subst (All Named) (take_all c.loop-solvable.solvable-index c.args.solvables.now c.loop-solvable-test.false)
    c.loop-solvable.invariant
