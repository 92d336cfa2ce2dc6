use Rattle.std.proofs.Common.{◌∙◌, ◌∷◌, [], List, ap}
use Rattle.solutions.proofs.Words.{NonePickedUnless}
use Rattle.solutions.proofs.encoding.Encoder.forbid_all.Invariants.{provided}
use Rattle.solutions.proofs.EncodingLemmas as L
use Rattle.solutions.proofs.encoding.Encoder.forbid_all.Goals as goal

pub loop-solvable-init : goal.loop-solvable-init
loop-solvable-init g c =
    let p = provided g c.args.self.now.provider.now in
    L.still p (λ picked. NonePickedUnless p (c.args.unless ∷ []) picked c.args.solvables.now)
    c.args.theory.now.clauses.items

pub loop-solvable-preserved : goal.loop-solvable-preserved
loop-solvable-preserved g c =
    let p = provided g c.args.self.now.provider.now in
    let xs = c.args.solvables.now in
    let x = c.solvable-item.result in
    let l = c.new.result in
    let fact = ap (λ k. k.fact) c.new.ensures ∙ c.in_ok-atom.ensures.fact in
    let value = ap (λ k. k.value) c.new.ensures in
    let IsSo = λ (picked : List g.row.D-SolvableId.Denot). NonePickedUnless p (c.args.unless ∷ []) picked xs in
    L.still_then p IsSo c.args.theory.now.clauses.items c.loop-solvable.theory.clauses.items
    c.add_binary.new.self.clauses.items
    c.loop-solvable.invariant
    (L.still_added p IsSo c.loop-solvable.theory.clauses.items c.add_binary.new.self.clauses.items
    (c.args.unless ∷ l ∷ []) c.in_ok-add_binary.ensures
    (λ picked left_out. L.unpicked_satisfied p c.args.unless l xs c.loop-solvable.solvable-index x picked
    c.loop-solvable-test.true c.solvable-item.is
    (L.unpicked_literal p l x fact value picked) left_out))
