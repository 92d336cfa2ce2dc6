use Rattle.std.proofs.Common.{◌≡◌, ◌∙◌, ◌+◌, ◌++◌, ◌∷◌, [], ap, refl, take, rules}
use Rattle.std.proofs.lemmas.List.{take_all}
use Rattle.solutions.proofs.Words.{is_among, list_any}
use Rattle.solutions.proofs.encoding.Encoder.push_picked.Invariants.{provided}
use Rattle.solutions.proofs.EncodingLemmas as L
use Rattle.solutions.proofs.encoding.Encoder.push_picked.Goals as goal

pub loop-solvable-init : goal.loop-solvable-init
loop-solvable-init g c =
    let p = provided g c.args.self.now.provider.now in
    L.or_none p (λ picked. list_any (is_among p picked) []) c.args.clause.now.items (λ picked. refl)

pub loop-solvable-preserved : goal.loop-solvable-preserved
loop-solvable-preserved g c =
    let p = provided g c.args.self.now.provider.now in
    let xs = c.args.solvables.now in
    let i = c.loop-solvable.solvable-index in
    let x = c.solvable-item.result in
    let l = c.new.result in
    let fact = ap (λ k. k.fact) c.new.ensures ∙ c.in_ok-atom.ensures.fact in
    let value = ap (λ k. k.value) c.new.ensures in
    let pushed : c.push.new.self.items ≡ c.loop-solvable.clause.items ++ l ∷ [] = search rules in
    L.or_then p (λ q. list_any (is_among p q) (take i xs)) (λ q. is_among p q x)
    (λ q. list_any (is_among p q) (take (i + 1) xs))
    c.args.clause.now.items c.loop-solvable.clause.items c.push.new.self.items
    (λ q. L.any_more (is_among p q) xs i x c.loop-solvable-test.true c.solvable-item.is) c.loop-solvable.invariant
    (L.or_one p (λ q. is_among p q x) c.loop-solvable.clause.items c.push.new.self.items l pushed
    (L.picked_literal p l x fact value))

pub returns : goal.returns
returns g c =
    let p = provided g c.args.self.now.provider.now in
    L.or_same p (λ q. list_any (is_among p q) (take c.loop-solvable.solvable-index c.args.solvables.now))
    (λ q. list_any (is_among p q) c.args.solvables.now)
    c.args.clause.now.items c.loop-solvable.clause.items
    (λ q. ap (list_any (is_among p q))
    (take_all c.loop-solvable.solvable-index c.args.solvables.now c.loop-solvable-test.false))
    c.loop-solvable.invariant
