use Rattle.std.proofs.Common.{get_or, ◌+◌, [], ap, refl, take}
use Rattle.std.proofs.lemmas.List.{take_all}
use Rattle.solutions.proofs.Words.{is_among, list_any}
use Rattle.solutions.specs.Solutions.{has_picked}
use Rattle.solutions.proofs.encoding.Encoder.push_any_held.Invariants.{provided}
use Rattle.solutions.proofs.EncodingLemmas as L
use Rattle.solutions.proofs.encoding.Encoder.push_any_held.Goals as goal

pub loop-set-init : goal.loop-set-init
loop-set-init g c =
    let p = provided g c.args.self.now.provider.now in
    L.or_none p (λ picked. list_any ((has_picked p (is_among p picked))) []) c.args.clause.now.items (λ picked. refl)

pub loop-set-preserved : goal.loop-set-preserved
loop-set-preserved g c =
    let p = provided g c.args.self.now.provider.now in
    let xs = c.args.sets.now in
    let i = c.loop-set.set-index in
    let x = get_or c.args.sets.now c.loop-set.set-index (record { 0 = 0 }) in
    L.or_then p (λ q. list_any (has_picked p (is_among p q)) (take i xs)) (λ q. has_picked p (is_among p q) x)
    (λ q. list_any (has_picked p (is_among p q)) (take (i + 1) xs))
    c.args.clause.now.items c.loop-set.clause.items c.push_held.new.clause.items
    (λ q. L.any_more (has_picked p (is_among p q)) xs i x c.loop-set-test.true
    (L.own_default c.args.sets.now c.loop-set.set-index (record { 0 = 0 }) c.loop-set-test.true))
    c.loop-set.invariant
    c.in_ok-push_held.ensures

pub returns : goal.returns
returns g c =
    let p = provided g c.args.self.now.provider.now in
    L.or_same p (λ q. list_any (has_picked p (is_among p q)) (take c.loop-set.set-index c.args.sets.now))
    (λ q. list_any (has_picked p (is_among p q)) c.args.sets.now)
    c.args.clause.now.items c.loop-set.clause.items
    (λ q. ap (list_any (has_picked p (is_among p q)))
    (take_all c.loop-set.set-index c.args.sets.now c.loop-set-test.false)) c.loop-set.invariant
