use Rattle.std.proofs.Common.{◌∷◌, [], List, map}
use Rattle.solutions.proofs.Words.{is_among, IsSatisfiedUnless, list_all}
use Rattle.solutions.specs.Solutions.{has_picked}
use Rattle.solutions.proofs.encoding.Encoder.require_under_any.Invariants.{provided}
use Rattle.solutions.proofs.EncodingLemmas as L
use Rattle.solutions.proofs.encoding.Encoder.require_under_any.Goals as goal

pub loop-list-init : goal.loop-list-init
loop-list-init g c =
    let p = provided g c.args.self.now.provider.now in
    L.still p (λ picked. IsSatisfiedUnless p c.args.unless.now picked
    (map (λ x. x.items) c.args.lists.now) c.args.requirement) c.args.theory.now.clauses.items

pub loop-list-preserved : goal.loop-list-preserved
loop-list-preserved g c =
    let p = provided g c.args.self.now.provider.now in
    let lists = c.args.lists.now in
    let unless = c.args.unless.now in
    let x = c.list-item.result in
    let IsSo = λ (picked : List g.row.D-SolvableId.Denot). IsSatisfiedUnless p unless picked
    (map (λ x. x.items) lists) c.args.requirement in
    L.still_then p IsSo c.args.theory.now.clauses.items c.loop-list.theory.clauses.items
    c.require_under.new.theory.clauses.items
    c.loop-list.invariant
    (L.still_where p (λ picked. IsSatisfiedUnless p unless picked (c.deref.result.now ∷ []) c.args.requirement) IsSo
    c.loop-list.theory.clauses.items
    c.require_under.new.theory.clauses.items
    (λ picked satisfied no passes. satisfied no (L.some_at (λ x. x.items)
    (list_all (has_picked p (is_among p picked))) lists c.loop-list.list-index x
    c.deref.result.now c.loop-list-test.true c.list-item.is c.deref.ensures.value passes))
    c.in_ok-require_under.ensures)
