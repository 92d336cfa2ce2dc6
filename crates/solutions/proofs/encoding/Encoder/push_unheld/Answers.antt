use Rattle.std.proofs.Common.{◌≡◌, ◌∙◌, get_or, ◌+◌, ◌++◌, ◌∷◌, [], not, ap, refl, take, rules}
use Rattle.std.proofs.lemmas.List.{take_all}
use Rattle.solutions.proofs.Words.{is_among, list_all, ⊤}
use Rattle.solutions.specs.Solutions.{has_picked}
use Rattle.solutions.proofs.encoding.Encoder.push_unheld.Invariants.{provided}
use Rattle.solutions.proofs.EncodingLemmas as L
use Rattle.solutions.proofs.encoding.Encoder.push_unheld.Goals as goal

pub loop-set-init : goal.loop-set-init
loop-set-init g c =
    let p = provided g c.args.self.now.provider.now in
    record {
      clause = L.or_none p (λ picked. not (list_all (has_picked p (is_among p picked)) [])) c.args.clause.now.items
          (λ picked. refl);
      theory = L.still p (λ picked. ⊤) c.args.theory.now.clauses.items;
    }

pub loop-set-preserved : goal.loop-set-preserved
loop-set-preserved g c =
    let p = provided g c.args.self.now.provider.now in
    let sets = c.args.held.now in
    let i = c.loop-set.set-index in
    let set = get_or c.args.held.now c.loop-set.set-index (record { 0 = 0 }) in
    let l = c.new.result in
    let fact = ap (λ k. k.fact) c.new.ensures ∙ c.in_ok-atom.ensures.fact in
    let value = ap (λ k. k.value) c.new.ensures in
    let pushed : c.push.new.self.items ≡ c.loop-set.clause.items ++ l ∷ [] = search rules in
    record {
      clause = L.or_then p (λ q. not (list_all (has_picked p (is_among p q)) (take i sets)))
          (λ q. not (has_picked p (is_among p q) set))
          (λ q. not (list_all (has_picked p (is_among p q)) (take (i + 1) sets))) c.args.clause.now.items
          c.loop-set.clause.items c.push.new.self.items
          (λ q. L.not_all_more (has_picked p (is_among p q)) sets i set c.loop-set-test.true
          (L.own_default c.args.held.now c.loop-set.set-index (record { 0 = 0 }) c.loop-set-test.true))
          c.loop-set.invariant.clause
          (L.or_one p (λ q. not (has_picked p (is_among p q) set)) c.loop-set.clause.items c.push.new.self.items l
          pushed
          (λ q. L.unheld_literal p l set fact value q));
      theory = L.still_then p (λ picked. ⊤) c.args.theory.now.clauses.items c.loop-set.theory.clauses.items
          c.held.new.theory.clauses.items
          c.loop-set.invariant.theory c.in_ok-atom.ensures.theory;
    }

pub returns : goal.returns
returns g c =
    let p = provided g c.args.self.now.provider.now in
    record {
      clause = L.or_same p (λ q. not (list_all (has_picked p (is_among p q))
          (take c.loop-set.set-index c.args.held.now)))
          (λ q. not (list_all (has_picked p (is_among p q)) c.args.held.now)) c.args.clause.now.items
          c.loop-set.clause.items
          (λ q. ap (λ sets. not (list_all (has_picked p (is_among p q)) sets))
          (take_all c.loop-set.set-index c.args.held.now c.loop-set-test.false))
          c.loop-set.invariant.clause;
      theory = c.loop-set.invariant.theory;
    }
