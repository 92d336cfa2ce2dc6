use Rattle.std.proofs.Common.{subst, take_all}
use Rattle.resolvo_queue.proofs.Words.{IsEntered, StandsUnder, Stands}
use Rattle.resolvo_queue.proofs.Clauses.ByName.{entered_more, keeps_both}
use Rattle.resolvo_queue.proofs.clauses_by_name.ClausesByName.enter.Goals as goal

pub loop-name-init : goal.loop-name-init
loop-name-init g c = record {
  kept = λ name n s. s;
  entered = λ name s. elim s [ ];
}

pub returns-in_err-put-clause-kept : goal.returns-in_err-put-clause-kept
returns-in_err-put-clause-kept g c =
    let under = StandsUnder g.N.Slots.IdMap.value_at in
    keeps_both (under c.args.self.now) (under c.loop-name.self)
    (under c.put.new.self) c.loop-name.invariant.kept c.put.ensures.kept

pub loop-name-preserved : goal.loop-name-preserved
loop-name-preserved g c =
    let under = StandsUnder g.N.Slots.IdMap.value_at in
    record {
      kept = keeps_both (under c.args.self.now) (under c.loop-name.self)
          (under c.put.new.self) c.loop-name.invariant.kept c.put.ensures.kept;
      entered = entered_more g.N.Slots.IdMap.is_too_large c.args.number c.args.names.now c.loop-name.name-index
          c.name-item.result (under c.loop-name.self) (under c.put.new.self)
          c.loop-name-test.true c.name-item.is c.put.ensures.kept c.in_ok-put.ensures.entered
          c.loop-name.invariant.entered;
    }

pub returns-clause-kept : goal.returns-clause-kept
returns-clause-kept g c = c.loop-name.invariant.kept

pub returns-clause-entered : goal.returns-clause-entered
returns-clause-entered g c = subst (λ names. (name : _) → Stands name names →
    IsEntered g.N.Slots.IdMap.is_too_large (StandsUnder g.N.Slots.IdMap.value_at c.loop-name.self) c.args.number name)
    (take_all c.loop-name.name-index c.args.names.now c.loop-name-test.false) c.loop-name.invariant.entered
