use Rattle.std.proofs.Common.{arith}
use Rattle.resolvo_queue.proofs.Syncs.Flags.{flagged_past, flagged_popped}
use Rattle.resolvo_queue.proofs.noted_conditions.NotedConditions.clear.Goals as goal

pub loop-disjunction-preserved-then-index-len : goal.loop-disjunction-preserved-then-index-len
loop-disjunction-preserved-then-index-len g c =
    let old = c.loop-disjunction.self-inside in
    flagged_popped old.disjunctions.items c.pop.new.self.items c.in-Some.disjunction old.are_noted.items
    c.in-Some.ensures.items c.loop-disjunction.invariant

pub loop-disjunction-preserved : goal.loop-disjunction-preserved
loop-disjunction-preserved g c =
    let old = c.loop-disjunction.self-inside in
    let past = c.if-index-len.false in
    flagged_past old.disjunctions.items c.pop.new.self.items c.in-Some.disjunction old.are_noted.items
    c.in-Some.ensures.items (omega (arith, past)) c.loop-disjunction.invariant
