use Rattle.std.proofs.Common.{◌<◌, length, arith}
use Rattle.resolvo_queue.specs.Parts.Tracking.{tracking_of}
use Rattle.resolvo_queue.proofs.Syncs.HotNames.{heats_none, heats_read, hot_past, hot_read}
use Rattle.resolvo_queue.proofs.tracked_clauses.TrackedClauses.heat_number.Goals as goal

pub returns-then-place-len-clause-heats : goal.returns-then-place-len-clause-heats
returns-then-place-len-clause-heats g c = heats_none (tracking_of c.args.self.now)

pub returns-then-place-len-clause-hot : goal.returns-then-place-len-clause-hot
returns-then-place-len-clause-hot g c = hot_past c.args.self.now.index.clauses.items c.args.number
    (omega (arith, c.if-place-len.true, c.len.ensures, c.args.self.now.index.clauses.ok.0))

pub returns-clause-heats : goal.returns-clause-heats
returns-clause-heats g c =
    let within : c.args.number < length c.args.self.now.index.clauses.items =
    omega (arith, c.if-place-len.false, c.len.ensures, c.args.self.now.index.clauses.ok.0) in
    heats_read (tracking_of c.args.self.now) c.args.number c.index_mut-clause.result.now c.heat.new.clause within
    c.index_mut-clause.ensures.value
    c.heat.new.self c.heat.ensures.grows c.heat.result c.heat.ensures.into c.heat.ensures.ok c.heat.ensures.err

pub returns-clause-hot : goal.returns-clause-hot
returns-clause-hot g c =
    hot_read c.args.self.now.index.clauses.items c.args.number c.index_mut-clause.result.now c.heat.new.clause
    c.heat.result c.heat.ensures.ok
