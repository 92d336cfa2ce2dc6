use Rattle.std.proofs.Common.{◌<◌, [], length, sym, ◌∙◌, arith}
use Rattle.watch_map.proofs.Words.{AreWatchesSatisfiedBut, IsConflict, val, val_before, watched_by}
use Rattle.watch_map.specs.Visits.{literals_at}
use Rattle.watch_map.proofs.InputLaws.{given_within}
use Rattle.watch_map.proofs.ValueLaws.{before_extends, extends_self}
use Rattle.watch_map.proofs.ImplicationLaws.{forced_then, forced_longer}
use Rattle.watch_map.proofs.RoundLaws.{none_case, rearranged_then, keeps_then, place_reached, as_many_decisions}
use Rattle.watch_map.proofs.RoundLaws.{place_smaller}
use Rattle.watch_map.proofs.saturation.propagate.propagate.Goals as goal

pub returns-in_err-conflict-clause-implied : goal.returns-in_err-conflict-clause-implied
returns-in_err-conflict-clause-implied g c =
    forced_then (literals_at c.args.input.now) c.args.input.now.level c.args.trail.now
    c.loop-place.trail c.walk.new.trail
    c.loop-place.invariant.implied c.walk.ensures.implied

pub returns-then-is_some-clause-implied : goal.returns-then-is_some-clause-implied
returns-then-is_some-clause-implied g c =
    forced_then (literals_at c.args.input.now) c.args.input.now.level c.args.trail.now
    c.loop-place.trail c.walk.new.trail
    c.loop-place.invariant.implied c.walk.ensures.implied

pub returns-in_err-conflict-clause-kept : goal.returns-in_err-conflict-clause-kept
returns-in_err-conflict-clause-kept g c =
    keeps_then (literals_at c.args.input.now) c.args.input.now.level c.args.trail.now c.loop-place.trail
    (watched_by c.args.watches.now) (watched_by c.loop-place.watches) (watched_by c.walk.new.watches)
    c.loop-place.invariant.implied c.loop-place.invariant.kept c.walk.ensures.kept

pub returns-then-is_some-clause-kept : goal.returns-then-is_some-clause-kept
returns-then-is_some-clause-kept g c =
    keeps_then (literals_at c.args.input.now) c.args.input.now.level c.args.trail.now c.loop-place.trail
    (watched_by c.args.watches.now) (watched_by c.loop-place.watches) (watched_by c.walk.new.watches)
    c.loop-place.invariant.implied c.loop-place.invariant.kept c.walk.ensures.kept

pub loop-place-smaller : goal.loop-place-smaller
loop-place-smaller g c =
    let input = c.args.input.now in
    let many = as_many_decisions c.assignments.result.now c.loop-place.trail.entries c.assignments.ensures.decisions in
    let test = c.loop-place-test.true in
    let within : c.loop-place.place < length c.loop-place.trail.entries = omega (arith, many, test) in
    place_smaller (literals_at input) input.level (length input.clauses.now) (given_within input)
    c.loop-place.trail c.walk.new.trail c.loop-place.place c.walk.ensures.implied within

pub loop-place-preserved : goal.loop-place-preserved
loop-place-preserved g c =
    let literals = literals_at c.args.input.now in
    let level = c.args.input.now.level in
    let old = c.loop-place.trail in
    let new = c.walk.new.trail in
    let place = c.loop-place.place in
    let inv = c.loop-place.invariant in
    let watched = watched_by c.walk.new.watches in
    let many = as_many_decisions c.assignments.result.now old.entries c.assignments.ensures.decisions in
    let test = c.loop-place-test.true in
    let within : place < length old.entries = omega (arith, many, test) in
    let longer = forced_longer literals level old new c.walk.ensures.implied in
    let one = none_case (AreWatchesSatisfiedBut [] c.refuted_at-literal.result (val new.entries) watched)
    (IsConflict literals (length c.args.input.now.clauses.now) (val new.entries)) c.in_ok-conflict.conflict
    c.in_ok-conflict.ensures.ok (sym c.is_some.ensures ∙ c.if-is_some.false) in
    record {
      within = omega (arith, within, longer);
      watched = c.walk.ensures.watched;
      rearranged = rearranged_then literals (watched_by c.args.watches.now) (watched_by c.loop-place.watches) watched
          inv.rearranged c.walk.ensures.rearranged;
      implied = forced_then literals level c.args.trail.now old new inv.implied c.walk.ensures.implied;
      satisfied = place_reached literals level old new place c.refuted_at-literal.result watched within
          c.refuted_at-literal.ensures.entry
          c.walk.ensures.implied (c.walk.ensures.kept (val_before place old.entries) (val old.entries)
          (before_extends old.entries place) (extends_self (val old.entries)) inv.satisfied) one;
      kept = keeps_then literals level c.args.trail.now old (watched_by c.args.watches.now)
          (watched_by c.loop-place.watches) watched inv.implied inv.kept c.walk.ensures.kept;
    }
