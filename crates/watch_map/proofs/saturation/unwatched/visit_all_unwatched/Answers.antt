use Rattle.std.proofs.Common.{take, take_all, sym, subst, arith}
use Rattle.watch_map.proofs.Words.{AreAllSettled, IsSettled, val}
use Rattle.watch_map.specs.Visits.{literals_at}
use Rattle.watch_map.proofs.ImplicationLaws.{forced_none, forced_then}
use Rattle.watch_map.proofs.UnwatchedLaws.{true_are_settled}
use Rattle.watch_map.proofs.RoundLaws.{one_more_visited}
use Rattle.watch_map.proofs.saturation.unwatched.visit_all_unwatched.Goals as goal

pub returns-in_err-visit_unwatched-clause-implied : goal.returns-in_err-visit_unwatched-clause-implied
returns-in_err-visit_unwatched-clause-implied g c =
    forced_then (literals_at c.args.input.now) c.args.input.now.level c.args.trail.now c.loop-index.trail
    c.visit_unwatched.new.trail c.loop-index.invariant.implied c.visit_unwatched.ensures.implied

pub returns-then-branch-clause-implied : goal.returns-then-branch-clause-implied
returns-then-branch-clause-implied g c =
    forced_then (literals_at c.args.input.now) c.args.input.now.level c.args.trail.now c.loop-index.trail
    c.visit_unwatched.new.trail c.loop-index.invariant.implied c.visit_unwatched.ensures.implied

pub loop-index-init : goal.loop-index-init
loop-index-init g c =
    let input = c.args.input.now in
    let literals = literals_at input in
    record {
      implied = forced_none literals input.level c.args.trail.now;
      settled = λ same. true_are_settled literals (take c.args.first input.unwatched.now) (val c.args.trail.now.entries)
          c.requires.first;
    }

pub loop-index-preserved : goal.loop-index-preserved
loop-index-preserved g c =
    let input = c.args.input.now in
    let literals = literals_at input in
    let start = c.args.trail.now in
    let old = c.loop-index.trail in
    let new = c.visit_unwatched.new.trail in
    let inv = c.loop-index.invariant in
    record {
      implied = forced_then literals input.level start old new inv.implied c.visit_unwatched.ensures.implied;
      settled = one_more_visited literals input.level start old new input.unwatched.now c.loop-index.index
          c.index-input-index.result inv.implied inv.settled c.visit_unwatched.ensures.implied
          (λ alike. subst (λ x. IsSettled (val new.entries) (literals x)) (sym c.index-input-index.is)
          (c.in_ok-visit_unwatched.ensures.settled c.if-branch.false alike)) c.loop-index-test.true
          c.index-input-index.is;
    }

pub returns-clause-ok : goal.returns-clause-ok
returns-clause-ok g c same =
    let input = c.args.input.now in
    let now = val c.loop-index.trail.entries in
    let ended = c.loop-index-test.false in
    subst (λ xs. AreAllSettled (literals_at input) xs now)
    (take_all c.loop-index.index input.unwatched.now (omega (arith, ended))) (c.loop-index.invariant.settled same)
