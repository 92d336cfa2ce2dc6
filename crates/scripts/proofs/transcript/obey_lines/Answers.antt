use Rattle.std.proofs.Common.{◌≡◌, ◌+◌, [], arith, refl, sym, subst}
use Rattle.std.proofs.lemmas.Grind.{common_steps}
use Rattle.script_text.specs.declared.fault.ScriptFault.TheVariants.{Device, Memory}
use Rattle.script_text.specs.Lines.{lines as lines_of}
use Rattle.script_text.proofs.Calls.{GoesWell-trans, GivesUp-after}
use Rattle.scripts.proofs.EndLemmas.{ends_at_fault, fails_so}
use Rattle.scripts.specs.Ends.{WriterEnds}
use Rattle.scripts.proofs.TranscriptLemmas.{so_far_none, so_far_more, so_far_written, ended_well, ended_cut}
use Rattle.scripts.proofs.TranscriptLemmas.{ended_faulty, command_here, command_after}
use Rattle.scripts.proofs.transcript.obey_lines.Invariants.{named, store}
use Rattle.scripts.proofs.transcript.obey_lines.Goals as goal

pub loop-said-init : goal.loop-said-init
loop-said-init g c = record {
  fits = omega arith;
  so_far = so_far_none (named g) (store g c.args.store.now) c.args.before (lines_of c.args.lines.now)
      (g.W.Sink.contents c.args.writer.now) c.args.waiting.now.items;
  writer = (0, refl);
  command = λ more. more;
}

pub returns-in-Err-clause-answer : goal.returns-in-Err-clause-answer
returns-in-Err-clause-answer g c =
    rw c.at.ensures
    (ended_faulty (named g) (store g c.args.store.now) c.args.before
    (lines_of c.args.lines.now) _ _ _ _ _ _ _ _ c.in-Some.ensures.first.1 _ _ _
    c.loop-said.invariant.so_far (Unit {0}) (Unit {0}) _ c.in-Err.fault c.in-Some.ensures.first.2 c.in-Err.ensures)

pub returns-in-Err-clause-ends : goal.returns-in-Err-clause-ends
returns-in-Err-clause-ends g c =
    rw c.at.ensures (ends_at_fault g.W.Sink.writes g.W.Sink.fails
    (Unit {0}) c.args.writer.now c.loop-said.writer _ c.in-Err.fault c.loop-said.invariant.writer)

pub returns-in-Err-clause-memory : goal.returns-in-Err-clause-memory
returns-in-Err-clause-memory g c h =
    let memory : c.at.result ≡ Memory = cc in
    c.loop-said.invariant.command (command_here (named g) (Unit {0}) (c.loop-said.number + 1) c.in-Err.fault
    (store g c.loop-said.store) _ _ _ _ _ _ _
    c.in-Some.ensures.first.1 c.in-Some.ensures.first.2 c.in-Err.ensures (rw c.at.ensures at memory))

pub returns-in_err-write_much-clause-answer : goal.returns-in_err-write_much-clause-answer
returns-in_err-write_much-clause-answer g c =
    let fails = fails_so _ _ Device c.from_residual.ensures.1 c.in_err-write_much.ensures.err in
    ended_cut (named g) (store g c.args.store.now) c.args.before (lines_of c.args.lines.now) _ _
    (Unit {0}) _ _ _ _ _ _ _ _ fails c.in_err-write_much.ensures.failed
    (so_far_more (named g) (store g c.args.store.now) _ _ c.args.before _
    (lines_of c.args.lines.now) _ _ _ _ _ _ _ _ _ _
    c.in-Some.ensures.first.1 c.in-Some.ensures.first.2 c.in-Ok.ensures c.loop-said.invariant.so_far)

pub returns-in_err-write_much-clause-ends : goal.returns-in_err-write_much-clause-ends
returns-in_err-write_much-clause-ends g c =
    let fails = fails_so _ _ Device c.from_residual.ensures.1 c.in_err-write_much.ensures.err in
    subst (λ r. WriterEnds g.W.Sink.writes g.W.Sink.fails {T = Unit {0}} c.args.writer.now r c.write_much.new.writer)
    (sym fails)
    (GivesUp-after g.W.Sink.writes g.W.Sink.fails c.args.writer.now c.loop-said.writer c.write_much.new.writer
    c.loop-said.invariant.writer c.in_err-write_much.ensures.ends)

pub loop-said-preserved : goal.loop-said-preserved
loop-said-preserved g c = record {
  fits = omega (arith, c.loop-said.invariant.fits, c.in-Some.ensures.shorter);
  so_far = so_far_written (named g) (store g c.args.store.now) _ c.args.before _
      (lines_of c.args.lines.now) _ _ _ _ _ _ _ c.in_ok-write_much.ensures.handed
      (so_far_more (named g) (store g c.args.store.now) _ _ c.args.before _
      (lines_of c.args.lines.now) _ _ _ _ _ _ _ _ _ _
      c.in-Some.ensures.first.1 c.in-Some.ensures.first.2 c.in-Ok.ensures c.loop-said.invariant.so_far);
  writer = GoesWell-trans g.W.Sink.writes g.W.Sink.fails c.args.writer.now c.loop-said.writer c.write_much.new.writer
      c.loop-said.invariant.writer c.in_ok-write_much.ensures.ends;
  command = λ more. c.loop-said.invariant.command
      (command_after (named g) _ _ _ _ _ _ _ _ _ c.in-Some.ensures.first.1 c.in-Some.ensures.first.2
      c.in-Ok.ensures more);
}

pub returns-clause-answer : goal.returns-clause-answer
returns-clause-answer g c =
    let none : lines_of c.loop-said.rest.now ≡ [] = grind (arith, common_steps) in
    ended_well (named g) (store g c.args.store.now) c.args.before (lines_of c.args.lines.now) _ _
    (Unit {0}) _ _ _ _ _ _ none c.loop-said.invariant.so_far
