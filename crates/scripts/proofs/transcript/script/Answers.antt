use Rattle.std.proofs.Common.{◌≡◌, Err, subst, sym, inr, ◌∙◌}
use Rattle.std.proofs.lemmas.Bool.{false≢true}
use Rattle.script_text.specs.Lines.{lines as lines_of}
use Rattle.script_text.specs.declared.fault.ScriptFault.TheVariants.{Device}
use Rattle.scripts.specs.Ends.{TakesBeginning, WriterEnds}
use Rattle.scripts.proofs.EndLemmas.{ends_written, ends_unwritten, fails_so}
use Rattle.scripts.proofs.ScriptLemmas.{script_answered, beginning_taken, nothing_taken, failed_taken, all_taken}
use Rattle.scripts.proofs.ScriptLemmas.{of_any, of_known}
use Rattle.scripts.proofs.transcript.script.Goals as goal

pub returns-in_err-input-clause-cut : goal.returns-in_err-input-clause-cut
returns-in_err-input-clause-cut g c =
    let held = g.W.Sink.contents c.args.writer.now in
    of_any (g.R.Source.remaining c.args.reader.now) (λ input. TakesBeginning (lines_of input) held held)
    (λ input. nothing_taken (lines_of input) held)

pub returns-in_err-write_rest-clause-cut : goal.returns-in_err-write_rest-clause-cut
returns-in_err-write_rest-clause-cut g c =
    let other : (c.obey_text-ended.result ≡ Err Device → ⊥) =
    λ e. false≢true (sym c.if-has_failed.false ∙ c.has_failed.ensures.other e) in
    let ended = c.obey_text-ended in
    let held = g.W.Sink.contents c.args.writer.now in
    let held' = g.W.Sink.contents c.write_rest.new.writer in
    of_known (g.R.Source.remaining c.args.reader.now) c.in_ok-input.input.items c.deref.result.now
    (λ input. TakesBeginning (lines_of input) held held')
    c.in_ok-input.ensures.ok c.deref.ensures.value
    (beginning_taken (lines_of c.deref.result.now) held _ held' _ _ _ ended.result other c.new-waiting.ensures.items
    c.name_unreadable-named.ensures.cut c.in_err-write_rest.ensures.failed ended.ensures.answer)

pub returns-in_err-write_rest-clause-ends : goal.returns-in_err-write_rest-clause-ends
returns-in_err-write_rest-clause-ends g c =
    let other : (c.obey_text-ended.result ≡ Err Device → ⊥) =
    λ e. false≢true (sym c.if-has_failed.false ∙ c.has_failed.ensures.other e) in
    inr (
      c.in_ok-input.ensures.ends,
      ends_unwritten g.W.Sink.writes g.W.Sink.fails (Unit {0}) c.args.writer.now c.obey_text-ended.new.writer
          c.write_rest.new.writer c.obey_text-ended.result _
          (fails_so _ _ Device c.from_residual-in_err-write_rest.ensures.1 c.in_err-write_rest.ensures.err) other
          c.obey_text-ended.ensures.ends c.in_err-write_rest.ensures.ends,
    )

pub returns-then-has_failed-clause-cut : goal.returns-then-has_failed-clause-cut
returns-then-has_failed-clause-cut g c =
    let ended = c.obey_text-ended in
    let held = g.W.Sink.contents c.args.writer.now in
    let held' = g.W.Sink.contents ended.new.writer in
    of_known (g.R.Source.remaining c.args.reader.now) c.in_ok-input.input.items c.deref.result.now
    (λ input. TakesBeginning (lines_of input) held held')
    c.in_ok-input.ensures.ok c.deref.ensures.value
    (failed_taken (lines_of c.deref.result.now) held held' _ _ ended.result
    (c.has_failed.ensures.failed c.if-has_failed.true) c.new-waiting.ensures.items ended.ensures.answer)

pub returns-then-has_failed-clause-ends : goal.returns-then-has_failed-clause-ends
returns-then-has_failed-clause-ends g c =
    inr (
      c.in_ok-input.ensures.ends,
      subst (λ r. WriterEnds g.W.Sink.writes g.W.Sink.fails
          {T = Unit {0}} c.args.writer.now r c.obey_text-ended.new.writer)
          (c.has_failed.ensures.failed c.if-has_failed.true) c.obey_text-ended.ensures.ends,
    )

pub returns-clause-read : goal.returns-clause-read
returns-clause-read g c =
    let named = c.name_unreadable-named in
    script_answered (g.R.Source.remaining c.args.reader.now) c.in_ok-input.input.items c.deref.result.now
    (g.W.Sink.contents c.args.writer.now) _ _ _ _ _ _ _ _
    c.in_ok-input.ensures.ok c.deref.ensures.value c.new-waiting.ensures.items named.ensures.device named.ensures.memory
    named.ensures.read c.in_ok-write_rest.ensures.handed c.in_ok-write_rest.ensures.empty
    c.obey_text-ended.ensures.answer

pub returns-clause-cut : goal.returns-clause-cut
returns-clause-cut g c =
    let other : (c.obey_text-ended.result ≡ Err Device → ⊥) =
    λ e. false≢true (sym c.if-has_failed.false ∙ c.has_failed.ensures.other e) in
    let ended = c.obey_text-ended in
    let held = g.W.Sink.contents c.args.writer.now in
    let held' = g.W.Sink.contents c.write_rest.new.writer in
    of_known (g.R.Source.remaining c.args.reader.now) c.in_ok-input.input.items c.deref.result.now
    (λ input. TakesBeginning (lines_of input) held held')
    c.in_ok-input.ensures.ok c.deref.ensures.value
    (beginning_taken (lines_of c.deref.result.now) held _ held' _ _ _ ended.result other c.new-waiting.ensures.items
    c.name_unreadable-named.ensures.cut
    (all_taken _ held' _ _ c.in_ok-write_rest.ensures.handed c.in_ok-write_rest.ensures.empty) ended.ensures.answer)

pub returns-clause-ends : goal.returns-clause-ends
returns-clause-ends g c =
    let other : (c.obey_text-ended.result ≡ Err Device → ⊥) =
    λ e. false≢true (sym c.if-has_failed.false ∙ c.has_failed.ensures.other e) in
    inr (
      c.in_ok-input.ensures.ends,
      ends_written g.W.Sink.writes g.W.Sink.fails
          (Unit {0}) c.args.writer.now c.obey_text-ended.new.writer c.write_rest.new.writer
          c.obey_text-ended.result _ other
          c.name_unreadable-named.ensures.other c.obey_text-ended.ensures.ends c.in_ok-write_rest.ensures.ends,
    )
