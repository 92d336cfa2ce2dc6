use Rattle.std.proofs.Common.{◌∙◌, [], append-nil, subst}
use Rattle.std.proofs.KnownBytes.{Appends-kept}
use Rattle.example_answers.proofs.Words.{Appends, gap}
use Rattle.example_answers.proofs.PrintLemmas.{any_err}
use Rattle.example_answers.proofs.printer.Printer.end_line.Goals as goal

pub returns-clause-failed : goal.returns-clause-failed
returns-clause-failed g c =
    let held = g.W.Sink.contents c.args.self.now.writer in
    let held' = g.W.Sink.contents c.write_bytes.new.writer in
    let held'' = g.W.Sink.contents c.flush.new.self in
    let end = gap c.args.self.now.is_first in
    let same = c.as_bytes.ensures.value ∙ c.gap-end.ensures in
    any_err c.flush.result (
      end,
      [],
      Appends-kept held held' held'' end (subst (λ b. Appends held held' b) same c.in_ok-write_bytes.ensures.ok)
          c.flush.ensures.bytes,
      append-nil end,
    )
