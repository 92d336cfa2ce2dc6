use Rattle.std.proofs.Common.{◌∙◌, OnErr, string_bytes, subst}
use Rattle.example_answers.proofs.Words.{Appends, gap, TakesSome}
use Rattle.example_answers.proofs.PrintLemmas.{any_err, ends_behind, takes_behind, takes_more}
use Rattle.example_answers.proofs.printer.Printer.print.Goals as goal

pub returns-in_err-write_bytes-clause-failed : goal.returns-in_err-write_bytes-clause-failed
returns-in_err-write_bytes-clause-failed g c =
    let held = g.W.Sink.contents c.args.self.now.writer in
    let held' = g.W.Sink.contents c.write_bytes.new.writer in
    let same = c.as_bytes.ensures.value ∙ c.gap.ensures in
    any_err c.from_residual.result
    (takes_more held held' (gap c.args.self.now.is_first) (string_bytes c.args.answered.now.text)
    (subst (λ b. TakesSome held b held') same c.in_err-write_bytes.ensures.failed))

pub returns-clause-failed : goal.returns-clause-failed
returns-clause-failed g c =
    let held = g.W.Sink.contents c.args.self.now.writer in
    let held' = g.W.Sink.contents c.write_bytes.new.writer in
    let held'' = g.W.Sink.contents c.write_bytes-2.new.writer in
    let same = c.as_bytes.ensures.value ∙ c.gap.ensures in
    takes_behind held held' held'' (gap c.args.self.now.is_first) (string_bytes c.args.answered.now.text)
    c.write_bytes-2.result (subst (λ b. Appends held held' b) same c.in_ok-write_bytes.ensures.ok)
    (subst (λ b. OnErr c.write_bytes-2.result (TakesSome held' b held'')) c.as_bytes-2.ensures.value
    c.write_bytes-2.ensures.failed)

pub returns-clause-ends : goal.returns-clause-ends
returns-clause-ends g c =
    ends_behind g.W.Sink.writes g.W.Sink.fails c.args.self.now.writer c.write_bytes.new.writer
    c.write_bytes-2.new.writer
    c.write_bytes-2.result c.in_ok-write_bytes.ensures.ends c.write_bytes-2.ensures.ends
