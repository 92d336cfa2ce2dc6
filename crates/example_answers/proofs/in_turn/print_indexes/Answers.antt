use Rattle.std.proofs.Common.{◌≤◌, List, arith, length, map, refl, string_bytes, subst}
use Rattle.std.proofs.Common.{◌≤◌, List, arith, length, map, refl, string_bytes, subst}
use Rattle.std.proofs.lemmas.List.{length-map}
use Rattle.script_text.proofs.Calls.{GivesUp-after, GoesWell-trans}
use Rattle.example_answers.proofs.Words.{Line, plain_line, plain_lines}
use Rattle.example_answers.proofs.PrintLemmas.{all_answered, ends_so, failed_at, first_after_all, next_of, prints_so}
use Rattle.example_answers.proofs.PrintLemmas.{so_far_more, so_far_none}
use Rattle.example_answers.proofs.in_turn.print_indexes.Goals as goal

pub loop-lines-init : goal.loop-lines-init
loop-lines-init g c = record {
  so_far = so_far_none g.A.Answering.answers c.args.printer.now.is_first (map plain_lines c.args.indexes.now)
      (g.W.Sink.contents c.args.printer.now.writer);
  writer = (0, refl);
}

pub loop-lines-preserved : goal.loop-lines-preserved
loop-lines-preserved g c =
    let lines = c.lines-item.result in
    let answered = c.in_ok-answered.answered in
    let answers = subst (λ (l : List Line). g.A.Answering.answers (map plain_line l) answered.outcome
    (string_bytes answered.text)) c.deref.ensures.value c.in_ok-answered.ensures in
    let more = next_of plain_lines c.args.indexes.now c.loop-lines.lines-index lines (omega arith) c.lines-item.is in
    record {
      so_far = so_far_more g.A.Answering.answers c.args.printer.now.is_first (map plain_lines c.args.indexes.now)
          (g.W.Sink.contents c.args.printer.now.writer) (g.W.Sink.contents c.loop-lines.printer.writer)
          c.loop-lines.lines-index
          (map plain_line lines.items) (g.W.Sink.contents c.print.new.self.writer) c.loop-lines.printer.is_first
          c.print.new.self.is_first c.loop-lines.worst c.worse-worst.result answered.outcome
          (string_bytes answered.text) c.loop-lines.invariant.so_far more answers
          c.in_ok-print.ensures.ok c.in_ok-print.ensures.first c.worse-worst.ensures;
      writer = GoesWell-trans g.W.Sink.writes g.W.Sink.fails c.args.printer.now.writer c.loop-lines.printer.writer
          c.print.new.self.writer c.loop-lines.invariant.writer c.in_ok-print.ensures.ends;
    }

pub returns-in_err-answered-clause-prints : goal.returns-in_err-answered-clause-prints
returns-in_err-answered-clause-prints g c =
    let so_far = c.loop-lines.invariant.so_far in
    prints_so g.A.Answering.answers c.args.printer.now.is_first (map plain_lines c.args.indexes.now)
    (g.W.Sink.contents c.args.printer.now.writer) (g.W.Sink.contents c.loop-lines.printer.writer)
    c.from_residual.result _
    c.from_residual.ensures.1
    (so_far.given, (c.loop-lines.lines-index, so_far.answered), so_far.written)

pub returns-in_err-answered-clause-ends : goal.returns-in_err-answered-clause-ends
returns-in_err-answered-clause-ends g c =
    ends_so g.W.Sink.writes g.W.Sink.fails c.args.printer.now.writer c.loop-lines.printer.writer
    c.from_residual.result _
    c.from_residual.ensures.1
    c.loop-lines.invariant.writer

pub returns-in_err-print-clause-prints : goal.returns-in_err-print-clause-prints
returns-in_err-print-clause-prints g c =
    let lines = c.lines-item.result in
    let answered = c.in_ok-answered.answered in
    let answers = subst (λ (l : List Line). g.A.Answering.answers (map plain_line l) answered.outcome
    (string_bytes answered.text)) c.deref.ensures.value c.in_ok-answered.ensures in
    let more = next_of plain_lines c.args.indexes.now c.loop-lines.lines-index lines (omega arith) c.lines-item.is in
    prints_so g.A.Answering.answers c.args.printer.now.is_first (map plain_lines c.args.indexes.now)
    (g.W.Sink.contents c.args.printer.now.writer) (g.W.Sink.contents c.print.new.self.writer)
    c.from_residual-in_err-print.result _ c.from_residual-in_err-print.ensures.1
    (failed_at g.A.Answering.answers c.args.printer.now.is_first (map plain_lines c.args.indexes.now)
    (g.W.Sink.contents c.args.printer.now.writer) (g.W.Sink.contents c.loop-lines.printer.writer)
    c.loop-lines.lines-index
    (map plain_line lines.items) (g.W.Sink.contents c.print.new.self.writer) c.loop-lines.printer.is_first
    c.loop-lines.worst answered.outcome (string_bytes answered.text)
    c.loop-lines.invariant.so_far more answers
    c.in_err-print.ensures.failed)

pub returns-in_err-print-clause-ends : goal.returns-in_err-print-clause-ends
returns-in_err-print-clause-ends g c =
    ends_so g.W.Sink.writes g.W.Sink.fails c.args.printer.now.writer c.print.new.self.writer
    c.from_residual-in_err-print.result _ c.from_residual-in_err-print.ensures.1
    (GivesUp-after g.W.Sink.writes g.W.Sink.fails c.args.printer.now.writer c.loop-lines.printer.writer
    c.print.new.self.writer
    c.loop-lines.invariant.writer c.in_err-print.ensures.ends)

pub returns-clause-prints : goal.returns-clause-prints
returns-clause-prints g c =
    let indexes = map plain_lines c.args.indexes.now in
    let all : length indexes ≤ c.loop-lines.lines-index = rw (length-map c.args.indexes.now plain_lines)
    (omega arith) in
    all_answered g.A.Answering.answers c.args.printer.now.is_first indexes (g.W.Sink.contents c.args.printer.now.writer)
    (g.W.Sink.contents c.loop-lines.printer.writer) c.loop-lines.lines-index c.loop-lines.printer.is_first
    c.loop-lines.worst
    c.loop-lines.invariant.so_far all

pub returns-clause-first : goal.returns-clause-first
returns-clause-first g c =
    let indexes = map plain_lines c.args.indexes.now in
    let all : length indexes ≤ c.loop-lines.lines-index = rw (length-map c.args.indexes.now plain_lines)
    (omega arith) in
    first_after_all g.A.Answering.answers c.args.printer.now.is_first indexes
    (g.W.Sink.contents c.args.printer.now.writer)
    (g.W.Sink.contents c.loop-lines.printer.writer) c.loop-lines.lines-index c.loop-lines.printer.is_first
    c.loop-lines.worst
    c.loop-lines.invariant.so_far all

pub returns-clause-ends : goal.returns-clause-ends
returns-clause-ends g c = c.loop-lines.invariant.writer
