use Rattle.std.proofs.Common.{◌∙◌, ◌+◌, Ok, ap, inl, map, subst}
use Rattle.script_text.proofs.Calls.{calls_more}
use Rattle.example_answers.proofs.Words.{indexes_of, plain_lines, Prints}
use Rattle.example_answers.proofs.PrintLemmas.{ends_so, flushed, prints_so, so_far_none, unflushed}
use Rattle.example_answers.proofs.in_turn.print_in_turn.Goals as goal

pub returns-in_err-indexes-clause-prints : goal.returns-in_err-indexes-clause-prints
returns-in_err-indexes-clause-prints g c =
    let held = g.W.Sink.contents c.args.printer.now.writer in
    let indexes = indexes_of c.args.input.now in
    let none = so_far_none g.A.Answering.answers c.args.printer.now.is_first indexes held in
    prints_so g.A.Answering.answers c.args.printer.now.is_first indexes held held c.from_residual.result _
    c.from_residual.ensures.1
    (none.given, (0, none.answered), none.written)

pub returns-in_err-worst-clause-prints : goal.returns-in_err-worst-clause-prints
returns-in_err-worst-clause-prints g c =
    let held = g.W.Sink.contents c.args.printer.now.writer in
    let held' = g.W.Sink.contents c.print_indexes.new.printer.writer in
    let first = c.args.printer.now.is_first in
    let same = ap (map plain_lines) c.deref.ensures.value ∙ c.in_ok-indexes.ensures in
    subst (λ l. Prints g.A.Answering.answers first l held c.from_residual-in_err-worst.result held') same
    (prints_so g.A.Answering.answers first (map plain_lines c.deref.result.now) held held'
    c.from_residual-in_err-worst.result _ c.from_residual-in_err-worst.ensures.1 c.in_err-worst.ensures.prints)

pub returns-in_err-worst-clause-ends : goal.returns-in_err-worst-clause-ends
returns-in_err-worst-clause-ends g c =
    ends_so g.W.Sink.writes g.W.Sink.fails c.args.printer.now.writer c.print_indexes.new.printer.writer
    c.from_residual-in_err-worst.result _ c.from_residual-in_err-worst.ensures.1 c.in_err-worst.ensures.ends

pub returns-in_err-flush-clause-prints : goal.returns-in_err-flush-clause-prints
returns-in_err-flush-clause-prints g c =
    let held = g.W.Sink.contents c.args.printer.now.writer in
    let held' = g.W.Sink.contents c.print_indexes.new.printer.writer in
    let held'' = g.W.Sink.contents c.flush.new.self in
    let first = c.args.printer.now.is_first in
    let same = ap (map plain_lines) c.deref.ensures.value ∙ c.in_ok-indexes.ensures in
    let plain = map plain_lines c.deref.result.now in
    subst (λ l. Prints g.A.Answering.answers first l held c.from_residual-in_err-flush.result held'') same
    (prints_so g.A.Answering.answers first plain held held'' c.from_residual-in_err-flush.result _
    c.from_residual-in_err-flush.ensures.1
    (unflushed g.A.Answering.answers first plain held held' held'' c.in_ok-worst.worst c.in_ok-worst.ensures.prints
    c.flush.ensures.bytes))

pub returns-in_err-flush-clause-ends : goal.returns-in_err-flush-clause-ends
returns-in_err-flush-clause-ends g c =
    ends_so g.W.Sink.writes g.W.Sink.fails c.args.printer.now.writer c.flush.new.self
    c.from_residual-in_err-flush.result _
    c.from_residual-in_err-flush.ensures.1
    (inl (c.print_indexes.new.printer.writer, c.in_ok-worst.ensures.ends, c.in_err-flush.ensures.fails))

pub returns-clause-prints : goal.returns-clause-prints
returns-clause-prints g c =
    let held = g.W.Sink.contents c.args.printer.now.writer in
    let held' = g.W.Sink.contents c.print_indexes.new.printer.writer in
    let held'' = g.W.Sink.contents c.flush.new.self in
    let first = c.args.printer.now.is_first in
    let same = ap (map plain_lines) c.deref.ensures.value ∙ c.in_ok-indexes.ensures in
    subst (λ l. Prints g.A.Answering.answers first l held (Ok c.in_ok-worst.worst) held'') same
    (flushed g.A.Answering.answers first (map plain_lines c.deref.result.now) held held' held'' c.in_ok-worst.worst
    c.in_ok-worst.ensures.prints c.flush.ensures.bytes)

pub returns-clause-first : goal.returns-clause-first
returns-clause-first g c =
    let same = ap (map plain_lines) c.deref.ensures.value ∙ c.in_ok-indexes.ensures in
    rw same at c.in_ok-worst.ensures.first

pub returns-clause-ends : goal.returns-clause-ends
returns-clause-ends g c =
    let well = c.in_ok-worst.ensures.ends in (
      well.0 + 1,
      calls_more g.W.Sink.writes well.0 c.args.printer.now.writer c.print_indexes.new.printer.writer
          c.flush.new.self well.1
          c.in_ok-flush.ensures.writes,
    )
