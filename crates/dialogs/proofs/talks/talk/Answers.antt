use Rattle.std.proofs.Common.{◌≡◌, [], ◌∷◌, ◌++◌, ap, sym, subst, refl, ◌∙◌, Err}
use Rattle.std.specs.Io.KnownBytes.{Appends, IsAtEnd}
use Rattle.script_text.specs.Lines.{lines as lines_of}
use Rattle.script_text.specs.Output.{TakesSome}
use Rattle.dialogs.proofs.Ends.{is_err, handed_all, calls_keep, never_begun, line_fails, all_answered, line_faulty_at}
use Rattle.dialogs.proofs.Ends.{writing_fails, answered_on, too_many}
use Rattle.dialogs.proofs.NextLines.{not_both}
use Rattle.dialogs.proofs.SoFar.{at_first, line_held}
use Rattle.dialogs.proofs.talks.talk.Goals as goal

pub returns-in_err-incoming-clause-answers : goal.returns-in_err-incoming-clause-answers
returns-in_err-incoming-clause-answers g c =
    (never_begun g.A.Answerer.answers g.A.Answerer.refuses g.P.Source.remaining g.P.Sink.contents g.P.Source.reads
    g.P.Source.fails g.P.Sink.writes g.P.Sink.fails
    (Unit {0}) c.args.answerer.now c.args.peer.now c.from_residual.result (is_err _ _ c.from_residual.ensures.1
    ∙ ap Err c.in_err-incoming.ensures.err)).0

pub returns-in_err-incoming-clause-calls : goal.returns-in_err-incoming-clause-calls
returns-in_err-incoming-clause-calls g c =
    (never_begun g.A.Answerer.answers g.A.Answerer.refuses g.P.Source.remaining g.P.Sink.contents g.P.Source.reads
    g.P.Source.fails g.P.Sink.writes g.P.Sink.fails
    (Unit {0}) c.args.answerer.now c.args.peer.now c.from_residual.result (is_err _ _ c.from_residual.ensures.1
    ∙ ap Err c.in_err-incoming.ensures.err)).1

pub loop-number-init : goal.loop-number-init
loop-number-init g c = record {
  so_far = at_first g.A.Answerer.answers g.A.Answerer.refuses g.P.Source.remaining g.P.Sink.contents g.P.Source.reads
      g.P.Source.fails g.P.Sink.writes g.P.Sink.fails
      c.args.answerer.now c.args.peer.now c.in_ok-incoming.incoming.held.items c.in_ok-incoming.incoming.is_whole
      c.in_ok-incoming.ensures.ok.0 c.in_ok-incoming.ensures.ok.1;
  at_end = λ h. absurd (not_both c.in_ok-incoming.incoming.is_whole h c.in_ok-incoming.ensures.ok.1);
  none = c.new-answer.ensures.items;
}

pub next_line-requires : goal.next_line-requires
next_line-requires g c = c.loop-number.invariant.at_end

pub returns-in_err-line-clause-answers : goal.returns-in_err-line-clause-answers
returns-in_err-line-clause-answers g c =
    (line_fails g.A.Answerer.answers g.A.Answerer.refuses g.P.Source.remaining g.P.Sink.contents g.P.Source.reads
    g.P.Source.fails g.P.Sink.writes g.P.Sink.fails
    c.args.answerer.now c.args.peer.now c.loop-number.answerer c.loop-number.number g.met.P.Peer.read_keeps
    g.met.P.Peer.failed_read_keeps (Unit {0}) c.loop-number.peer c.next_line.new.reader
    c.loop-number.incoming.held.items c.loop-number.incoming.is_whole c.from_residual-in_err-line.result _
    (is_err _ _ c.from_residual-in_err-line.ensures.1)
    c.in_err-line.ensures.err c.loop-number.invariant.so_far).0

pub returns-in_err-line-clause-calls : goal.returns-in_err-line-clause-calls
returns-in_err-line-clause-calls g c =
    (line_fails g.A.Answerer.answers g.A.Answerer.refuses g.P.Source.remaining g.P.Sink.contents g.P.Source.reads
    g.P.Source.fails g.P.Sink.writes g.P.Sink.fails
    c.args.answerer.now c.args.peer.now c.loop-number.answerer c.loop-number.number g.met.P.Peer.read_keeps
    g.met.P.Peer.failed_read_keeps (Unit {0}) c.loop-number.peer c.next_line.new.reader
    c.loop-number.incoming.held.items c.loop-number.incoming.is_whole c.from_residual-in_err-line.result _
    (is_err _ _ c.from_residual-in_err-line.ensures.1)
    c.in_err-line.ensures.err c.loop-number.invariant.so_far).1

pub returns-in_default-clause-answers : goal.returns-in_default-clause-answers
returns-in_default-clause-answers g c =
    (all_answered g.A.Answerer.answers g.A.Answerer.refuses g.P.Source.remaining g.P.Sink.contents g.P.Source.reads
    g.P.Source.fails g.P.Sink.writes g.P.Sink.fails
    c.args.answerer.now c.args.peer.now c.loop-number.answerer c.loop-number.number
    (Unit {0}) tt c.next_line.new.reader c.in_ok-line.line.items c.next_line.new.self.held.items
    c.next_line.new.self.is_whole c.in_ok-line.ensures.ok.3 c.in_ok-line.ensures.whole
    (subst (λ l. lines_of l ≡ []) c.deref.ensures.value c.in_default.ensures.first)
    (line_held g.A.Answerer.answers g.A.Answerer.refuses g.P.Source.remaining g.P.Sink.contents g.P.Source.reads
    g.P.Source.fails g.P.Sink.writes g.P.Sink.fails
    c.args.answerer.now c.args.peer.now c.loop-number.answerer c.loop-number.number g.met.P.Peer.read_keeps
    c.loop-number.peer c.next_line.new.reader c.loop-number.incoming.held.items c.in_ok-line.line.items
    c.next_line.new.self.held.items c.loop-number.incoming.is_whole c.next_line.new.self.is_whole
    c.in_ok-line.ensures.ok c.loop-number.invariant.so_far)).0

pub returns-in_default-clause-calls : goal.returns-in_default-clause-calls
returns-in_default-clause-calls g c =
    (all_answered g.A.Answerer.answers g.A.Answerer.refuses g.P.Source.remaining g.P.Sink.contents g.P.Source.reads
    g.P.Source.fails g.P.Sink.writes g.P.Sink.fails
    c.args.answerer.now c.args.peer.now c.loop-number.answerer c.loop-number.number
    (Unit {0}) tt c.next_line.new.reader c.in_ok-line.line.items c.next_line.new.self.held.items
    c.next_line.new.self.is_whole c.in_ok-line.ensures.ok.3 c.in_ok-line.ensures.whole
    (subst (λ l. lines_of l ≡ []) c.deref.ensures.value c.in_default.ensures.first)
    (line_held g.A.Answerer.answers g.A.Answerer.refuses g.P.Source.remaining g.P.Sink.contents g.P.Source.reads
    g.P.Source.fails g.P.Sink.writes g.P.Sink.fails
    c.args.answerer.now c.args.peer.now c.loop-number.answerer c.loop-number.number g.met.P.Peer.read_keeps
    c.loop-number.peer c.next_line.new.reader c.loop-number.incoming.held.items c.in_ok-line.line.items
    c.next_line.new.self.held.items c.loop-number.incoming.is_whole c.next_line.new.self.is_whole
    c.in_ok-line.ensures.ok c.loop-number.invariant.so_far)).1

pub returns-in-Err-clause-answers : goal.returns-in-Err-clause-answers
returns-in-Err-clause-answers g c =
    let (start, is, means) = c.in-Some.ensures.first in
    (line_faulty_at g.A.Answerer.answers g.A.Answerer.refuses g.P.Source.remaining g.P.Sink.contents g.P.Source.reads
    g.P.Source.fails g.P.Sink.writes g.P.Sink.fails
    c.args.answerer.now c.args.peer.now c.loop-number.answerer c.loop-number.number c.next_line.new.reader
    c.in_ok-line.line.items c.next_line.new.self.held.items start
    (lines_of c.in-Some.field-0-1.now) c.next_line.new.self.is_whole c.in_ok-line.ensures.ok.3
    c.in_ok-line.ensures.whole (subst (λ l. lines_of l ≡ start ∷ lines_of c.in-Some.field-0-1.now)
    c.deref.ensures.value is)
    (line_held g.A.Answerer.answers g.A.Answerer.refuses g.P.Source.remaining g.P.Sink.contents g.P.Source.reads
    g.P.Source.fails g.P.Sink.writes g.P.Sink.fails
    c.args.answerer.now c.args.peer.now c.loop-number.answerer c.loop-number.number g.met.P.Peer.read_keeps
    c.loop-number.peer c.next_line.new.reader c.loop-number.incoming.held.items c.in_ok-line.line.items
    c.next_line.new.self.held.items c.loop-number.incoming.is_whole c.next_line.new.self.is_whole
    c.in_ok-line.ensures.ok c.loop-number.invariant.so_far)
    (Unit {0}) c.in-Err.fault c.at.result c.at.ensures (λ e. c.in-Err.ensures.unreadable (ap Err e) start means)).0

pub returns-in-Err-clause-calls : goal.returns-in-Err-clause-calls
returns-in-Err-clause-calls g c =
    let (start, is, means) = c.in-Some.ensures.first in
    (line_faulty_at g.A.Answerer.answers g.A.Answerer.refuses g.P.Source.remaining g.P.Sink.contents g.P.Source.reads
    g.P.Source.fails g.P.Sink.writes g.P.Sink.fails
    c.args.answerer.now c.args.peer.now c.loop-number.answerer c.loop-number.number c.next_line.new.reader
    c.in_ok-line.line.items c.next_line.new.self.held.items start
    (lines_of c.in-Some.field-0-1.now) c.next_line.new.self.is_whole c.in_ok-line.ensures.ok.3
    c.in_ok-line.ensures.whole (subst (λ l. lines_of l ≡ start ∷ lines_of c.in-Some.field-0-1.now)
    c.deref.ensures.value is)
    (line_held g.A.Answerer.answers g.A.Answerer.refuses g.P.Source.remaining g.P.Sink.contents g.P.Source.reads
    g.P.Source.fails g.P.Sink.writes g.P.Sink.fails
    c.args.answerer.now c.args.peer.now c.loop-number.answerer c.loop-number.number g.met.P.Peer.read_keeps
    c.loop-number.peer c.next_line.new.reader c.loop-number.incoming.held.items c.in_ok-line.line.items
    c.next_line.new.self.held.items c.loop-number.incoming.is_whole c.next_line.new.self.is_whole
    c.in_ok-line.ensures.ok c.loop-number.invariant.so_far)
    (Unit {0}) c.in-Err.fault c.at.result c.at.ensures (λ e. c.in-Err.ensures.unreadable (ap Err e) start means)).1

pub returns-in_err-write_rest-clause-answers : goal.returns-in_err-write_rest-clause-answers
returns-in_err-write_rest-clause-answers g c =
    let (start, is, means) = c.in-Some.ensures.first in
    let (own, answered, put) = c.in-Ok.ensures.answered start means in
    let all : c.answer.new.text.items ≡ own = put ∙ ap (λ l. l ++ own) c.loop-number.invariant.none in
    (writing_fails g.A.Answerer.answers g.A.Answerer.refuses g.P.Source.remaining g.P.Sink.contents g.P.Source.reads
    g.P.Source.fails g.P.Sink.writes g.P.Sink.fails
    c.args.answerer.now c.args.peer.now c.loop-number.answerer c.loop-number.number c.next_line.new.reader
    c.in_ok-line.line.items c.next_line.new.self.held.items start
    (lines_of c.in-Some.field-0-1.now) c.next_line.new.self.is_whole c.in_ok-line.ensures.ok.3
    c.in_ok-line.ensures.whole (subst (λ l. lines_of l ≡ start ∷ lines_of c.in-Some.field-0-1.now)
    c.deref.ensures.value is)
    (line_held g.A.Answerer.answers g.A.Answerer.refuses g.P.Source.remaining g.P.Sink.contents g.P.Source.reads
    g.P.Source.fails g.P.Sink.writes g.P.Sink.fails
    c.args.answerer.now c.args.peer.now c.loop-number.answerer c.loop-number.number g.met.P.Peer.read_keeps
    c.loop-number.peer c.next_line.new.reader c.loop-number.incoming.held.items c.in_ok-line.line.items
    c.next_line.new.self.held.items c.loop-number.incoming.is_whole c.next_line.new.self.is_whole
    c.in_ok-line.ensures.ok c.loop-number.invariant.so_far)
    (Unit {0}) c.write_rest.new.writer own c.answer.new.self c.from_residual-in_err-write_rest.result
    (is_err _ _ c.from_residual-in_err-write_rest.ensures.1 ∙ ap Err c.in_err-write_rest.ensures.err) answered
    (subst (λ w. TakesSome (g.P.Sink.contents c.next_line.new.reader) w (g.P.Sink.contents c.write_rest.new.writer))
    all c.in_err-write_rest.ensures.failed)
    c.in_err-write_rest.ensures.ends).0

pub returns-in_err-write_rest-clause-calls : goal.returns-in_err-write_rest-clause-calls
returns-in_err-write_rest-clause-calls g c =
    let (start, is, means) = c.in-Some.ensures.first in
    let (own, answered, put) = c.in-Ok.ensures.answered start means in
    let all : c.answer.new.text.items ≡ own = put ∙ ap (λ l. l ++ own) c.loop-number.invariant.none in
    (writing_fails g.A.Answerer.answers g.A.Answerer.refuses g.P.Source.remaining g.P.Sink.contents g.P.Source.reads
    g.P.Source.fails g.P.Sink.writes g.P.Sink.fails
    c.args.answerer.now c.args.peer.now c.loop-number.answerer c.loop-number.number c.next_line.new.reader
    c.in_ok-line.line.items c.next_line.new.self.held.items start
    (lines_of c.in-Some.field-0-1.now) c.next_line.new.self.is_whole c.in_ok-line.ensures.ok.3
    c.in_ok-line.ensures.whole (subst (λ l. lines_of l ≡ start ∷ lines_of c.in-Some.field-0-1.now)
    c.deref.ensures.value is)
    (line_held g.A.Answerer.answers g.A.Answerer.refuses g.P.Source.remaining g.P.Sink.contents g.P.Source.reads
    g.P.Source.fails g.P.Sink.writes g.P.Sink.fails
    c.args.answerer.now c.args.peer.now c.loop-number.answerer c.loop-number.number g.met.P.Peer.read_keeps
    c.loop-number.peer c.next_line.new.reader c.loop-number.incoming.held.items c.in_ok-line.line.items
    c.next_line.new.self.held.items c.loop-number.incoming.is_whole c.next_line.new.self.is_whole
    c.in_ok-line.ensures.ok c.loop-number.invariant.so_far)
    (Unit {0}) c.write_rest.new.writer own c.answer.new.self c.from_residual-in_err-write_rest.result
    (is_err _ _ c.from_residual-in_err-write_rest.ensures.1 ∙ ap Err c.in_err-write_rest.ensures.err) answered
    (subst (λ w. TakesSome (g.P.Sink.contents c.next_line.new.reader) w (g.P.Sink.contents c.write_rest.new.writer))
    all c.in_err-write_rest.ensures.failed)
    c.in_err-write_rest.ensures.ends).1

pub loop-number-preserved : goal.loop-number-preserved
loop-number-preserved g c =
    let (start, is, means) = c.in-Some.ensures.first in
    let (own, answered, put) = c.in-Ok.ensures.answered start means in
    let all : c.answer.new.text.items ≡ own = put ∙ ap (λ l. l ++ own) c.loop-number.invariant.none in
    let written : Appends (g.P.Sink.contents c.next_line.new.reader)
    (g.P.Sink.contents c.write_rest.new.writer) c.answer.new.text.items =
    handed_all (g.P.Sink.contents c.next_line.new.reader) (g.P.Sink.contents c.write_rest.new.writer)
    c.answer.new.text.items c.write_rest.new.waiting.items
    c.in_ok-write_rest.ensures.handed c.in_ok-write_rest.ensures.empty in
    let (calls, made) = c.in_ok-write_rest.ensures.ends in
    record {
      so_far = answered_on g.A.Answerer.answers g.A.Answerer.refuses g.P.Source.remaining g.P.Sink.contents
          g.P.Source.reads g.P.Source.fails g.P.Sink.writes g.P.Sink.fails
          c.args.answerer.now c.args.peer.now c.loop-number.answerer c.loop-number.number c.next_line.new.reader
          c.in_ok-line.line.items c.next_line.new.self.held.items start
          (lines_of c.in-Some.field-0-1.now) c.next_line.new.self.is_whole c.in_ok-line.ensures.ok.3
          c.in_ok-line.ensures.whole (subst (λ l. lines_of l ≡ start ∷ lines_of c.in-Some.field-0-1.now)
          c.deref.ensures.value is)
          (line_held g.A.Answerer.answers g.A.Answerer.refuses g.P.Source.remaining g.P.Sink.contents
          g.P.Source.reads g.P.Source.fails g.P.Sink.writes g.P.Sink.fails
          c.args.answerer.now c.args.peer.now c.loop-number.answerer c.loop-number.number g.met.P.Peer.read_keeps
          c.loop-number.peer c.next_line.new.reader c.loop-number.incoming.held.items c.in_ok-line.line.items
          c.next_line.new.self.held.items c.loop-number.incoming.is_whole c.next_line.new.self.is_whole
          c.in_ok-line.ensures.ok c.loop-number.invariant.so_far)
          c.write_rest.new.writer own c.answer.new.self g.met.P.Peer.write_keeps answered
          (subst (Appends (g.P.Sink.contents c.next_line.new.reader) (g.P.Sink.contents c.write_rest.new.writer)) all
          written)
          (calls, made);
      at_end = λ h. subst IsAtEnd (sym
          (calls_keep g.P.Source.remaining g.P.Sink.writes g.met.P.Peer.write_keeps calls c.next_line.new.reader
          c.write_rest.new.writer made))
          (c.in_ok-line.ensures.whole h);
      none = c.in_ok-write_rest.ensures.empty;
    }

pub returns-clause-answers : goal.returns-clause-answers
returns-clause-answers g c =
    (too_many g.A.Answerer.answers g.A.Answerer.refuses g.P.Source.remaining g.P.Sink.contents g.P.Source.reads
    g.P.Source.fails g.P.Sink.writes g.P.Sink.fails
    c.args.answerer.now c.args.peer.now c.loop-number.answerer c.loop-number.number
    (Unit {0}) _ c.loop-number.peer c.loop-number.incoming.held.items c.loop-number.incoming.is_whole refl
    c.loop-number-test.false c.loop-number.invariant.so_far).0

pub returns-clause-calls : goal.returns-clause-calls
returns-clause-calls g c =
    (too_many g.A.Answerer.answers g.A.Answerer.refuses g.P.Source.remaining g.P.Sink.contents g.P.Source.reads
    g.P.Source.fails g.P.Sink.writes g.P.Sink.fails
    c.args.answerer.now c.args.peer.now c.loop-number.answerer c.loop-number.number
    (Unit {0}) _ c.loop-number.peer c.loop-number.incoming.held.items c.loop-number.incoming.is_whole refl
    c.loop-number-test.false c.loop-number.invariant.so_far).1
