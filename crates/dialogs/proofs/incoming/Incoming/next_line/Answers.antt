use Rattle.std.proofs.Common.{◌≡◌, Ok, ap, subst, take, length, arith, ◌∙◌}
use Rattle.dialogs.specs.LineReads.{IsFed, HasNoFeed}
use Rattle.dialogs.proofs.NextLines.{not_both, if_ok, few_more, none_more, one_more, fed_line, last_line, none_came}
use Rattle.dialogs.proofs.incoming.Incoming.next_line.Goals as goal

pub loop-preserved : goal.loop-preserved
loop-preserved g c =
    let (bytes, taken, is) = c.in_ok-self.ensures.bytes in
    let count : c.len-looked.result ≡ length c.loop.self.held.items =
    omega (arith, c.len-looked.ensures, c.loop.self.held.ok) in
    let unfed : HasNoFeed c.loop.self.held.items = subst HasNoFeed c.deref.ensures.value c.in_default.ensures in
    record {
      few = few_more c.len-looked.result c.loop.self.held.items bytes c.read_piece.new.input.items count is;
      none = none_more c.len-looked.result c.loop.self.held.items bytes c.read_piece.new.input.items count is unfed;
      reads = one_more g.S.Source.remaining g.S.Source.reads g.S.Source.fails c.loop.counter c.args.reader.now
          c.loop.reader c.read_piece.new.reader
          c.args.self.now.held.items c.loop.self.held.items c.read_piece.new.input.items c.loop.invariant.reads unfed
          c.in_ok-self.ensures.read (bytes, taken, is);
      ended = λ e. absurd (not_both c.loop.self.is_whole (c.loop.invariant.ended e).1 c.if-self.false);
      whole = λ h. c.in_ok-self.ensures.end (ap Ok h);
    }

pub returns-in-Some-clause-ok : goal.returns-in-Some-clause-ok
returns-in-Some-clause-ok g c =
    if_ok c.take.result _ _ (λ line h.
    fed_line g.S.Source.remaining g.S.Source.reads g.S.Source.fails c.loop.counter c.args.reader.now c.loop.reader
    c.args.self.now.held.items c.loop.self.held.items
    line.items c.take.new.self.held.items c.args.self.now.is_whole c.take.new.self.is_whole c.in-Some.end
    c.loop.invariant.reads
    (λ e. ((c.loop.invariant.ended e).0, c.take.ensures.whole ∙ (c.loop.invariant.ended e).1)) h.0 h.1
    (subst (λ t. IsFed (take c.in-Some.end t)) c.deref.ensures.value c.in-Some.ensures.1)) c.take.ensures.ok

pub returns-then-self-clause-ok : goal.returns-then-self-clause-ok
returns-then-self-clause-ok g c =
    let count : c.len-looked.result ≡ length c.loop.self.held.items =
    omega (arith, c.len-looked.ensures, c.loop.self.held.ok) in
    if_ok c.take-then-self.result _ _ (λ line h.
    last_line g.S.Source.remaining g.S.Source.reads g.S.Source.fails c.loop.counter c.args.reader.now c.loop.reader
    c.args.self.now.held.items c.loop.self.held.items
    line.items c.take-then-self.new.self.held.items c.args.self.now.is_whole c.take-then-self.new.self.is_whole
    c.len-looked.result c.loop.invariant.reads
    (λ e. ((c.loop.invariant.ended e).0, c.take-then-self.ensures.whole ∙ (c.loop.invariant.ended e).1)) h.0 h.1
    count (subst HasNoFeed c.deref.ensures.value c.in_default.ensures) (c.take-then-self.ensures.whole
    ∙ c.if-self.true)) c.take-then-self.ensures.ok

pub returns-clause-err : goal.returns-clause-err
returns-clause-err g c =
    none_came g.S.Source.remaining g.S.Source.reads g.S.Source.fails c.loop.counter c.args.reader.now c.loop.reader
    c.args.self.now.held.items c.loop.self.held.items
    c.args.self.now.is_whole c.loop.self.is_whole c.loop-test.false c.loop.invariant.reads c.loop.invariant.ended
