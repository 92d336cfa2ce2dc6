use Rattle.std.proofs.Common.{◌≡◌, [], ◌++◌, ap, sym, subst, refl, ◌∙◌, Err}
use Rattle.scripts.specs.Replies.{unreadable_text}
use Rattle.dialogs.specs.Answering.{AreAnswered}
use Rattle.dialogs.specs.Talks.{TalkEnds}
use Rattle.script_text.specs.declared.fault.ScriptFault.TheVariants.{Unreadable, Device, Memory}
use Rattle.script_dialogs.specs.DialogEnds.{WereAnswered}
use Rattle.script_dialogs.proofs.DialogCalls.{ends_written, ends_unwritten, ends_lacking, fails_so}
use Rattle.script_dialogs.proofs.DialogLemmas.{talk_ended, naming_lacks, named, naming_fails}
use Rattle.script_dialogs.proofs.dialogue.named_talk.Goals as goal

pub returns-in_default-clause-answers : goal.returns-in_default-clause-answers
returns-in_default-clause-answers g c =
    talk_ended g.A.Answerer.answers g.A.Answerer.refuses g.P.Source.remaining g.P.Sink.contents c.args.answerer.now
    (Unit {0}) c.args.peer.now c.talk-ended.new.peer
    c.talk-ended.result c.in_default.ensures c.talk-ended.ensures.answers

pub returns-in_err-push_unreadable-clause-answers : goal.returns-in_err-push_unreadable-clause-answers
returns-in_err-push_unreadable-clause-answers g c =
    naming_lacks g.A.Answerer.answers g.A.Answerer.refuses g.P.Source.remaining g.P.Sink.contents c.args.answerer.now
    c.args.peer.now c.talk-ended.new.peer c.in-Some.number
    (Unit {0}) c.talk-ended.result c.in-Some.ensures c.talk-ended.ensures.answers (Unit {0}) _
    (fails_so _ Memory Memory c.from_residual.ensures.1 refl)

pub returns-in_err-push_unreadable-clause-calls : goal.returns-in_err-push_unreadable-clause-calls
returns-in_err-push_unreadable-clause-calls g c =
    ends_lacking g.P.Source.reads g.P.Source.fails g.P.Sink.writes g.P.Sink.fails
    (WereAnswered (AreAnswered g.A.Answerer.answers g.A.Answerer.refuses c.args.answerer.now 0) g.P.Source.remaining
    g.P.Sink.contents c.args.peer.now)
    (Unit {0}) g.P.Source.remaining c.args.peer.now c.talk-ended.new.peer c.in-Some.number c.talk-ended.result _
    c.in-Some.ensures
    (fails_so _ Memory Memory c.from_residual.ensures.1 refl) c.talk-ended.ensures.calls

pub returns-in_err-write_rest-clause-answers : goal.returns-in_err-write_rest-clause-answers
returns-in_err-write_rest-clause-answers g c =
    let names : c.push_unreadable.new.text.items ≡ unreadable_text c.in-Some.number = c.in_ok-push_unreadable.ensures
    ∙ ap (λ l. l ++ unreadable_text c.in-Some.number) c.new-waiting.ensures.items in
    naming_fails g.A.Answerer.answers g.A.Answerer.refuses g.P.Source.remaining g.P.Sink.contents c.args.answerer.now
    c.args.peer.now c.talk-ended.new.peer c.in-Some.number
    (Unit {0}) c.talk-ended.result c.in-Some.ensures c.talk-ended.ensures.answers
    (Unit {0}) _ c.write_rest.new.writer c.push_unreadable.new.text.items
    (fails_so _ _ Device c.from_residual-in_err-write_rest.ensures.1 c.in_err-write_rest.ensures.err) names
    c.in_err-write_rest.ensures.failed

pub returns-in_err-write_rest-clause-calls : goal.returns-in_err-write_rest-clause-calls
returns-in_err-write_rest-clause-calls g c =
    ends_unwritten g.P.Source.reads g.P.Source.fails g.P.Sink.writes g.P.Sink.fails
    (WereAnswered (AreAnswered g.A.Answerer.answers g.A.Answerer.refuses c.args.answerer.now 0) g.P.Source.remaining
    g.P.Sink.contents c.args.peer.now)
    (Unit {0}) g.P.Source.remaining c.args.peer.now c.talk-ended.new.peer c.write_rest.new.writer c.in-Some.number
    c.talk-ended.result _ c.in-Some.ensures
    (fails_so _ _ Device c.from_residual-in_err-write_rest.ensures.1 c.in_err-write_rest.ensures.err)
    c.talk-ended.ensures.calls c.in_err-write_rest.ensures.ends

pub returns-clause-answers : goal.returns-clause-answers
returns-clause-answers g c =
    let names : c.push_unreadable.new.text.items ≡ unreadable_text c.in-Some.number = c.in_ok-push_unreadable.ensures
    ∙ ap (λ l. l ++ unreadable_text c.in-Some.number) c.new-waiting.ensures.items in
    named g.A.Answerer.answers g.A.Answerer.refuses g.P.Source.remaining g.P.Sink.contents c.args.answerer.now
    c.args.peer.now c.talk-ended.new.peer c.in-Some.number
    (Unit {0}) c.talk-ended.result c.in-Some.ensures c.talk-ended.ensures.answers c.write_rest.new.writer
    c.push_unreadable.new.text.items c.write_rest.new.waiting.items
    names c.in_ok-write_rest.ensures.handed c.in_ok-write_rest.ensures.empty

pub returns-clause-calls : goal.returns-clause-calls
returns-clause-calls g c =
    ends_written g.P.Source.reads g.P.Source.fails g.P.Sink.writes g.P.Sink.fails
    (WereAnswered (AreAnswered g.A.Answerer.answers g.A.Answerer.refuses c.args.answerer.now 0) g.P.Source.remaining
    g.P.Sink.contents c.args.peer.now)
    (Unit {0}) g.P.Source.remaining c.args.peer.now c.talk-ended.new.peer c.write_rest.new.writer c.in-Some.number
    c.talk-ended.result c.in-Some.ensures
    c.talk-ended.ensures.calls c.in_ok-write_rest.ensures.ends
