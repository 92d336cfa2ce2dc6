use Rattle.resolvo_store.specs.Store.{store_of, gathered}
use Rattle.script_packages.specs.declared.packages.Packages.{Packages}
use Rattle.scripts.specs.Commands.{ids_at}
use Rattle.scripts.specs.Scripts.{ScriptLinesAnswered}
use Rattle.script_dialogs.proofs.DialogCalls.{ends_also}
use Rattle.script_dialogs.proofs.DialogLemmas.{answers_as, ready_as}
use Rattle.script_dialogs.proofs.LineLemmas.{OneByOne, lines_answered}
use Rattle.script_dialogs.proofs.dialogue.dialog_over.Goals as goal

pub returns-clause-answers : goal.returns-clause-answers
returns-clause-answers g c =
    let ids = ids_at g.D.NameId.DenseIndex.limit g.D.NameId.DenseIndex.id_at g.D.SolvableId.DenseIndex.limit
    g.D.SolvableId.DenseIndex.id_at in
    let functions = gathered g.D.NameId.PartialEq.eq g.D.SolvableId.PartialEq.eq g.D.NameId.Slots.IdMap.is_too_large
    g.D.SolvableId.Slots.IdMap.is_too_large g.D.SolvableId.Set.IdSet.is_too_large g.D.NameId.SolverId.are_many
    g.D.Interner.universe g.D.DependencyProvider.answers in
    let store = store_of functions g.D.NameId.Scores.IdMap.value_at in
    let provided = λ (p : Packages). functions (g.D.OverPackages.made_of p) in
    answers_as (OneByOne ids provided (λ a. a.stage) store c.new-lines.result 0) (ScriptLinesAnswered ids provided)
    (λ lines text faulty. lines_answered ids provided (λ a. a.stage) store c.new-lines.result lines text faulty
    c.new-lines.ensures)
    g.P.Source.remaining g.P.Sink.contents (Unit {0}) c.args.peer.now c.named_talk-ended.new.peer
    c.named_talk-ended.result c.named_talk-ended.ensures.answers

pub returns-clause-calls : goal.returns-clause-calls
returns-clause-calls g c =
    let ids = ids_at g.D.NameId.DenseIndex.limit g.D.NameId.DenseIndex.id_at g.D.SolvableId.DenseIndex.limit
    g.D.SolvableId.DenseIndex.id_at in
    let functions = gathered g.D.NameId.PartialEq.eq g.D.SolvableId.PartialEq.eq g.D.NameId.Slots.IdMap.is_too_large
    g.D.SolvableId.Slots.IdMap.is_too_large g.D.SolvableId.Set.IdSet.is_too_large g.D.NameId.SolverId.are_many
    g.D.Interner.universe g.D.DependencyProvider.answers in
    let store = store_of functions g.D.NameId.Scores.IdMap.value_at in
    let provided = λ (p : Packages). functions (g.D.OverPackages.made_of p) in
    ends_also g.P.Source.reads g.P.Source.fails g.P.Sink.writes g.P.Sink.fails _ _
    (ready_as (OneByOne ids provided (λ a. a.stage) store c.new-lines.result 0) (ScriptLinesAnswered ids provided)
    (λ lines text faulty. lines_answered ids provided (λ a. a.stage) store c.new-lines.result lines text faulty
    c.new-lines.ensures)
    g.P.Source.remaining g.P.Sink.contents c.args.peer.now)
    g.P.Source.remaining c.args.peer.now c.named_talk-ended.new.peer c.named_talk-ended.result
    c.named_talk-ended.ensures.calls
