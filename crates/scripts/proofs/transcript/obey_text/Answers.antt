use Rattle.std.proofs.Common.{subst, ap, ◌∙◌}
use Rattle.resolvo_store.specs.Store.{Store, gathered, new_store}
use Rattle.script_packages.specs.declared.packages.Packages.{Packages}
use Rattle.script_text.specs.Lines.{lines as lines_of}
use Rattle.scripts.specs.Commands.{ids_at}
use Rattle.scripts.specs.Ends.{HandsAnswer}
use Rattle.scripts.specs.Transcript.{Answered}
use Rattle.scripts.proofs.ScriptLemmas.{commands_answered, catalogue_faulty, never_begun, nothing_answered}
use Rattle.scripts.proofs.transcript.obey_text.Goals as goal

pub returns-in-Err-clause-answer : goal.returns-in-Err-clause-answer
returns-in-Err-clause-answer g c =
    catalogue_faulty _ _ (Unit {0}) c.in-Err.fault (lines_of c.args.text.now) _ _ c.in-Err.ensures.err

pub returns-in-Ok-None-clause-answer : goal.returns-in-Ok-None-clause-answer
returns-in-Ok-None-clause-answer g c =
    never_begun _ _ (Unit {0}) tt (lines_of c.args.text.now) _ _ (rw c.in-Ok-None.field-0-is at c.in-Ok-None.ensures.ok)

pub returns-in_default-clause-answer : goal.returns-in_default-clause-answer
returns-in_default-clause-answer g c = nothing_answered _ _ (Unit {0}) (lines_of c.args.text.now) _ _

pub returns-in-Ok-clause-answer : goal.returns-in-Ok-clause-answer
returns-in-Ok-clause-answer g c =
    let ids = ids_at g.D.NameId.DenseIndex.limit g.D.NameId.DenseIndex.id_at g.D.SolvableId.DenseIndex.limit
    g.D.SolvableId.DenseIndex.id_at in
    let functions = gathered g.D.NameId.PartialEq.eq g.D.SolvableId.PartialEq.eq g.D.NameId.Slots.IdMap.is_too_large
    g.D.SolvableId.Slots.IdMap.is_too_large g.D.SolvableId.Set.IdSet.is_too_large g.D.NameId.SolverId.are_many
    g.D.Interner.universe g.D.DependencyProvider.answers in
    let catalogue = c.in-Ok-Some.catalogue in
    let ended = c.obey_lines-ended in
    let left = lines_of catalogue.commands.now in
    let held = g.W.Sink.contents c.args.writer.now in
    let held' = g.W.Sink.contents ended.new.writer in
    commands_answered ids (λ (p : Packages). functions (g.D.OverPackages.made_of p))
    (lines_of c.args.text.now) catalogue.packages catalogue.line_count left
    (rw c.in-Ok-Some.field-0-is at c.in-Ok-Some.ensures.ok) ended.result held held' c.args.waiting.now.items
    ended.new.waiting.items
    (subst (λ (st : Store g.row.D-NameId.Denot g.row.D-SolvableId.Denot).
    HandsAnswer (Answered ids st catalogue.line_count) left held c.args.waiting.now.items ended.result held'
    ended.new.waiting.items)
    (c.in-Ok.ensures.ok ∙ ap (λ p. new_store (functions p)) (c.in-Ok.ensures.provider ∙ c.over.ensures))
    ended.ensures.answer)
