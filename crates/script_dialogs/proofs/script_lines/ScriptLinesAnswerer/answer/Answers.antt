use Rattle.std.proofs.Common.{◌≡◌, ap, sym, refl, ◌∙◌}
use Rattle.resolvo_store.specs.Store.{store_of, gathered, new_store}
use Rattle.script_packages.specs.declared.packages.Packages.{Packages}
use Rattle.scripts.specs.Commands.{ids_at}
use Rattle.script_dialogs.proofs.StageLemmas.{command_answered, command_unreadable, entry_unreadable, begin_answered}
use Rattle.script_dialogs.proofs.StageLemmas.{hands_on, same_fault}
use Rattle.script_dialogs.proofs.script_lines.ScriptLinesAnswerer.answer.Goals as goal

pub returns-in_err-begins-in-Catalogue-clause-unreadable : goal.returns-in_err-begins-in-Catalogue-clause-unreadable
returns-in_err-begins-in-Catalogue-clause-unreadable g c =
    let ids = ids_at g.D.NameId.DenseIndex.limit g.D.NameId.DenseIndex.id_at g.D.SolvableId.DenseIndex.limit
    g.D.SolvableId.DenseIndex.id_at in
    λ h line means. entry_unreadable ids c.args.said c.args.self.now.stage c.in-Catalogue.packages
    c.list_line.new.packages c.in_err-begins-in-Catalogue.field-0.0 c.in-Catalogue.is
    c.in_err-begins-in-Catalogue.ensures (same_fault c.from_residual.result _ _
    (hands_on _ _ c.from_residual.ensures.1) h) line means

pub returns-in-Commands-clause-answered : goal.returns-in-Commands-clause-answered
returns-in-Commands-clause-answered g c =
    let ids = ids_at g.D.NameId.DenseIndex.limit g.D.NameId.DenseIndex.id_at g.D.SolvableId.DenseIndex.limit
    g.D.SolvableId.DenseIndex.id_at in
    let functions = gathered g.D.NameId.PartialEq.eq g.D.SolvableId.PartialEq.eq g.D.NameId.Slots.IdMap.is_too_large
    g.D.SolvableId.Slots.IdMap.is_too_large g.D.SolvableId.Set.IdSet.is_too_large g.D.NameId.SolverId.are_many
    g.D.Interner.universe g.D.DependencyProvider.answers in
    let store = store_of functions g.D.NameId.Scores.IdMap.value_at in
    command_answered ids store c.args.said (Unit {0}) c.args.text.now.items c.obey_line.new.waiting.items
    c.in-Commands.store c.obey_line.new.store
    (λ (p : Packages). functions (g.D.OverPackages.made_of p)) c.args.self.now.stage c.in-Commands.is
    c.obey_line.result c.obey_line.ensures

pub returns-in-Commands-clause-unreadable : goal.returns-in-Commands-clause-unreadable
returns-in-Commands-clause-unreadable g c =
    let ids = ids_at g.D.NameId.DenseIndex.limit g.D.NameId.DenseIndex.id_at g.D.SolvableId.DenseIndex.limit
    g.D.SolvableId.DenseIndex.id_at in
    let functions = gathered g.D.NameId.PartialEq.eq g.D.SolvableId.PartialEq.eq g.D.NameId.Slots.IdMap.is_too_large
    g.D.SolvableId.Slots.IdMap.is_too_large g.D.SolvableId.Set.IdSet.is_too_large g.D.NameId.SolverId.are_many
    g.D.Interner.universe g.D.DependencyProvider.answers in
    let store = store_of functions g.D.NameId.Scores.IdMap.value_at in
    command_unreadable ids store c.args.said (Unit {0}) c.args.text.now.items c.obey_line.new.waiting.items
    c.in-Commands.store c.obey_line.new.store
    c.args.self.now.stage c.in-Commands.is c.obey_line.result c.obey_line.ensures

pub returns-then-begins-clause-answered : goal.returns-then-begins-clause-answered
returns-then-begins-clause-answered g c =
    let ids = ids_at g.D.NameId.DenseIndex.limit g.D.NameId.DenseIndex.id_at g.D.SolvableId.DenseIndex.limit
    g.D.SolvableId.DenseIndex.id_at in
    let functions = gathered g.D.NameId.PartialEq.eq g.D.SolvableId.PartialEq.eq g.D.NameId.Slots.IdMap.is_too_large
    g.D.SolvableId.Slots.IdMap.is_too_large g.D.SolvableId.Set.IdSet.is_too_large g.D.NameId.SolverId.are_many
    g.D.Interner.universe g.D.DependencyProvider.answers in
    let store = store_of functions g.D.NameId.Scores.IdMap.value_at in
    begin_answered ids (λ (p : Packages). functions (g.D.OverPackages.made_of p)) store c.args.said
    c.args.text.now.items c.args.self.now.stage
    c.in-Catalogue.packages c.list_line.new.packages c.replace-listed.result c.in_ok-begins-in-Catalogue.begins
    c.in-Ok.store c.replace-before.new.dest c.in-Catalogue.is
    c.in_ok-begins-in-Catalogue.ensures c.if-begins.true c.replace-listed.ensures.value
    (c.in-Ok.ensures.ok ∙ ap (λ p. new_store (functions p)) (c.in-Ok.ensures.provider ∙ c.over.ensures))
    c.replace-before.ensures.after
