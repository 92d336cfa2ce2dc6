use Rattle.std.proofs.Common.{ap, ◌∙◌}
use Rattle.falsified_clauses.proofs.Words.{number_of}
use Rattle.falsified_clauses.proofs.IndexLaws.{same_parents, same_conditions, same_sets, same_unions}
use Rattle.falsified_clauses.proofs.group_index.GroupIndex.make_room.Goals as goal

pub returns-in-Parent-clause-same : goal.returns-in-Parent-clause-same
returns-in-Parent-clause-same g c =
    let i = c.self.inside in
    λ key. same_parents i.parents.items i.conditions.items i.sets.items i.unions.items
    c.grow.new.table.items c.grow.ensures.same key ∙ ap (λ t. number_of t key) c.self.view_is

pub returns-in-Condition-clause-same : goal.returns-in-Condition-clause-same
returns-in-Condition-clause-same g c =
    let i = c.self.inside in
    λ key. same_conditions i.parents.items i.conditions.items i.sets.items i.unions.items
    c.grow-in-Condition.new.table.items c.grow-in-Condition.ensures.same key ∙ ap (λ t. number_of t key) c.self.view_is

pub returns-in-Single-clause-same : goal.returns-in-Single-clause-same
returns-in-Single-clause-same g c =
    let i = c.self.inside in
    λ key. same_sets i.parents.items i.conditions.items i.sets.items i.unions.items
    c.grow-in-Single.new.table.items c.grow-in-Single.ensures.same key ∙ ap (λ t. number_of t key) c.self.view_is

pub returns-in-Union-clause-same : goal.returns-in-Union-clause-same
returns-in-Union-clause-same g c =
    let i = c.self.inside in
    λ key. same_unions i.parents.items i.conditions.items i.sets.items i.unions.items
    c.grow-in-Union.new.table.items c.grow-in-Union.ensures.same key ∙ ap (λ t. number_of t key) c.self.view_is
