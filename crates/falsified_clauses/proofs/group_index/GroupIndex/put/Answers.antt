use Rattle.std.proofs.Common.{ap, ◌∙◌}
use Rattle.falsified_clauses.proofs.Words.{Condition, Parent, Rows, Single, Union}
use Rattle.falsified_clauses.proofs.IndexLaws.{tables, put_parent, put_condition, put_set, put_union, put_at}
use Rattle.falsified_clauses.proofs.group_index.GroupIndex.put.Goals as goal

pub returns-in-Parent : goal.returns-in-Parent
returns-in-Parent g c =
    let i = c.self.inside in
    put_at _ _ (tables c.put.new.self.items i.conditions.items i.sets.items i.unions.items)
    c.args.key (Parent c.in-Parent.parent) c.new-slot.result c.args.number c.self.view_is
    c.in-Parent.is c.new-slot.ensures
    (put_parent i.parents.items i.conditions.items i.sets.items i.unions.items c.put.new.self.items
    c.in-Parent.parent c.new-slot.result c.put.ensures.put)

pub returns-in-Condition : goal.returns-in-Condition
returns-in-Condition g c =
    let i = c.self.inside in
    put_at _ _ (tables i.parents.items c.put-in-Condition.new.self.items i.sets.items i.unions.items)
    c.args.key (Condition c.in-Condition.disjunction) c.new-slot.result c.args.number c.self.view_is
    c.in-Condition.is c.new-slot.ensures
    (put_condition i.parents.items i.conditions.items i.sets.items i.unions.items c.put-in-Condition.new.self.items
    c.in-Condition.disjunction c.new-slot.result c.put-in-Condition.ensures.put)

pub returns-in-Single : goal.returns-in-Single
returns-in-Single g c =
    let i = c.self.inside in
    put_at _ _ (tables i.parents.items i.conditions.items c.put-in-Single.new.self.items i.unions.items)
    c.args.key (Rows (Single c.in-Single.set)) c.new-slot.result c.args.number c.self.view_is
    (c.in-Rows.is ∙ ap Rows c.in-Single.is) c.new-slot.ensures
    (put_set i.parents.items i.conditions.items i.sets.items i.unions.items c.put-in-Single.new.self.items
    c.in-Single.set c.new-slot.result c.put-in-Single.ensures.put)

pub returns-in-Union : goal.returns-in-Union
returns-in-Union g c =
    let i = c.self.inside in
    put_at _ _ (tables i.parents.items i.conditions.items i.sets.items c.put-in-Union.new.self.items)
    c.args.key (Rows (Union c.in-Union.union)) c.new-slot.result c.args.number c.self.view_is
    (c.in-Rows.is ∙ ap Rows c.in-Union.is) c.new-slot.ensures
    (put_union i.parents.items i.conditions.items i.sets.items i.unions.items c.put-in-Union.new.self.items
    c.in-Union.union c.new-slot.result c.put-in-Union.ensures.put)
