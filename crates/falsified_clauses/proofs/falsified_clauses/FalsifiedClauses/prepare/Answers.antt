use Rattle.std.proofs.Common.{◌≡◌, ◌∙◌, sym, subst}
use Rattle.std.specs.Prelude.{List}
use Rattle.falsified_clauses.proofs.Words.{AddsOnly, Contains, counted_under, Counts, Demand, grouped_by, GroupKey}
use Rattle.falsified_clauses.proofs.Words.{HasGroups, IsConditionKey, keys_of, numbers, numbers_in, Parent}
use Rattle.falsified_clauses.proofs.KeyLaws.{keeps_both, adds_both, adds_listed, adds_within}
use Rattle.falsified_clauses.proofs.GroupLaws.{condition_kept, groups_are, has_parent, has_condition, has_rows}
use Rattle.falsified_clauses.proofs.CountLaws.{counts_kept, ready_is}
use Rattle.falsified_clauses.proofs.falsified_clauses.FalsifiedClauses.prepare.Goals as goal

-- the key of a condition is one of the clause's
of_condition : (clause : Demand) (old new : List GroupKey) → AddsOnly (IsConditionKey clause.condition) old new
    → AddsOnly (Contains (keys_of clause)) old new
of_condition clause old new = adds_within (IsConditionKey clause.condition) (Contains (keys_of clause)) old new
    (has_condition clause)

pub returns-in_err-make_room-clause-same : goal.returns-in_err-make_room-clause-same
returns-in_err-make_room-clause-same g c clauses counts =
    let s = counted_under c.args.lists.now c.args.disjunctions.now c.args.values.now clauses in
    let last = subst (λ k. Counts k s) (sym c.self.view_is) (c.group-2.ensures.same clauses
    (c.condition_group.ensures.same clauses (c.group.ensures.same clauses counts))) in
    counts_kept _ _ s last (c.make_room.ensures.represents (grouped_by c.self.inside.keys.items s) last.represents)

pub returns-clause-same : goal.returns-clause-same
returns-clause-same g c clauses counts =
    let s = counted_under c.args.lists.now c.args.disjunctions.now c.args.values.now clauses in
    let last = subst (λ k. Counts k s) (sym c.self.view_is) (c.group-2.ensures.same clauses
    (c.condition_group.ensures.same clauses (c.group.ensures.same clauses counts))) in
    counts_kept _ _ s last (c.make_room.ensures.represents (grouped_by c.self.inside.keys.items s) last.represents)

pub returns-in_err-parent-clause-keys : goal.returns-in_err-parent-clause-keys
returns-in_err-parent-clause-keys g c =
    adds_listed (keys_of c.args.clause) c.args.self.now.keys c.group.new.self.keys _ (has_parent c.args.clause)
    c.group.ensures.keys

pub returns-in_err-condition-clause-keys : goal.returns-in_err-condition-clause-keys
returns-in_err-condition-clause-keys g c =
    let clause = c.args.clause in
    adds_both (Contains (keys_of clause)) c.args.self.now.keys c.group.new.self.keys c.condition_group.new.self.keys
    (adds_listed (keys_of clause) c.args.self.now.keys c.group.new.self.keys _ (has_parent clause)
    c.group.ensures.keys) (of_condition clause c.group.new.self.keys c.condition_group.new.self.keys
    c.condition_group.ensures.keys)

pub returns-in_err-rows-clause-keys : goal.returns-in_err-rows-clause-keys
returns-in_err-rows-clause-keys g c =
    let clause = c.args.clause in
    let old = c.args.self.now.keys in
    let one = c.group.new.self.keys in
    let two = c.condition_group.new.self.keys in
    let three = c.group-2.new.self.keys in
    let May = Contains (keys_of clause) in
    adds_both May old two three
    (adds_both May old one two (adds_listed (keys_of clause) old one _ (has_parent clause) c.group.ensures.keys)
    (of_condition clause one two c.condition_group.ensures.keys))
    (adds_listed (keys_of clause) two three _ (has_rows clause) c.group-2.ensures.keys)

pub returns-in_err-make_room-clause-keys : goal.returns-in_err-make_room-clause-keys
returns-in_err-make_room-clause-keys g c =
    let clause = c.args.clause in
    let old = c.args.self.now.keys in
    let one = c.group.new.self.keys in
    let two = c.condition_group.new.self.keys in
    let three = c.group-2.new.self.keys in
    let May = Contains (keys_of clause) in
    subst (λ k. AddsOnly May old k.keys) (sym c.self.view_is) (adds_both May old two three
    (adds_both May old one two (adds_listed (keys_of clause) old one _ (has_parent clause) c.group.ensures.keys)
    (of_condition clause one two c.condition_group.ensures.keys))
    (adds_listed (keys_of clause) two three _ (has_rows clause) c.group-2.ensures.keys))

pub returns-clause-keys : goal.returns-clause-keys
returns-clause-keys g c =
    let clause = c.args.clause in
    let old = c.args.self.now.keys in
    let one = c.group.new.self.keys in
    let two = c.condition_group.new.self.keys in
    let three = c.group-2.new.self.keys in
    let May = Contains (keys_of clause) in
    subst (λ k. AddsOnly May old k.keys) (sym c.self.view_is) (adds_both May old two three
    (adds_both May old one two (adds_listed (keys_of clause) old one _ (has_parent clause) c.group.ensures.keys)
    (of_condition clause one two c.condition_group.ensures.keys))
    (adds_listed (keys_of clause) two three _ (has_rows clause) c.group-2.ensures.keys))

pub returns-clause-ready : goal.returns-clause-ready
returns-clause-ready g c clauses counts =
    let s = counted_under c.args.lists.now c.args.disjunctions.now c.args.values.now clauses in
    let clause = c.args.clause in
    let one = c.group.new.self.keys in
    let two = c.condition_group.new.self.keys in
    let three = c.group-2.new.self.keys in
    let keeps = keeps_both one two three c.condition_group.ensures.others c.group-2.ensures.others in
    let kept = keeps (Parent clause.parent) c.in_ok-parent.ensures.there in
    let under = condition_kept two three c.group-2.ensures.others clause.condition c.in_ok-condition.ensures.there in
    let groups = groups_are three clause c.in_ok-parent.parent c.in_ok-rows.rows c.in_ok-condition.condition
    (c.in_ok-parent.ensures.number ∙ sym kept.0, kept.1)
    (c.in_ok-rows.ensures.number, c.in_ok-rows.ensures.there)
    (c.in_ok-condition.ensures.number ∙ sym under.0) under.1 in
    let last = subst (λ k. Counts k s) (sym c.self.view_is) (c.group-2.ensures.same clauses
    (c.condition_group.ensures.same clauses (c.group.ensures.same clauses counts))) in
    ready_is _ _ s last c.make_room.ensures.groups c.in_ok-make_room.ensures.room clause _
    (subst (λ k. numbers c.in_ok-parent.parent c.in_ok-condition.condition c.in_ok-rows.rows
    ≡ numbers_in k.keys clause) (sym c.self.view_is) groups.0)
    (subst (λ k. HasGroups k.keys clause) (sym c.self.view_is) groups.1)
