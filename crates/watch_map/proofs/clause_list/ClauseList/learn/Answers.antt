use Rattle.std.proofs.Common.{◌≡◌, ◌∙◌, List, Option, sym, ap, subst, map, length, arith}
use Rattle.std.proofs.lemmas.Grind.{common_steps}
use Rattle.std.proofs.lemmas.List.{length-map}
use Rattle.watch_map.proofs.Words.{AreTwoOrNone, ClauseListState, Clauses, contents, Lit, two_or_none}
use Rattle.watch_map.proofs.ListLaws.{learnt_refused, two_of_ends}
use Rattle.watch_map.proofs.clause_list.ClauseList.learn.Goals as goal

pub returns-then-is_full-clause-refused : goal.returns-then-is_full-clause-refused
returns-then-is_full-clause-refused g c = grind (arith, common_steps)

pub returns-in_err-kept-clause-ids_out : goal.returns-in_err-kept-clause-ids_out
returns-in_err-kept-clause-ids_out g c = grind (arith, common_steps)

pub returns-in_err-make_room-clause-ids_out : goal.returns-in_err-make_room-clause-ids_out
returns-in_err-make_room-clause-ids_out g c = grind (arith, common_steps)

pub returns-in_err-alloc-clause-refused : goal.returns-in_err-alloc-clause-refused
returns-in_err-alloc-clause-refused g c =
    let inside = c.self-2.inside in
    let learnt : List (List Lit) = map (λ v. v.items) inside.learnt in
    let as_many : length inside.learnt ≡ length learnt = sym (length-map inside.learnt _) in
    learnt_refused c.from_residual-in_err-alloc.result (contents c.args.self.now)
    (length inside.learnt) c.in_err-alloc.field-0.0.error
    (as_many ∙ ap (λ (k : ClauseListState g.row.N.Denot). length k.learnt) c.self-2.view_is
    ∙ ap (λ (cs : Clauses g.row.N.Denot). length cs.learnt) c.make_room.ensures.same)
    c.in_err-alloc.ensures.refused c.from_residual-in_err-alloc.ensures.1

pub returns-in_err-alloc-clause-ids_out : goal.returns-in_err-alloc-clause-ids_out
returns-in_err-alloc-clause-ids_out g c = grind (arith, common_steps)

pub returns-clause-id : goal.returns-clause-id
returns-clause-id g c = grind (arith, common_steps)

pub returns-clause-ok : goal.returns-clause-ok
returns-clause-ok g c = grind (arith, common_steps)

pub returns-clause-ids_out : goal.returns-clause-ids_out
returns-clause-ids_out g c = grind (arith, common_steps)

pub push_reserved-requires-clause-two : goal.push_reserved-requires-clause-two
push_reserved-requires-clause-two g c =
    subst (λ (watched : Option (List Lit)). AreTwoOrNone (two_or_none watched)) (sym c.learnt-watches.ensures.watches)
    (two_of_ends c.args.literals.now)
