use Rattle.std.proofs.Common.{[], ◌∷◌, map, sym, ap, ◌∙◌}
use Rattle.falsified_clauses.proofs.Words.{is_false_literal, lists_found, Lit, literals_of, row_literals, values_in}
use Rattle.falsified_clauses.proofs.CountLaws.{adds_same, disjunction_read}
use Rattle.falsified_clauses.proofs.key_group.add_key_group.Goals as goal

pub returns-in-Parent-clause-ok : goal.returns-in-Parent-clause-ok
returns-in-Parent-clause-ok g c =
    let literals = literals_of c.args.lists.now c.args.disjunctions.now in
    let same = ap (λ (l : Lit). l ∷ []) c.new.ensures ∙ ap literals (sym c.in-Parent.is) in
    adds_same c.args.counters.now c.add_group.new.self (is_false_literal (values_in c.args.values.now))
    c.add_group.result _ _ same c.add_group.ensures.ok

pub returns-in-Condition-clause-ok : goal.returns-in-Condition-clause-ok
returns-in-Condition-clause-ok g c =
    let lists = c.args.lists.now in
    let disjunctions = c.args.disjunctions.now in
    let read = disjunction_read lists disjunctions c.in-Condition.disjunction c.index.result.now c.index.ensures in
    let same = c.as_slice.ensures.value ∙ (read ∙ ap (literals_of lists disjunctions) (sym c.in-Condition.is)) in
    adds_same c.args.counters.now c.add_group-in-Condition.new.self (is_false_literal (values_in c.args.values.now))
    c.add_group-in-Condition.result _ _ same c.add_group-in-Condition.ensures.ok

pub returns-in-Rows-clause-ok : goal.returns-in-Rows-clause-ok
returns-in-Rows-clause-ok g c =
    let literals = literals_of c.args.lists.now c.args.disjunctions.now in
    let same = ap (λ lists. row_literals (map (λ l. l.items) lists)) c.as_slice-in-Rows.ensures.value
    ∙ (ap (λ o. row_literals (lists_found o)) (sym c.index-in-Rows.ensures)
    ∙ ap literals (sym c.in-Rows.is)) in
    adds_same c.args.counters.now c.add_row_group.new.self (is_false_literal (values_in c.args.values.now))
    c.add_row_group.result _ _ same c.add_row_group.ensures.ok
