use Rattle.std.proofs.Common.{◌≡◌, ◌∷◌, ◌+◌, sym, ap, ◌∙◌, drop}
use Rattle.std.proofs.lemmas.List.{drop_more}
use Rattle.resolvo_queue.proofs.Words.{list_rows, values_in, with_row, with_rows}
use Rattle.resolvo_queue.proofs.Rows.States.{met-whole}
use Rattle.resolvo_queue.proofs.row_state.walk.Goals as goal

pub returns-in-Satisfied : goal.returns-in-Satisfied
returns-in-Satisfied g c =
    let val = values_in c.args.decisions.now in
    let list = c.args.list.now in
    let x = c.variable-item.result in
    let state = c.loop-variable.state in
    let rest = drop (c.loop-variable.variable-index + 1) list in
    let behind : drop c.loop-variable.variable-index list ≡ x ∷ rest =
    drop_more list c.loop-variable.variable-index x c.loop-variable-test.true ∙
    ap (λ y. y ∷ rest) (sym c.variable-item.is) in
    let next : c.with_row-state.result ≡ with_row state (val x) (record { set = c.args.set; variable = x }) =
    c.with_row-state.ensures ∙ ap (λ v. with_row state v (record { set = c.args.set; variable = x })) c.value.ensures in
    met-whole val (with_rows val c.args.state (list_rows c.args.set list)) c.with_row-state.result
    (list_rows c.args.set rest) c.in-Satisfied.is (ap (λ s. with_rows val s (list_rows c.args.set rest)) next
    ∙ (sym (ap (λ l. with_rows val state (list_rows c.args.set l)) behind) ∙ c.loop-variable.invariant.left))
