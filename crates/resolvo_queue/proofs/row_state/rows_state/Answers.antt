use Rattle.std.proofs.Common.{◌≡◌, ◌∷◌, ◌+◌, sym, ap, ◌∙◌, drop, map}
use Rattle.std.specs.Prelude.{flat_map}
use Rattle.std.proofs.lemmas.List.{drop_more, drop_all}
use Rattle.resolvo_queue.proofs.Words.{list_rows, rows, values_in, with_rows}
use Rattle.resolvo_queue.proofs.Rows.States.{state-rows, next-list, few-left, no_set, no_list, met-whole}
use Rattle.resolvo_queue.proofs.row_state.rows_state.Goals as goal

pub returns-in_default : goal.returns-in_default
returns-in_default g c =
    let val = values_in c.args.decisions.now in
    let lists = c.args.lists.now in
    no_set val c.loop-list.state _ c.loop-list.left.now (map (λ l. l.items) (drop c.loop-list.list-index lists))
    c.in_default.ensures.cases c.loop-list.invariant.left
    ∙ state-rows val (rows c.args.sets.now (map (λ l. l.items) lists))

pub returns-in-Satisfied : goal.returns-in-Satisfied
returns-in-Satisfied g c =
    let val = values_in c.args.decisions.now in
    let i = c.loop-list.list-index in
    let lists = c.args.lists.now in
    let list = c.list-item.result in
    let rest = drop (i + 1) lists in
    let behind : drop i lists ≡ list ∷ rest =
    drop_more lists i list c.loop-list-test.true ∙ ap (λ y. y ∷ rest) (sym c.list-item.is) in
    met-whole val _ c.walk-state.result (rows c.in-Some.others.now (map (λ l. l.items) rest)) c.in-Satisfied.is
    (next-list val _ c.loop-list.state c.walk-state.result c.loop-list.left.now c.in-Some.others.now c.in-Some.set.now
    (map (λ l. l.items) (drop i lists)) (map (λ l. l.items) rest) list.items
    c.in-Some.ensures.cases.0 (ap (map (λ l. l.items)) behind)
    (c.walk-state.ensures ∙ ap (λ l. with_rows val c.loop-list.state (list_rows c.in-Some.set.now l))
    c.deref.ensures.value) c.loop-list.invariant.left)
    ∙ state-rows val (rows c.args.sets.now (map (λ l. l.items) lists))

pub loop-list-preserved : goal.loop-list-preserved
loop-list-preserved g c =
    let val = values_in c.args.decisions.now in
    let i = c.loop-list.list-index in
    let lists = c.args.lists.now in
    let list = c.list-item.result in
    let rest = drop (i + 1) lists in
    let behind : drop i lists ≡ list ∷ rest =
    drop_more lists i list c.loop-list-test.true ∙ ap (λ y. y ∷ rest) (sym c.list-item.is) in
    let walked : c.walk-state.result ≡ with_rows val c.loop-list.state (list_rows c.in-Some.set.now list.items) =
    c.walk-state.ensures ∙ ap (λ l. with_rows val c.loop-list.state (list_rows c.in-Some.set.now l))
    c.deref.ensures.value in
    record {
      left = next-list val _ c.loop-list.state c.walk-state.result c.loop-list.left.now c.in-Some.others.now
          c.in-Some.set.now (map (λ l. l.items) (drop i lists)) (map (λ l. l.items) rest) list.items
          c.in-Some.ensures.cases.0 (ap (map (λ l. l.items)) behind) walked c.loop-list.invariant.left;
      few = few-left val c.loop-list.state c.walk-state.result c.in-Some.set.now list.items
          (flat_map (λ l. l.items) rest) (flat_map (λ l. l.items) (drop i lists)) walked
          (ap (flat_map (λ l. l.items)) behind) c.loop-list.invariant.few;
    }

pub returns : goal.returns
returns g c =
    let val = values_in c.args.decisions.now in
    let lists = c.args.lists.now in
    no_list val c.loop-list.state _ c.loop-list.left.now (map (λ l. l.items) (drop c.loop-list.list-index lists))
    (ap (map (λ l. l.items)) (drop_all c.loop-list.list-index lists c.loop-list-test.false)) c.loop-list.invariant.left
    ∙ state-rows val (rows c.args.sets.now (map (λ l. l.items) lists))
