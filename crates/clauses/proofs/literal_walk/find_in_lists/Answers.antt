use Rattle.std.proofs.Common.{◌≡◌, ◌∷◌, ◌+◌, map, drop, sym, ap, ◌∙◌, Some, None}
use Rattle.std.proofs.lemmas.List.{drop_more, drop_all}
use Rattle.clauses.proofs.WalkLemmas.{found-list, missed-list, end-lists}
use Rattle.clauses.proofs.literal_walk.find_in_lists.Goals as goal

pub returns-in-Some : goal.returns-in-Some
returns-in-Some g c =
    let i = c.loop-list.list-index in
    let lists = c.args.lists.now in
    let list = c.list-item.result in
    let rest = drop (i + 1) lists in
    let behind : drop i lists ≡ list ∷ rest = drop_more lists i list c.loop-list-test.true
    ∙ ap (λ y. y ∷ rest) (sym c.list-item.is) in
    c.loop-list.invariant (Some c.in-Some.literal)
    (found-list (goal.F-post g c.args.test.now) (map (λ l. l.items) (drop i lists)) (map (λ l. l.items) rest) list.items
    c.deref.result.now c.in-Some.literal (ap (map (λ l. l.items)) behind) c.deref.ensures.value c.in-Some.ensures)

pub loop-list-preserved : goal.loop-list-preserved
loop-list-preserved g c = λ r h.
    let i = c.loop-list.list-index in
    let lists = c.args.lists.now in
    let list = c.list-item.result in
    let rest = drop (i + 1) lists in
    let behind : drop i lists ≡ list ∷ rest = drop_more lists i list c.loop-list-test.true
    ∙ ap (λ y. y ∷ rest) (sym c.list-item.is) in
    c.loop-list.invariant r
    (missed-list (goal.F-post g c.args.test.now) (map (λ l. l.items) (drop i lists))
    (map (λ l. l.items) rest) list.items
    c.deref.result.now r (ap (map (λ l. l.items)) behind) c.deref.ensures.value c.in_default.ensures h)

pub returns : goal.returns
returns g c =
    let i = c.loop-list.list-index in
    let lists = c.args.lists.now in
    c.loop-list.invariant None
    (end-lists (goal.F-post g c.args.test.now) (map (λ l. l.items) (drop i lists))
    (ap (map (λ l. l.items)) (drop_all i lists c.loop-list-test.false)))
