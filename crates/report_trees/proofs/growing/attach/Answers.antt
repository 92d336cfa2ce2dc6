use Rattle.std.proofs.Common.{◌∙◌, ap, sym, subst}
use Rattle.report_trees.specs.Forests.{has_edge}
use Rattle.report_trees.specs.Growing.{IsShallow, LeadsFrom, lists}
use Rattle.report_trees.proofs.ForestLemmas.{are_shallow}
use Rattle.report_trees.proofs.GrowingLemmas.{attach_is, list_at, other_list_at}
use Rattle.report_trees.proofs.growing.attach.Goals as goal

pub grafted-requires-clause-shallow_tree : goal.grafted-requires-clause-shallow_tree
grafted-requires-clause-shallow_tree g c =
    let vectors = c.args.trees.now.items in
    let tree = c.in-Some.spot.tree in
    let found = subst (λ ts. LeadsFrom (has_edge (lists c.args.edges.now)) c.args.line (lists ts) c.in-Some.spot)
    c.deref.ensures.value c.in-Some.ensures in
    subst IsShallow (sym (c.deref-2.ensures.value ∙ other_list_at vectors c.args.line tree c.replace-tree.new.dest
    c.index.result.now found.other found.within c.index.ensures))
    (are_shallow (has_edge (lists c.args.edges.now)) tree _ (c.requires.growing.trees_of tree))

pub grafted-requires-clause-shallow_branch : goal.grafted-requires-clause-shallow_branch
grafted-requires-clause-shallow_branch g c =
    let vectors = c.args.trees.now.items in
    subst IsShallow (sym (c.deref-3.ensures.value ∙ (ap (λ v. v.items) c.replace-tree.ensures.value
    ∙ list_at vectors c.args.line c.index_mut.result.now c.requires.within c.index_mut.ensures.value)))
    (are_shallow (has_edge (lists c.args.edges.now)) c.args.line _ (c.requires.growing.trees_of c.args.line))

pub returns-clause-growing : goal.returns-clause-growing
returns-clause-growing g c =
    let vectors = c.args.trees.now.items in
    let tree = c.in-Some.spot.tree in
    let found = subst (λ ts. LeadsFrom (has_edge (lists c.args.edges.now)) c.args.line (lists ts) c.in-Some.spot)
    c.deref.ensures.value c.in-Some.ensures in
    attach_is (has_edge (lists c.args.edges.now)) vectors c.args.line c.in-Some.spot c.replace-tree.new.dest
    c.in_ok-rows.rows c.deref-2.result.now c.deref-3.result.now
    (ap (λ v. v.items) c.replace-tree.ensures.after ∙ c.new.ensures.items)
    (c.deref-2.ensures.value ∙ other_list_at vectors c.args.line tree c.replace-tree.new.dest
    c.index.result.now found.other found.within c.index.ensures)
    (c.deref-3.ensures.value ∙ (ap (λ v. v.items) c.replace-tree.ensures.value
    ∙ list_at vectors c.args.line c.index_mut.result.now c.requires.within c.index_mut.ensures.value))
    c.in_ok-rows.ensures c.requires.growing c.requires.within found
