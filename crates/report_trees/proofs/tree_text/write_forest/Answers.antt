use Rattle.std.proofs.Common.{map, string_bytes}
use Rattle.std.proofs.lemmas.Result.{on_ok_weaker}
use Rattle.report_trees.specs.Growing.{lists}
use Rattle.report_trees.specs.TreeTexts.{text_of_all}
use Rattle.report_trees.proofs.TreeLemmas.{is_tree}
use Rattle.report_trees.proofs.tree_text.write_forest.Goals as goal

pub returns : goal.returns
returns g c =
    let edges = c.args.edges.now in
    let texts = map string_bytes c.args.texts.now in
    on_ok_weaker c.write_rows.result
    (λ written. (
      text_of_all (lists edges) texts c.deref-2.result.now,
      written,
      is_tree edges texts c.in_ok-rows.rows.items c.deref.result.now c.in_ok-all.all.items c.deref-2.result.now
          c.in_ok-rows.ensures c.deref.ensures.value c.in_ok-all.ensures c.deref-2.ensures.value,
    )) c.write_rows.ensures
