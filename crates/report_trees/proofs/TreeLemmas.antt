-- What makes a text that of a forest, and what grows by one with each line.
use Rattle.std.proofs.Common.{◌≡◌, ◌∙◌, ℕ, zero, suc, ◌+◌, ◌-◌, ◌<◌, Bool, arith, List, [], ◌∷◌, ◌++◌}
use Rattle.std.proofs.Common.{ap, length, codes, map, subst, sym, take}
use Rattle.std.specs.declared.vec.Vec.{Vec}
use Rattle.std.proofs.lemmas.List.{length-map}
use Rattle.report_trees.specs.Forests.{IsForest, has_edge}
use Rattle.report_trees.specs.Growing.{AreRows, lists}
use Rattle.report_trees.specs.TreeTexts.{IsTree, indent, numbered, text_of_all}
use Rattle.report_trees.specs.declared.row.NumberedRow.{NumberedRow}
use Rattle.report_trees.specs.declared.row.Row.{Row}

pub is_tree : {A : Type 0} (edges : List (Vec Bool A)) (texts : List (List ℕ)) (rows shown : List Row)
    (all seen : List NumberedRow) → AreRows (has_edge (lists edges)) (length edges) rows → shown ≡ rows
    → all ≡ numbered (lists edges) shown 1 shown → seen ≡ all
    → IsTree (lists edges) texts (text_of_all (lists edges) texts seen)
is_tree {A} edges texts rows shown all seen are same numbers shown_all =
    let P : ℕ → Type 0 = λ n. IsForest (has_edge (lists edges)) n are.forest in
    record {
      forest = are.forest;
      is_forest = subst P (sym (length-map edges (λ (v : Vec Bool A). v.items))) are.is_forest;
      is = ap (text_of_all (lists edges) texts)
          (shown_all ∙ (numbers ∙ ap (λ r. numbered (lists edges) r 1 r) (same ∙ are.is)));
    }

-- a further step
pub indent_more : (left : ℕ) → 0 < left → indent left ≡ codes "  " ++ indent (left - 1)
indent_more zero some = absurd (omega arith)
indent_more (suc left) some = ap (λ n. codes "  " ++ indent n) (let e : left ≡ suc left - 1 = omega arith in e)
