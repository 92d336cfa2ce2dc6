use Rattle.std.proofs.Common.{◌≡◌, true, subst, sym, rules}
use Rattle.std.specs.Prelude.{IsSorted}
use Rattle.script_packages.proofs.Words.{preference, rises}
use Rattle.script_packages.proofs.Preferences.{sorted_is-best_first}
use Rattle.script_packages.proofs.Rising.{turned_is_sorted}
use Rattle.script_packages.proofs.order.sort_best_first.Goals as goal

pub returns-then-rises-clause-sorted : goal.returns-then-rises-clause-sorted
returns-then-rises-clause-sorted c =
    let all = c.args.pool.now.solvables in
    let up : rises all c.args.solvables.now ≡ true = search rules in
    subst (IsSorted (preference all)) (sym c.reverse.ensures.after) (turned_is_sorted all c.args.solvables.now up)

pub returns-then-rises-clause-order : goal.returns-then-rises-clause-order
returns-then-rises-clause-order c =
    sorted_is-best_first c.args.pool.now.solvables _ _ c.reverse.ensures.permutation
    (returns-then-rises-clause-sorted c)
