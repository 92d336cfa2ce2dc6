use Rattle.std.proofs.Common.{◌≡◌, subst, sym, IsPermutation, IsSorted}
use Rattle.script_packages.proofs.Words.{best_first, preference}
use Rattle.script_packages.proofs.Versioned.{sorted_with_versions}
use Rattle.script_packages.proofs.order.sort_short.Goals as goal

pub returns-clause-order : goal.returns-clause-order
returns-clause-order c =
    let all = c.args.pool.now.solvables in
    let sorted = c.sort_versioned.new.list in
    subst (λ l. l ≡ best_first all c.args.solvables.now) (sym c.put.ensures)
    (sorted_with_versions all c.args.solvables.now sorted
    (subst (λ l. IsPermutation l sorted) c.look_up.ensures c.sort_versioned.ensures.permutation)
    c.sort_versioned.ensures.sorted).0

pub returns-clause-sorted : goal.returns-clause-sorted
returns-clause-sorted c =
    let all = c.args.pool.now.solvables in
    let sorted = c.sort_versioned.new.list in
    subst (λ l. IsSorted (preference all) l) (sym c.put.ensures)
    (sorted_with_versions all c.args.solvables.now sorted
    (subst (λ l. IsPermutation l sorted) c.look_up.ensures c.sort_versioned.ensures.permutation)
    c.sort_versioned.ensures.sorted).1
