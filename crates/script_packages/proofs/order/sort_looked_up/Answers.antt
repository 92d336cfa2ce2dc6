use Rattle.std.proofs.Common.{◌≡◌, ◌++◌, ◌∙◌, ap, drop, length, map, subst, sym, take, IsPermutation, IsSorted}
use Rattle.std.proofs.Math.Seq.{take-append_seam}
use Rattle.std.proofs.lemmas.List.Sorted.{length_permutation}
use Rattle.script_packages.proofs.Words.{best_first, preference}
use Rattle.script_packages.proofs.Versioned.{sorted_with_versions}
use Rattle.script_packages.proofs.order.sort_looked_up.Goals as goal

pub returns-clause-ok : goal.returns-clause-ok
returns-clause-ok c =
    let all = c.args.pool.now.solvables in
    let items = c.in_ok-list.list.items in
    let sorted = c.sort_versioned.new.list in
    let permuted : IsPermutation items sorted =
    subst (λ l. IsPermutation l sorted) c.deref_mut.ensures.value c.sort_versioned.ensures.permutation in
    let long : length sorted ≡ c.in_ok-list.list.len =
    length_permutation items sorted permuted ∙ sym c.in_ok-list.list.ok.0 in
    let lent : c.deref.result.now ≡ sorted = c.deref.ensures.value ∙
    (ap (λ n. take n (sorted ++ drop (length sorted) items)) (sym long) ∙ take-append_seam sorted _) in
    subst (λ l. (l ≡ best_first all c.args.solvables.now) × IsSorted (preference all) l)
    (sym (c.put.ensures ∙ ap (map (λ v. v.solvable)) lent))
    (sorted_with_versions all c.args.solvables.now sorted
    (subst (λ l. IsPermutation l sorted) c.in_ok-list.ensures permuted) c.sort_versioned.ensures.sorted)
