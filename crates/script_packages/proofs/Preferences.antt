-- The order of preference is total, and tells any two solvables apart.
use Rattle.std.proofs.Common.{◌≡◌, ℕ, List, sym, ap, true≢false, Ordering, Less, Equal, Greater, is_lt, is_gt}
use Rattle.std.proofs.Common.{nat_cmp, IsPermutation, IsSorted}
use Rattle.std.proofs.lemmas.Cmp.{ranked, nat_cmp_total, on_total, back_total, then_total}
use Rattle.script_packages.proofs.Words.{best_first, IsTotalOrder, ordering_then, preference, Solvable, version_at}
use Rattle.script_packages.proofs.Sorting.{sorted_is-sort_by}

pub preference_total : (all : List (Solvable ℕ)) → IsTotalOrder (preference all)
preference_total all = then_total (on_total (version_at all) (back_total nat_cmp_total)) nat_cmp_total

second_ties : (a b : Ordering) → ordering_then a b ≡ Equal → b ≡ Equal
second_ties Less b e = absurd (true≢false (ap is_lt e))
second_ties Equal b e = e
second_ties Greater b e = absurd (true≢false (ap is_gt e))

preference_apart : (all : List (Solvable ℕ)) (s t : ℕ) → preference all s t ≡ Equal → s ≡ t
preference_apart all s t e =
    ranked s t Equal (sym (second_ties (nat_cmp (version_at all t) (version_at all s)) (nat_cmp s t) e))

pub sorted_is-best_first : (all : List (Solvable ℕ)) (list sorted : List ℕ) → IsPermutation list sorted →
    IsSorted (preference all) sorted → sorted ≡ best_first all list
sorted_is-best_first all = sorted_is-sort_by (preference all) (preference_total all) (preference_apart all)
