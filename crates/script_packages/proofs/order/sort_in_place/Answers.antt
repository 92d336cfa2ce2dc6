use Rattle.std.proofs.Common.{rules, of_calls}
use Rattle.std.proofs.lemmas.Fn.{always_returns_same}
use Rattle.std.proofs.lemmas.List.MinMax.{ranks_by}
use Rattle.script_packages.proofs.Preferences.{preference_total, sorted_is-best_first}
use Rattle.script_packages.proofs.order.sort_in_place.Goals as goal

pub returns-clause-sorted : goal.returns-clause-sorted
returns-clause-sorted c =
    c.sort_unstable_by.ensures.sorted _ (ranks_by (preference_total c.args.pool.now.solvables) (λ s. s))
    (always_returns_same _ _ _ (λ a r f k. search (rules, of_calls)))

pub returns-clause-order : goal.returns-clause-order
returns-clause-order c =
    sorted_is-best_first c.args.pool.now.solvables _ _ c.sort_unstable_by.ensures.permutation (returns-clause-sorted c)
