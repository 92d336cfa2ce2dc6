use Rattle.std.proofs.Common.{rules, of_calls}
use Rattle.std.proofs.lemmas.Fn.{always_returns_same}
use Rattle.std.proofs.lemmas.List.MinMax.{ranks_by}
use Rattle.script_packages.proofs.Versioned.{versioned_preference_total}
use Rattle.script_packages.proofs.order.sort_versioned.Goals as goal

pub returns-clause-sorted : goal.returns-clause-sorted
returns-clause-sorted c =
    c.sort_unstable_by.ensures.sorted _ (ranks_by versioned_preference_total (λ v. v))
    (always_returns_same _ _ _ (λ a r f k. search (rules, of_calls)))
