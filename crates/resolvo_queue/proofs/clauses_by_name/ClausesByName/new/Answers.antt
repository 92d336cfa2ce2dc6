use Rattle.std.proofs.Common.{ℕ, IfSome, ◌<◌, length, sym, subst}
use Rattle.resolvo_queue.proofs.Words.{AreBehind}
use Rattle.resolvo_queue.proofs.Clauses.ByName.{none_behind}
use Rattle.resolvo_queue.proofs.clauses_by_name.ClausesByName.new.Goals as goal

pub invariant_of-result : goal.invariant_of-result
invariant_of-result g c = (
  λ name. subst (λ o. IfSome o (λ (place : ℕ). place < length c.new-2.result.items)) (sym (c.new.ensures name)) tt,
  subst AreBehind (sym c.new-2.ensures.items) none_behind,
)

pub returns : goal.returns
returns g c = c.new.ensures
