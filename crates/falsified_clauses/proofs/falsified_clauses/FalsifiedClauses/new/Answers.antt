use Rattle.std.proofs.Common.{[], false, length, sym, subst, ap, ◌∙◌}
use Rattle.std.specs.List.{position}
use Rattle.falsified_clauses.proofs.Words.{counted, Counts, same_key}
use Rattle.falsified_clauses.proofs.CountLaws.{counts_none}
use Rattle.falsified_clauses.proofs.falsified_clauses.FalsifiedClauses.new.Goals as goal

pub returns : goal.returns
returns g c lists disjunctions is_false =
    subst (λ ks. Counts (record { keys = ks; counters = c.new-3.result }) (counted lists disjunctions [] is_false))
    (sym c.new.ensures)
    (counts_none lists disjunctions is_false c.new-3.result (c.new-3.ensures is_false))

pub invariant_of-result : goal.invariant_of-result
invariant_of-result g c = (
  (c.new-3.ensures (λ _. false)).size ∙ ap length (sym c.new.ensures),
  λ key. c.new-2.ensures key ∙ ap (position (same_key key)) (sym c.new.ensures),
)
