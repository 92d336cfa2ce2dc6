use Rattle.std.proofs.Common.{sym, subst}
use Rattle.falsified_clauses.proofs.Words.{Counts, grouped_by}
use Rattle.falsified_clauses.proofs.CountLaws.{counts_kept}
use Rattle.falsified_clauses.proofs.FalsifiedLaws.{first_is}
use Rattle.falsified_clauses.proofs.falsified_clauses.FalsifiedClauses.first.Goals as goal

pub returns-clause-same : goal.returns-clause-same
returns-clause-same g c s counts =
    let f = c.self.inside in
    let at = subst (λ k. Counts k s) (sym c.self.view_is) counts in
    counts_kept _ _ s at (c.first.ensures.represents (grouped_by f.keys.items s) at.represents)

pub returns-clause-first : goal.returns-clause-first
returns-clause-first g c s counts =
    let f = c.self.inside in
    let at = subst (λ k. Counts k s) (sym c.self.view_is) counts in
    first_is f.keys.items s at.grouped c.first.result (c.first.ensures.first (grouped_by f.keys.items s) at.represents)
