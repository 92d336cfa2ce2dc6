use Rattle.std.proofs.Common.{sym, ap, subst, ◌∙◌}
use Rattle.falsified_clauses.proofs.Words.{Counts, IsReady, numbers}
use Rattle.falsified_clauses.proofs.CountLaws.{counts_added}
use Rattle.falsified_clauses.proofs.falsified_clauses.FalsifiedClauses.add.Goals as goal

pub returns-in-None : goal.returns-in-None
returns-in-None g c s clause ready counts =
    let at = subst (λ k. Counts k s) (sym c.self.view_is) counts in
    let is = subst (λ k. IsReady k clause c.args.groups) (sym c.self.view_is) ready in
    let same = ap (λ o. numbers c.groups.inside.parent o c.groups.inside.rows) (sym c.in-None.is) ∙ c.groups.view_is in
    counts_added _ _ s at clause c.args.first_of_parent c.args.groups _ _ is same c.add_clause.ensures.represents

pub returns-in-Some : goal.returns-in-Some
returns-in-Some g c s clause ready counts =
    let at = subst (λ k. Counts k s) (sym c.self.view_is) counts in
    let is = subst (λ k. IsReady k clause c.args.groups) (sym c.self.view_is) ready in
    let same = ap (λ o. numbers c.groups.inside.parent o c.groups.inside.rows) (sym c.in-Some.is) ∙ c.groups.view_is in
    counts_added _ _ s at clause c.args.first_of_parent c.args.groups _ _ is same
    c.add_clause-in-Some.ensures.represents
