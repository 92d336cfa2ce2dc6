use Rattle.std.proofs.Common.{◌≡◌, ◌+◌, ◌<◌, length, sym, ap, subst, ◌∙◌}
use Rattle.std.proofs.lemmas.List.{get_or_read_under, length-map}
use Rattle.clause_counters.proofs.Words.{Clause, heap_clause, no_heap_clause, Tallies}
use Rattle.clause_counters.proofs.ClauseLaws.{told_lefts, told_firsts, left_read}
use Rattle.clause_counters.proofs.falsified_heap.FalsifiedHeap.raise.Goals as goal

pub returns-clause-lefts : goal.returns-clause-lefts
returns-clause-lefts g c =
    let cs = c.self.inside.clauses.items in
    let at : c.index.result.now ≡ heap_clause cs c.args.clause =
    get_or_read_under cs c.args.clause c.self.inside.clauses.len c.index.result.now no_heap_clause c.index.ensures
    (subst (λ n. c.args.clause < n) (ap (λ (t : Tallies). length t.lefts) (sym c.self.view_is)
    ∙ (length-map cs (λ (x : Clause). x.left) ∙ sym c.self.inside.clauses.ok.0)) c.requires.within)
    c.self.inside.clauses.ok.0 in
    let view = ap (λ (u : Tallies). u.lefts) c.self.view_is in
    told_lefts cs c.tally.new.clauses.items c.args.self.now.lefts _ _ c.args.clause c.tally.ensures.items view
    (ap (λ n. n + 1) (left_read cs c.args.self.now.lefts c.args.clause c.index.result.now at view))

pub returns-clause-firsts : goal.returns-clause-firsts
returns-clause-firsts g c =
    told_firsts c.self.inside.clauses.items c.tally.new.clauses.items c.args.self.now.firsts
    (c.index.result.now.left + 1) c.args.clause
    c.tally.ensures.items (ap (λ (u : Tallies). u.firsts) c.self.view_is)
