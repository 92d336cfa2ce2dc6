use Rattle.std.proofs.Common.{◌≡◌, ◌-◌, ◌<◌, true, sym, ap, subst, ◌∙◌}
use Rattle.std.proofs.lemmas.List.{get_or_read_under}
use Rattle.clause_counters.proofs.Words.{firsts_of, heap_clause, lefts_of, no_heap_clause, Tallies}
use Rattle.clause_counters.proofs.ClauseLaws.{told_lefts, told_firsts, left_read, within_from_left, lefts_kept}
use Rattle.clause_counters.proofs.ClauseLaws.{firsts_kept}
use Rattle.clause_counters.proofs.falsified_heap.FalsifiedHeap.lower.Goals.{else-at-eq1-via-then-at-eq1+else-not-at}
use Rattle.clause_counters.proofs.falsified_heap.FalsifiedHeap.lower.Goals.{else-at-eq1-via-else-at-eq1}
use Rattle.clause_counters.proofs.falsified_heap.FalsifiedHeap.lower.Goals as goal

pub returns-then-not-at-clause-lefts : goal.returns-then-not-at-clause-lefts
returns-then-not-at-clause-lefts g c =
    let cs = c.self.inside.clauses.items in
    let lefts = c.args.self.now.lefts in
    let view = ap (λ (u : Tallies). u.lefts) c.self.view_is in
    let at : c.index-at.result.now ≡ heap_clause cs c.args.clause =
    get_or_read_under cs c.args.clause c.self.inside.clauses.len c.index-at.result.now no_heap_clause c.index-at.ensures
    (subst (λ n. c.args.clause < n) (sym c.self.inside.clauses.ok.0)
    (within_from_left cs lefts c.args.clause view c.requires))
    c.self.inside.clauses.ok.0 in
    ap lefts_of c.insert_entry.ensures.marked ∙ lefts_kept true c.tally.new.clauses.items c.args.clause
    ∙ told_lefts cs c.tally.new.clauses.items lefts _ _ c.args.clause c.tally.ensures.items view
    (ap (λ n. n - 1) (left_read cs lefts c.args.clause c.index-at.result.now at view))

pub returns-then-not-at-clause-firsts : goal.returns-then-not-at-clause-firsts
returns-then-not-at-clause-firsts g c =
    ap firsts_of c.insert_entry.ensures.marked ∙ firsts_kept true c.tally.new.clauses.items c.args.clause
    ∙ told_firsts c.self.inside.clauses.items c.tally.new.clauses.items c.args.self.now.firsts
    (c.index-at.result.now.left - 1) c.args.clause
    c.tally.ensures.items (ap (λ (u : Tallies). u.firsts) c.self.view_is)

pub returns-else-at-eq1-clause-lefts : goal.returns-else-at-eq1-clause-lefts
returns-else-at-eq1-clause-lefts g c =
    let cs = c.self.inside.clauses.items in
    let lefts = c.args.self.now.lefts in
    let view = ap (λ (u : Tallies). u.lefts) c.self.view_is in
    let at : c.index-at.result.now ≡ heap_clause cs c.args.clause =
    get_or_read_under cs c.args.clause c.self.inside.clauses.len c.index-at.result.now no_heap_clause c.index-at.ensures
    (subst (λ n. c.args.clause < n) (sym c.self.inside.clauses.ok.0)
    (within_from_left cs lefts c.args.clause view c.requires))
    c.self.inside.clauses.ok.0 in
    let told = told_lefts cs c.tally.new.clauses.items lefts _ _ c.args.clause c.tally.ensures.items view
    (ap (λ n. n - 1) (left_read cs lefts c.args.clause c.index-at.result.now at view)) in
    elim c.else-at-eq1.branch [
      | else-at-eq1-via-then-at-eq1+else-not-at w ↦ ap (λ (u : Tallies). u.lefts) w.self-is ∙ told
      | else-at-eq1-via-else-at-eq1 w ↦ ap (λ (u : Tallies). u.lefts) w.self-is ∙ told
    ]

pub returns-else-at-eq1-clause-firsts : goal.returns-else-at-eq1-clause-firsts
returns-else-at-eq1-clause-firsts g c =
    let told = told_firsts c.self.inside.clauses.items c.tally.new.clauses.items c.args.self.now.firsts
    (c.index-at.result.now.left - 1)
    c.args.clause c.tally.ensures.items (ap (λ (u : Tallies). u.firsts) c.self.view_is) in
    elim c.else-at-eq1.branch [
      | else-at-eq1-via-then-at-eq1+else-not-at w ↦ ap (λ (u : Tallies). u.firsts) w.self-is ∙ told
      | else-at-eq1-via-else-at-eq1 w ↦ ap (λ (u : Tallies). u.firsts) w.self-is ∙ told
    ]
