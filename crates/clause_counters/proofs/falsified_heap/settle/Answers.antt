use Rattle.std.proofs.Common.{◌≡◌, ◌<◌, sym, ap, subst, ◌∙◌, Some, None, false}
use Rattle.std.proofs.lemmas.List.{get_or_read_under}
use Rattle.clause_counters.proofs.Words.{Clause, firsts_of, heap_capacity, heap_clause, heap_items, IsFalsifiedHeap}
use Rattle.clause_counters.proofs.Words.{IsHeld, lefts_of, no_heap_clause}
use Rattle.clause_counters.proofs.HeapLaws.{first_is_top, none_is_first, heap_removed, same_first}
use Rattle.clause_counters.proofs.HeldLaws.{top_within}
use Rattle.clause_counters.proofs.ClauseLaws.{lefts_kept, firsts_kept}
use Rattle.clause_counters.proofs.falsified_heap.settle.Goals as goal

pub returns-then-index-eq0-clause-first : goal.returns-then-index-eq0-clause-first
returns-then-index-eq0-clause-first g c =
    let cs = c.loop-top.clauses.items in
    let es = heap_items c.loop-top.heap in
    let room = heap_capacity c.loop-top.heap in
    let top = c.in-Some.top in
    let falsified = c.loop-top.invariant.falsified in
    let within = top_within cs es room top falsified.held c.in-Some.ensures.some in
    let at : c.index.result.now ≡ heap_clause cs top.number =
    get_or_read_under cs top.number c.loop-top.clauses.len c.index.result.now no_heap_clause c.index.ensures
    (subst (λ n. top.number < n) (sym c.loop-top.clauses.ok.0) within) c.loop-top.clauses.ok.0 in
    same_first (lefts_of cs) (lefts_of c.args.clauses.now.items) (firsts_of cs)
    (firsts_of c.args.clauses.now.items) (Some top.number)
    c.loop-top.invariant.lefts c.loop-top.invariant.firsts
    (first_is_top cs es room top falsified c.in-Some.ensures.some (sym (ap (λ (x : Clause). x.left) at)
    ∙ c.if-index-eq0.true))

pub loop-top-preserved : goal.loop-top-preserved
loop-top-preserved g c =
    let cs = c.loop-top.clauses.items in
    let es = heap_items c.loop-top.heap in
    let room = heap_capacity c.loop-top.heap in
    let top = c.in-Some.top in
    let falsified = c.loop-top.invariant.falsified in
    let within = top_within cs es room top falsified.held c.in-Some.ensures.some in
    let at : c.index.result.now ≡ heap_clause cs top.number =
    get_or_read_under cs top.number c.loop-top.clauses.len c.index.result.now no_heap_clause c.index.ensures
    (subst (λ n. top.number < n) (sym c.loop-top.clauses.ok.0) within) c.loop-top.clauses.ok.0 in
    let new = c.remove_top.new.heap in
    let more = heap_capacity new in
    record {
      falsified = subst (λ items. IsFalsifiedHeap items (heap_items new) more) (sym c.remove_top.ensures.marked)
          (heap_removed cs es (heap_items new) room more top.number falsified
          (subst (λ items. IsHeld items (heap_items new) more) c.remove_top.ensures.marked c.remove_top.ensures.held)
          within
          (λ z. c.if-index-eq0.false (ap (λ (x : Clause). x.left) at ∙ z)));
      lefts = ap lefts_of c.remove_top.ensures.marked ∙ (lefts_kept false cs top.number ∙ c.loop-top.invariant.lefts);
      firsts = ap firsts_of c.remove_top.ensures.marked
          ∙ (firsts_kept false cs top.number ∙ c.loop-top.invariant.firsts);
    }

pub returns-clause-first : goal.returns-clause-first
returns-clause-first g c =
    same_first (lefts_of c.loop-top.clauses.items) (lefts_of c.args.clauses.now.items)
    (firsts_of c.loop-top.clauses.items)
    (firsts_of c.args.clauses.now.items) None c.loop-top.invariant.lefts c.loop-top.invariant.firsts
    (none_is_first c.loop-top.clauses.items (heap_capacity c.loop-top.heap)
    (subst (λ es. IsFalsifiedHeap c.loop-top.clauses.items es (heap_capacity c.loop-top.heap))
    c.in_default.ensures.none c.loop-top.invariant.falsified))
