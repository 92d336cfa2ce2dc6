use Rattle.std.proofs.Common.{◌≡◌, ◌<◌, false, Some, length, sym, subst, arith, set}
use Rattle.std.specs.Prelude.{◌∷◌}
use Rattle.std.proofs.lemmas.List.{get_or_read_under}
use Rattle.clause_counters.proofs.Words.{Clause, heap_capacity, heap_clause, heap_cmp, heap_items, IfSome, IsHeld}
use Rattle.clause_counters.proofs.Words.{IsPermutation, IsSome, no_heap_clause, PopsGreatest, with_mark}
use Rattle.clause_counters.proofs.HeldLaws.{held_removed, top_within, popped_is, roomier}
use Rattle.clause_counters.proofs.falsified_heap.remove_top.Goals as goal

pub returns-clause-held : goal.returns-clause-held
returns-clause-held g c =
    let cs = c.args.clauses.now.items in
    let old = c.args.heap.now in
    let new = c.pop.new.self in
    let top = c.args.top in
    let within : top.number < length cs = top_within cs (heap_items old)
    (heap_capacity old) top c.requires.held c.requires.top in
    let at : c.index_mut.result.now ≡ heap_clause cs top.number =
    get_or_read_under cs top.number c.args.clauses.now.len c.index_mut.result.now no_heap_clause
    c.index_mut.ensures.value
    (subst (λ n. top.number < n) (sym c.args.clauses.now.ok.0) within) c.args.clauses.now.ok.0 in
    let some : IsSome c.pop.result = c.pop.ensures.variant.1 (subst (λ n. 0 < n) (sym old.data.ok.0) c.requires.top.0)
    in
    let is : c.pop.result ≡ Some (record { 0 = top }) =
    popped_is (heap_items old) c.pop.result top c.requires.top.0 c.requires.top.1 some c.pop.ensures.top in
    subst (λ (x : Clause). IsHeld (set cs top.number (record x { is_in_heap = false })) (heap_items new)
    (heap_capacity new)) (sym at)
    (roomier (with_mark false top.number cs) (heap_items new) (heap_capacity old) (heap_capacity new)
    (held_removed cs (heap_items old) (heap_items new) (heap_capacity old) top.first_of_parent top.number
    c.requires.held
    (subst (λ o. IfSome o (λ x. IsPermutation (heap_items old) (x ∷ heap_items new))) is c.pop.ensures.permutation)
    (λ h. (subst (λ o. IfSome o (λ x. PopsGreatest heap_cmp (heap_items old) x (heap_items new))) is
    c.pop.ensures.heap_order h).0))
    (let e = c.pop.ensures.capacity in omega (arith, e)))
