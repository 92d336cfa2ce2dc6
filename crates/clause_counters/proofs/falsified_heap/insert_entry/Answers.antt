use Rattle.std.proofs.Common.{◌≡◌, ◌<◌, true, length, sym, subst, set}
use Rattle.std.specs.Prelude.{◌∷◌}
use Rattle.std.proofs.lemmas.List.{get_or_read_under}
use Rattle.clause_counters.proofs.Words.{Clause, heap_capacity, heap_clause, heap_items, heap_len, IsHeld, IsOk}
use Rattle.clause_counters.proofs.Words.{IsPermutation, no_heap_clause, with_mark}
use Rattle.clause_counters.proofs.HeldLaws.{held_inserted, room_left, roomier, from_ok}
use Rattle.clause_counters.proofs.falsified_heap.insert_entry.Goals as goal

pub returns-clause-held : goal.returns-clause-held
returns-clause-held g c =
    let cs = c.args.clauses.now.items in
    let old = c.args.heap.now in
    let new = c.push.new.self in
    let within : c.args.clause < length cs = subst (λ n. c.args.clause < n) c.args.clauses.now.ok.0 c.requires.within in
    let at : c.index_mut-at.result.now ≡ heap_clause cs c.args.clause =
    get_or_read_under cs c.args.clause c.args.clauses.now.len c.index_mut-at.result.now no_heap_clause
    c.index_mut-at.ensures.value
    c.requires.within c.args.clauses.now.ok.0 in
    let fits : heap_len old < heap_capacity old =
    subst (λ n. n < heap_capacity old) (sym old.data.ok.0)
    (room_left cs (heap_items old) (heap_capacity old) c.args.clause c.requires.held within c.requires.absent) in
    let pushed : IsOk c.push.result = c.push.ensures.succeeds fits in
    subst (λ (x : Clause). IsHeld (set cs c.args.clause (record x { is_in_heap = true })) (heap_items new)
    (heap_capacity new)) (sym at)
    (roomier (with_mark true c.args.clause cs) (heap_items new) (heap_capacity old) (heap_capacity new)
    (held_inserted cs (heap_items old) (heap_items new) (heap_capacity old) c.args.clause c.requires.held within
    c.requires.absent
    (subst (λ (x : Clause). IsPermutation (record {
      0 = record {
        first_of_parent = x.first_of_parent;
        number = c.args.clause;
      };
    } ∷ heap_items old) (heap_items new)) at
    (from_ok c.push.result pushed c.push.ensures.permutation))
    (from_ok c.push.result pushed c.push.ensures.heap_order))
    c.push.ensures.capacity)
