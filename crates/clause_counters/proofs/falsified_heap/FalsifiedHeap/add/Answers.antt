use Rattle.std.proofs.Common.{◌≡◌, ◌+◌, ◌<◌, ◌≤◌, ◌^◌, ◌++◌, ◌∷◌, [], true, false, length, sym, ap, subst, ◌∙◌, refl}
use Rattle.std.proofs.Common.{arith}
use Rattle.std.proofs.lemmas.List.{map_push}
use Rattle.clause_counters.proofs.Words.{Clause, firsts_of, heap_capacity, heap_items, IsFalsifiedHeap, IsHeld}
use Rattle.clause_counters.proofs.Words.{lefts_of, Tallies, with_mark}
use Rattle.clause_counters.proofs.HeldLaws.{held_pushed}
use Rattle.clause_counters.proofs.HeapLaws.{heap_pushed, heap_pushed_falsified, fits_parts}
use Rattle.clause_counters.proofs.ClauseLaws.{lefts_kept, firsts_kept}
use Rattle.clause_counters.proofs.falsified_heap.FalsifiedHeap.add.Goals as goal

pub overflow_cast-clause : goal.overflow_cast-clause
overflow_cast-clause g c =
    let room = fits_parts (length c.self.inside.clauses.items) c.self.inside.clauses.cap
    (heap_capacity c.self.inside.heap)
    (subst (λ (t : Tallies). t.has_room ≡ true) (sym c.self.view_is) c.requires) in
    let few = room.0 in
    let len = c.len-clause.ensures in
    let ok = c.self.inside.clauses.ok.0 in
    omega (arith, few, len, ok)

pub insert_entry-requires-clause-held : goal.insert_entry-requires-clause-held
insert_entry-requires-clause-held g c =
    let cs = c.self.inside.clauses.items in
    let h = c.self.inside.heap in
    let x : Clause = record { first_of_parent = c.args.first_of_parent; left = c.args.left; is_in_heap = false } in
    let room = fits_parts (length c.self.inside.clauses.items) c.self.inside.clauses.cap
    (heap_capacity c.self.inside.heap)
    (subst (λ (t : Tallies). t.has_room ≡ true) (sym c.self.view_is) c.requires) in
    let few : length cs < 2 ^ 32 = (let e = room.0 in omega (arith, e)) in
    let fits : length cs + 1 ≤ heap_capacity h = (let e = room.2 in omega (arith, e)) in
    subst (λ items. IsHeld items (heap_items h) (heap_capacity h)) (sym c.push_reserved.ensures.items)
    (held_pushed cs (heap_items h) (heap_capacity h) (heap_capacity h) x c.self.invariant.held refl fits few)

pub invariant_of-self : goal.invariant_of-self
invariant_of-self g c =
    let cs = c.self.inside.clauses.items in
    let new = c.insert_entry.new.heap in
    let x : Clause = record { first_of_parent = c.args.first_of_parent; left = c.args.left; is_in_heap = false } in
    let is : c.len-clause.result ≡ length cs = c.len-clause.ensures ∙ c.self.inside.clauses.ok.0 in
    let e = c.insert_entry.ensures.marked ∙ (ap (with_mark true c.len-clause.result) c.push_reserved.ensures.items
    ∙ ap (λ n. with_mark true n (cs ++ x ∷ [])) is) in
    subst (λ items. IsFalsifiedHeap items (heap_items new) (heap_capacity new)) (sym e)
    (heap_pushed_falsified cs (heap_items c.self.inside.heap) (heap_items new) (heap_capacity c.self.inside.heap)
    (heap_capacity new) x
    c.self.invariant refl (subst (λ items. IsHeld items (heap_items new) (heap_capacity new)) e
    c.insert_entry.ensures.held))

pub invariant_of-self-else-left-eq0 : goal.invariant_of-self-else-left-eq0
invariant_of-self-else-left-eq0 g c =
    let cs = c.self.inside.clauses.items in
    let h = c.self.inside.heap in
    let x : Clause = record { first_of_parent = c.args.first_of_parent; left = c.args.left; is_in_heap = false } in
    let room = fits_parts (length c.self.inside.clauses.items) c.self.inside.clauses.cap
    (heap_capacity c.self.inside.heap)
    (subst (λ (t : Tallies). t.has_room ≡ true) (sym c.self.view_is) c.requires) in
    let few : length cs < 2 ^ 32 = (let e = room.0 in omega (arith, e)) in
    let fits : length cs + 1 ≤ heap_capacity h = (let e = room.2 in omega (arith, e)) in
    subst (λ items. IsFalsifiedHeap items (heap_items h) (heap_capacity h)) (sym c.push_reserved.ensures.items)
    (heap_pushed cs (heap_items h) (heap_capacity h) (heap_capacity h) x c.self.invariant refl c.if-left-eq0.false
    fits few)

pub returns-then-left-eq0-clause-lefts : goal.returns-then-left-eq0-clause-lefts
returns-then-left-eq0-clause-lefts g c =
    let cs = c.self.inside.clauses.items in
    let x : Clause = record { first_of_parent = c.args.first_of_parent; left = c.args.left; is_in_heap = false } in
    ap lefts_of c.insert_entry.ensures.marked ∙ (lefts_kept true c.push_reserved.new.self.items _
    ∙ (ap lefts_of c.push_reserved.ensures.items
    ∙ (map_push (λ (y : Clause). y.left) cs x ∙ ap (λ (u : Tallies). u.lefts ++ c.args.left ∷ []) c.self.view_is)))

pub returns-then-left-eq0-clause-firsts : goal.returns-then-left-eq0-clause-firsts
returns-then-left-eq0-clause-firsts g c =
    let cs = c.self.inside.clauses.items in
    let x : Clause = record { first_of_parent = c.args.first_of_parent; left = c.args.left; is_in_heap = false } in
    ap firsts_of c.insert_entry.ensures.marked ∙ (firsts_kept true c.push_reserved.new.self.items _
    ∙ (ap firsts_of c.push_reserved.ensures.items
    ∙ (map_push (λ (y : Clause). y.first_of_parent) cs x ∙ ap (λ (u : Tallies). u.firsts ++ c.args.first_of_parent ∷ [])
    c.self.view_is)))
