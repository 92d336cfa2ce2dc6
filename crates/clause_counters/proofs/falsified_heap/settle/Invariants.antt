use Rattle.std.proofs.Common.{◌≡◌}
use Rattle.clause_counters.proofs.Words.{firsts_of, heap_capacity, heap_items, heap_len, IsFalsifiedHeap, lefts_of}
use Rattle.clause_counters.proofs.falsified_heap.settle.Given as goal

abbrev pub invariant-loop-top : goal.invariant-loop-top
invariant-loop-top g l = record {
  falsified : IsFalsifiedHeap l.clauses.items (heap_items l.heap) (heap_capacity l.heap);
  lefts : lefts_of l.clauses.items ≡ lefts_of l.fn.clauses.items;
  firsts : firsts_of l.clauses.items ≡ firsts_of l.fn.clauses.items;
}

abbrev pub decreases-loop-top : goal.decreases-loop-top
decreases-loop-top g l = heap_len l.heap
