use Rattle.std.proofs.Common.{◌≡◌, ◌+◌, ◌++◌, replicate, None, vec_len, vec_capacity}
use Rattle.id_storage.proofs.mapping.add_empty.Given as goal

-- so many empty slots come after the first ones, and the room is the same
abbrev pub invariant-loop : goal.invariant-loop
invariant-loop g l = record {
  added : l.slots.items ≡ l.initial.slots.items ++ replicate l.counter None;
  len : vec_len l.slots ≡ vec_len l.initial.slots + l.counter;
  room : vec_capacity l.slots ≡ vec_capacity l.initial.slots;
}
