use Rattle.std.proofs.Common.{◌≡◌, ◌≤◌, length, take}
use Rattle.debian_provider.proofs.Words.{AllZip, AreHere, IsAt, IsLater}
use Rattle.debian_provider.proofs.interning.add_solvables.Given as goal

-- the solvables so far are in the pool, and what was in it is
abbrev pub invariant-loop-place : goal.invariant-loop-place
invariant-loop-place l = record {
  known : AreHere l.pool l.solvables.items;
  at : AllZip (IsAt l.pool l.name) l.solvables.items (take l.place-index l.places);
  longer : length l.fn.pool.solvables ≤ length l.pool.solvables;
  names : l.pool.names ≡ l.fn.pool.names;
  later : IsLater l.fn.pool l.pool;
}
