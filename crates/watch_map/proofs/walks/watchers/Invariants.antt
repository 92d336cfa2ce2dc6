use Rattle.std.specs.Prelude.{◌≡◌, ◌++◌, length}
use Rattle.watch_map.proofs.Words.{IfSome, remaining, StandsIn, watchers}
use Rattle.watch_map.proofs.walks.watchers.Given as goal

abbrev pub invariant-loop-cursor : goal.invariant-loop-cursor
invariant-loop-cursor g l = record {
  stands : IfSome l.cursor (λ at. StandsIn at l.map l.watches);
  found : l.found.items ++ remaining l.cursor l.map l.watches ≡ watchers l.map l.watches l.fn.literal;
}

abbrev pub decreases-loop-cursor : goal.decreases-loop-cursor
decreases-loop-cursor g l = length (remaining l.cursor l.map l.watches)
