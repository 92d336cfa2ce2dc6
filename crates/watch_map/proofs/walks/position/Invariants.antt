use Rattle.std.specs.Prelude.{◌≡◌, true, length}
use Rattle.watch_map.proofs.Words.{IfSome, is_clause_in, literal_of, remaining, StandsIn}
use Rattle.watch_map.proofs.walks.position.Given as goal

abbrev pub invariant-loop-cursor : goal.invariant-loop-cursor
invariant-loop-cursor g l = record {
  stands : IfSome l.cursor (λ at. StandsIn at l.map l.watches);
  literal : IfSome l.cursor (λ at. literal_of at ≡ l.fn.literal);
  ahead : is_clause_in l.id (remaining l.cursor l.map l.watches) ≡ true;
}

abbrev pub decreases-loop-cursor : goal.decreases-loop-cursor
decreases-loop-cursor g l = length (remaining l.cursor l.map l.watches)
