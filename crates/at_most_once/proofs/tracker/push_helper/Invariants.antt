use Rattle.std.proofs.Common.{◌≡◌, ◌+◌, ◌++◌, take}
use Rattle.at_most_once.specs.AtMostOne.{helper_clauses}
use Rattle.at_most_once.proofs.tracker.push_helper.Given as goal

abbrev pub invariant-loop-number : goal.invariant-loop-number
invariant-loop-number g l = record {
  items : l.clauses.items ≡ l.fn.clauses.items ++ helper_clauses l.bit l.helper (take l.number l.variables);
  len : l.clauses.len ≡ l.fn.clauses.len + l.number;
  room : l.clauses.cap ≡ l.fn.clauses.cap;
}
