use Rattle.std.proofs.Common.{◌≡◌, ◌+◌, ◌++◌, take}
use Rattle.at_most_once.specs.AtMostOne.{variable_clauses}
use Rattle.at_most_once.proofs.tracker.push_variable.Given as goal

abbrev pub invariant-loop-bit : goal.invariant-loop-bit
invariant-loop-bit g l = record {
  items : l.clauses.items ≡ l.fn.clauses.items ++ variable_clauses l.number l.variable (take l.bit l.helpers);
  len : l.clauses.len ≡ l.fn.clauses.len + l.bit;
  room : l.clauses.cap ≡ l.fn.clauses.cap;
}
