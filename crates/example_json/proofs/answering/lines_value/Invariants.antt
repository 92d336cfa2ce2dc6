use Rattle.std.proofs.Common.{◌≡◌, map}
use Rattle.example_json.proofs.Words.{string, view}
use Rattle.example_json.proofs.answering.lines_value.Given as goal

-- the lines so far
abbrev pub invariant-loop-line : goal.invariant-loop-line
invariant-loop-line l = map view l.values.items ≡ map (λ line. string line.now) l.yielded
