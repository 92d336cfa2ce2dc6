use Rattle.std.proofs.Common.{◌≡◌, map, not, take}
use Rattle.solutions.proofs.Words.{Literal}
use Rattle.solutions.proofs.refuting.negated.Given as goal

abbrev pub invariant-loop-literal : goal.invariant-loop-literal
invariant-loop-literal g l =
    l.negated.items ≡ map (λ (k : Literal g.row.N.Denot g.row.S.Denot). record {
      fact = k.fact;
      number =
          k.number;
      value = not k.value;
    }) (take l.literal-index l.literals)
