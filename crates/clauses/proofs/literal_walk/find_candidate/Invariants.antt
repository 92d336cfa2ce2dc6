use Rattle.std.proofs.Common.{drop, map, Option}
use Rattle.decisions.specs.Literals.{Lit, Pos}
use Rattle.clauses.specs.Walks.{IsFirstTrue}
use Rattle.clauses.proofs.literal_walk.find_candidate.Given as goal

-- what passes first in the rest does so in all
abbrev pub invariant-loop-candidate : goal.invariant-loop-candidate
invariant-loop-candidate g l =
    (r : Option Lit) → IsFirstTrue (λ x b. goal.F-post g l.test x b) (map Pos (drop l.candidate-index l.candidates)) r
    → IsFirstTrue (λ x b. goal.F-post g l.test x b) (map Pos l.candidates) r
