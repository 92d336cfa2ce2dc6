use Rattle.std.proofs.Common.{drop, Option}
use Rattle.decisions.specs.Literals.{Lit}
use Rattle.clauses.specs.Walks.{IsFirstTrue}
use Rattle.clauses.proofs.literal_walk.find_stored.Given as goal

-- what passes first in the rest does so in all
abbrev pub invariant-loop-literal : goal.invariant-loop-literal
invariant-loop-literal g l =
    (r : Option Lit) → IsFirstTrue (λ x b. goal.F-post g l.test x b) (drop l.literal-index l.literals) r
    → IsFirstTrue (λ x b. goal.F-post g l.test x b) l.literals r
