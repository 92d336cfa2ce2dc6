use Rattle.std.proofs.Common.{drop, map, Option}
use Rattle.std.specs.Prelude.{flat_map}
use Rattle.decisions.specs.Literals.{Lit, Pos}
use Rattle.clauses.specs.Walks.{IsFirstTrue}
use Rattle.clauses.proofs.literal_walk.find_in_lists.Given as goal

-- what passes first in the rest does so in all
abbrev pub invariant-loop-list : goal.invariant-loop-list
invariant-loop-list g l =
    (r : Option Lit) → IsFirstTrue (λ x b. goal.F-post g l.test x b)
    (flat_map (map Pos) (map (λ list. list.items) (drop l.list-index l.lists))) r
    → IsFirstTrue (λ x b. goal.F-post g l.test x b) (flat_map (map Pos) (map (λ list. list.items) l.lists)) r
