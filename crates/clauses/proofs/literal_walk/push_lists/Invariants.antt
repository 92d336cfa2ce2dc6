use Rattle.std.proofs.Common.{◌≡◌, ◌++◌, map, drop}
use Rattle.std.specs.Prelude.{flat_map}
use Rattle.decisions.specs.Literals.{Pos}
use Rattle.clauses.proofs.literal_walk.push_lists.Given as goal

-- with what is left it is as with all
abbrev pub invariant-loop-list : goal.invariant-loop-list
invariant-loop-list g l =
    l.literals.items ++ flat_map (map Pos) (map (λ list. list.items) (drop l.list-index l.lists))
    ≡ l.fn.literals.items ++ flat_map (map Pos) (map (λ list. list.items) l.lists)
