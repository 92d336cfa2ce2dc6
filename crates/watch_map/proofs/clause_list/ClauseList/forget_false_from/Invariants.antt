use Rattle.std.specs.Prelude.{◌≡◌, drop}
use Rattle.watch_map.proofs.Words.{contents, none_watched_false}
use Rattle.watch_map.proofs.clause_list.ClauseList.forget_false_from.Given as goal

-- those that the rest leaves of what is left are those that are left in the end
abbrev pub invariant-loop-index : goal.invariant-loop-index
invariant-loop-index g l =
    none_watched_false l.trail.entries l.marks (drop l.index (contents l.self).watches)
    ≡ none_watched_false l.trail.entries l.fn.marks (drop l.first (contents l.self).watches)
