-- What an incremental queue keeps true of one clause, as far as is known.
use Rattle.std.specs.Prelude.{◌≡◌, ℕ, Bool, true, false, ◌&&◌, List, Option, Some, None, is_some}
use Rattle.resolvo_queue.specs.Types.{Frontier, Lit, TrackedClause, Values}
use Rattle.resolvo_queue.specs.Scan.{are_literals_false}

-- two values of each variable, the same but at the routed ones
abbrev pub SameElsewhere : (routed : ℕ → Bool) → Values → Values → Type 0
SameElsewhere routed before now = (x : ℕ) → routed x ≡ false → before x ≡ now x

-- what is known of a requirement: nothing, or its frontier, which may be none
abbrev pub Known : Type 0
Known = Option (Option Frontier)

-- not known to have no frontier
abbrev pub may_have_frontier : Known → Bool
may_have_frontier None = true
may_have_frontier (Some f) = is_some f

-- the clause may be eligible, as far as is known of each record's requirement; `counted` says whose parents count as
-- true
abbrev pub is_possible : (TrackedClause → List Lit) → (TrackedClause → Bool) → Values → (ℕ → Known)
    → TrackedClause → Bool
is_possible literals counted val known c =
    counted c && (are_literals_false val (literals c) && may_have_frontier (known c.record))
