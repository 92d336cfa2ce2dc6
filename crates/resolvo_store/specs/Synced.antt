-- That a queue keeps in step with a trail. N are the names of packages, H the sets of them.
use Rattle.std.specs.Prelude.{◌≡◌, ◌≤◌, ℕ, Bool, false, List, map, length}
use Rattle.decisions.specs.declared.decision.Decision.{Decision}
use Rattle.decisions.specs.Trail.{Entry, Trail}
use Rattle.resolvo_queue.specs.Queue.{Queue, AgreesBelow, AreNamed, OnlyHotScore, StandsOn}
use Rattle.resolvo_queue.specs.References.{References}

-- the decisions of a trail's entries
abbrev pub decisions_of : List Entry → List Decision
decisions_of es = map (λ e. e.decision) es

-- the floor is within the trail, and where the queue's last sync wasn't refused, its trail is this one below the floor
pub record IsInStep {N H : Type 0} (q : Queue N H) (t : Trail) : Type 0 where
  pub within : t.floor ≤ length t.entries
  pub agrees : q.must_start_anew ≡ false → AgreesBelow t.floor (decisions_of t.entries) q

-- the queue may decide once it was synced: what its clauses name is there, the names of each clause are its
-- requirement's packages, and only hot names have a score. `has` says what sets of names have
pub record MayDecide {N S A H : Type 0} (has : H → N → Bool) (scores : N → ℕ) (refs : References N S A) (q : Queue N H)
    (t : Trail) : Type 0 where
  pub in_step : IsInStep q t
  pub stands : StandsOn refs q
  pub named : AreNamed refs.universe q
  pub hot : OnlyHotScore has scores q
