-- The trail that the queue of a store is in sync with, and how often it read the rows of requirements. A Decide that is
-- refused keeps what it read, so this is no part of the abstract store.
use Rattle.std.specs.Prelude.{ℕ, Bool, List}
use Rattle.providers.specs.declared.requirement.Requirement.{Requirement}
use Rattle.decisions.specs.Trail.{Trail}
use Rattle.decisions.specs.declared.decision.Decision.{Decision}
use Rattle.resolvo_queue.specs.Queue.{Queue}
use Rattle.resolvo_queue.specs.Parts.{Record}
use Rattle.resolvo_queue.specs.WalkCounts.{owed_in, walks_in}

pub record QueueState : Type 0 where
  -- for each requirement of a registered clause how often its rows were walked, and what is known of them
  pub records : List Record
  -- the trail of the last sync, and whether that was refused
  pub trail : List Decision
  pub must_start_anew : Bool
  -- how few entries the store's trail had at the least since
  pub floor : ℕ

abbrev pub queue_state_of : {N H : Type 0} → Queue N H → Trail → QueueState
queue_state_of q t = record {
  records = q.inside.requirements;
  trail = q.trail;
  must_start_anew = q.must_start_anew;
  floor = t.floor;
}

-- how often the rows of a requirement were walked
abbrev pub walks : QueueState → Requirement → ℕ
walks queue_state r = walks_in queue_state.records r

-- and once more where nothing is known of them
abbrev pub owed : QueueState → Requirement → ℕ
owed queue_state r = owed_in queue_state.records r
