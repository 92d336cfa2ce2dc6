-- What the counters of falsified clauses count: a store's requires clauses, under its trail.
use Rattle.std.specs.Prelude.{ℕ, ◌≤◌, Bool, false, if◌then◌else◌, List, [], length, map, take}
use Rattle.std.specs.Prelude.{◌<◌, Option, None, Some, IfSome, IsSome, slice_get}
use Rattle.std.specs.Map.{lookup}
use Rattle.providers.specs.Requirement.{same_requirement}
use Rattle.clauses.specs.declared.disjunction.Disjunction.{Disjunction}
use Rattle.decisions.specs.Literals.{Lit, Pos, Neg, is_false_literal}
use Rattle.decisions.specs.Trail.{Entry, Trail, val}
use Rattle.decisions.specs.declared.decision.Decision.{Decision}
use Rattle.falsified_clauses.specs.Clauses.{Counted, Lists, PlacedDemand, counted, with_clause}
use Rattle.falsified_clauses.specs.Counts.{Counts, IsReady, KeyedCounters}
use Rattle.falsified_clauses.specs.declared.clause_groups.ClauseGroups.{ClauseGroups}
use Rattle.falsified_clauses.specs.declared.demand.Demand.{Demand}
use Rattle.resolvo_queue.specs.Scan.First.{first_of}
use Rattle.resolvo_queue.specs.declared.requires_clause.RequiresClause.{RequiresClause}

-- the literal that a decision makes false
abbrev pub false_literal : Decision → Lit
false_literal d = if d.value then Neg d.variable else Pos d.variable

-- whether a literal is false by the entries of a trail
abbrev pub false_by : List Entry → Lit → Bool
false_by entries = is_false_literal (val entries)

-- what a requires clause says
abbrev pub demand_of : RequiresClause → Demand
demand_of c = record { parent = c.parent; requirement = c.requirement; condition = c.condition }

-- a clause, and the first clause of its parent among these
abbrev pub placed_in : List RequiresClause → RequiresClause → PlacedDemand
placed_in requires c = record { demand = demand_of c; first_of_parent = first_of requires c.parent }

-- all of them
abbrev pub placed : List RequiresClause → List PlacedDemand
placed requires = map (placed_in requires) requires

-- the clause with the number, if there is one
abbrev pub clause_at : List RequiresClause → Option ℕ → Option RequiresClause
clause_at requires None = None
clause_at requires (Some number) = slice_get requires number

-- no literal is false: this stands where a trail says which are
abbrev pub no_false : Lit → Bool
no_false _ = false

-- what the counters keep, how many clauses they have counted, the first ones, and how many entries of a trail, the
-- oldest
pub record Counting : Type 0 where
  pub clauses : KeyedCounters
  pub known : ℕ
  pub counted : ℕ

-- the clauses are counted, and false is what the counted entries of the trail make false, whatever s says is. A are the
-- allocators
pub record Follows {A : Type 0} (state : Counting) (entries : List Entry) (s : Counted A) : Type 0 where
  pub within : state.counted ≤ length entries
  pub counts : Counts state.clauses (record s { is_false = false_by (take state.counted entries) })

module _ (A : Type 0) where
  -- no clause is counted, whatever is false
  abbrev pub CountsNothing : KeyedCounters → Type 0
  CountsNothing state = (lists : Lists A) (disjunctions : List (Disjunction A)) (is_false : Lit → Bool) →
      Counts state (counted lists disjunctions [] is_false)

  -- what is followed under one trail is followed under another
  abbrev pub FollowsOn : Counting → Trail → Counting → Trail → Type 0
  FollowsOn old was new now = (s : Counted A) → Follows old was.entries s → Follows new now.entries s

  -- what is followed is followed with a clause more, where these are its groups
  abbrev pub FollowsMore : Counting → Counting → ClauseGroups → ℕ → Type 0
  FollowsMore old new groups first_of_parent = (s : Counted A) (clause : Demand) (entries : List Entry) →
      IsReady old.clauses clause groups → Follows old entries s →
      Follows new entries (with_clause clause first_of_parent s)

module _ {A : Type 0} (lists : Lists A) (disjunctions : List (Disjunction A)) (now : Trail) where
  -- these clauses are followed
  abbrev pub FollowsClauses : Counting → List PlacedDemand → Type 0
  FollowsClauses state clauses = Follows state now.entries (counted lists disjunctions clauses no_false)

  -- the clauses that were followed are
  abbrev pub StillFollows : Counting → Counting → Type 0
  StillFollows old new = (clauses : List PlacedDemand) → FollowsClauses old clauses → FollowsClauses new clauses

  -- where clauses were followed, these groups are ready for one more
  abbrev pub MakesReady : Counting → Counting → Demand → ClauseGroups → Type 0
  MakesReady old new clause groups =
      (clauses : List PlacedDemand) → FollowsClauses old clauses → IsReady new.clauses clause groups

  -- what is counted under the whole trail
  abbrev pub counted_now : List RequiresClause → Counted A
  counted_now requires = counted lists disjunctions (placed requires) (false_by now.entries)

-- what a clause names is there: lists for its requirement, and its disjunction if it has one
pub record IsThere {A : Type 0} (loaded : Lists A) (disjunctions : List (Disjunction A)) (c : RequiresClause) :
    Type 0 where
  pub lists : IsSome (lookup (same_requirement c.requirement) loaded)
  pub disjunction : IfSome c.condition (λ d. d < length disjunctions)

-- of these clauses and this trail the first ones are counted
pub record AreCounted {A : Type 0} (state : Counting) (requires : List RequiresClause) (entries : List Entry)
    (lists : Lists A) (disjunctions : List (Disjunction A)) : Type 0 where
  pub known : state.known ≤ length requires
  pub follows : Follows state entries (counted lists disjunctions (take state.known (placed requires)) no_false)
