-- Commands and replies, with lists where the program has vectors. N are the names, S the solvables.
use Rattle.std.specs.Prelude.{ℕ, Bool, true, false, List, map, Option, Result, Ok, Err, ⊤}
use Rattle.typed_ids.specs.declared.error.StoreError.{StoreError}
use Rattle.typed_ids.specs.declared.string_id.StringId.{StringId}
use Rattle.typed_ids.specs.declared.version_set_id.VersionSetId.{VersionSetId}
use Rattle.providers.specs.declared.requirement.Requirement.{Requirement}
use Rattle.decisions.specs.Literals.{Lit}
use Rattle.decisions.specs.declared.decision.Decision.{Decision}
use Rattle.resolvo_queue.specs.declared.queue_decision.QueueDecision.{QueueDecision}
use Rattle.resolvo_store.specs.declared.command.Command.{Command as ProgramCommand}
use Rattle.resolvo_store.specs.declared.helper_origin.HelperOrigin.{HelperOrigin}
use Rattle.resolvo_store.specs.declared.command.Command.TheVariants as In
use Rattle.resolvo_store.specs.declared.reply.Reply.{Reply as ProgramReply}
use Rattle.resolvo_store.specs.declared.reply.Reply.TheVariants as Out

pub data Command (N S : Type 0) : Type 0 where
  Variable : (s : S) → Command N S
  Helper : (origin : HelperOrigin N) → Command N S
  Load : (r : Requirement) → Command N S
  Disjunction : (literals : List Lit) (condition : ℕ) → Command N S
  Requires : (parent : ℕ) (r : Requirement) (disjunction : Option ℕ) → Command N S
  Root : Command N S
  Constrains : (parent forbidden : ℕ) (set : VersionSetId) → Command N S
  ConstrainsExcluded : (candidate aux : ℕ) (set : VersionSetId) → Command N S
  ConstrainsParent : (parent aux : ℕ) (set : VersionSetId) → Command N S
  Lock : (locked other : ℕ) → Command N S
  Exclude : (variable : ℕ) (reason : StringId) → Command N S
  AnyOf : (selected other : ℕ) → Command N S
  Learnt : (literals : List Lit) → Command N S
  AtMostOnce : (name : N) (variable : ℕ) → Command N S
  Assign : (variable : ℕ) (value : Bool) (clause level : ℕ) → Command N S
  UndoLast : Command N S
  UndoUntil : (level : ℕ) → Command N S
  Unpropagated : Command N S
  Bump : (name : N) (amount : ℕ) → Command N S
  Decay : (numerator denominator : ℕ) → Command N S
  Standard : (standard : Bool) → Command N S
  Rewatch : (clause : ℕ) (from to : Lit) → Command N S
  Watchers : (literal : Lit) → Command N S
  Saturate : (level : ℕ) → Command N S
  Decide : Command N S

pub data Reply : Type 0 where
  VariableIs : (variable : ℕ) → Reply
  LoadedAs : (lists : List (List ℕ)) → Reply
  DisjunctionIs : (disjunction : ℕ) → Reply
  ClauseIs : (clause : ℕ) (conflict : Bool) → Reply
  TrackedAs : (new : Bool) (clauses : ℕ) → Reply
  Assigned : Reply
  Already : Reply
  Clash : Reply
  Undone : (last : Option (Decision × ℕ)) → Reply
  Next : (decision : Option Decision) → Reply
  Done : Reply
  WatchersAre : (clauses : List ℕ) → Reply
  Decided : (q : QueueDecision) → Reply
  NoDecision : Reply
  Falsified : (clause : ℕ) → Reply
  Conflict : (clause : ℕ) → Reply
  Refused : (e : StoreError) → Reply

abbrev pub IsRefused : Reply → Type 0
IsRefused (Refused e) = ⊤
IsRefused _ = ⊥

-- the one command that keeps what it did where it is refused
abbrev pub is_saturate : {N S : Type 0} → Command N S → Bool
is_saturate (Saturate level) = true
is_saturate _ = false

-- the program's command
abbrev pub command_of : {N S A : Type 0} → ProgramCommand N S A → Command N S
command_of (In.Variable s) = Variable s
command_of (In.Helper origin) = Helper origin
command_of (In.Load r) = Load r
command_of (In.Disjunction literals condition) = Disjunction literals.items condition
command_of (In.Requires parent r disjunction) = Requires parent r disjunction
command_of In.Root = Root
command_of (In.Constrains parent forbidden set) = Constrains parent forbidden set
command_of (In.ConstrainsExcluded candidate aux set) = ConstrainsExcluded candidate aux set
command_of (In.ConstrainsParent parent aux set) = ConstrainsParent parent aux set
command_of (In.Lock locked other) = Lock locked other
command_of (In.Exclude variable reason) = Exclude variable reason
command_of (In.AnyOf selected other) = AnyOf selected other
command_of (In.Learnt literals) = Learnt literals.items
command_of (In.AtMostOnce name variable) = AtMostOnce name variable
command_of (In.Assign variable value clause level) = Assign variable value clause level
command_of In.UndoLast = UndoLast
command_of (In.UndoUntil level) = UndoUntil level
command_of In.Unpropagated = Unpropagated
command_of (In.Bump name amount) = Bump name amount
command_of (In.Decay numerator denominator) = Decay numerator denominator
command_of (In.Standard standard) = Standard standard
command_of (In.Rewatch clause from to) = Rewatch clause from to
command_of (In.Watchers literal) = Watchers literal
command_of (In.Saturate level) = Saturate level
command_of In.Decide = Decide

-- the program's reply
abbrev pub reply_of : {A : Type 0} → ProgramReply A → Reply
reply_of (Out.Variable variable) = VariableIs variable
reply_of (Out.Loaded lists) = LoadedAs (map (λ l. l.items) lists.items)
reply_of (Out.Disjunction disjunction) = DisjunctionIs disjunction
reply_of (Out.Clause clause conflict) = ClauseIs clause conflict
reply_of (Out.Tracked new clauses) = TrackedAs new clauses
reply_of Out.Assigned = Assigned
reply_of Out.Already = Already
reply_of Out.Clash = Clash
reply_of (Out.Undone last) = Undone last
reply_of (Out.Next decision) = Next decision
reply_of Out.Done = Done
reply_of (Out.Watchers clauses) = WatchersAre clauses.items
reply_of (Out.Decided q) = Decided q
reply_of Out.NoDecision = NoDecision
reply_of (Out.Falsified clause) = Falsified clause
reply_of (Out.Conflict clause) = Conflict clause
reply_of (Out.Refused e) = Refused e
