-- What the typed calls answer, as replies, and what they are told, as commands.
use Rattle.std.specs.Prelude.{ℕ, map, Option, Some, None, Result, Ok, Err}
use Rattle.std.specs.declared.vec.Vec.{Vec}
use Rattle.typed_ids.specs.declared.error.StoreError.{StoreError}
use Rattle.decisions.specs.declared.decision.Decision.{Decision}
use Rattle.resolvo_store.specs.declared.answers.Added.{Added}
use Rattle.resolvo_store.specs.declared.answers.Tracked.{Tracked}
use Rattle.resolvo_store.specs.declared.answers.Assignment.{Assignment}
use Rattle.resolvo_store.specs.declared.answers.Assignment.TheVariants as Made
use Rattle.resolvo_store.specs.declared.answers.Next.{Next}
use Rattle.resolvo_store.specs.declared.answers.Next.TheVariants as Found
use Rattle.resolvo_store.specs.Command.{Command, Assign, Reply, LoadedAs, ClauseIs, TrackedAs, Assigned, Already}
use Rattle.resolvo_store.specs.Command.{Clash, Undone, Done, WatchersAre, Decided, NoDecision, Falsified, Conflict}
use Rattle.resolvo_store.specs.Command.{Refused}

-- an answer as a reply: a refusal is one too
abbrev pub replied : {T : Type 0} → (T → Reply) → Result T StoreError → Reply
replied says (Ok answer) = says answer
replied says (Err e) = Refused e

-- there is nothing to tell
abbrev pub done : {T : Type 0} → T → Reply
done _ = Done

abbrev pub added : Added → Reply
added a = ClauseIs a.clause a.is_conflict

-- the lists of a requirement
abbrev pub loaded_as : {A : Type 0} → Vec (Vec ℕ A) A → Reply
loaded_as lists = LoadedAs (map (λ l. l.items) lists.items)

-- the clauses that watch a literal
abbrev pub watchers_are : {A : Type 0} → Vec ℕ A → Reply
watchers_are found = WatchersAre found.items

abbrev pub tracked : Tracked → Reply
tracked t = TrackedAs t.is_new t.clauses

abbrev pub assignment : Assignment → Reply
assignment Made.New = Assigned
assignment Made.Already = Already
assignment Made.Clash = Clash

abbrev pub undone : Decision × ℕ → Reply
undone last = Undone (Some last)

-- a clause that is false, or none
abbrev pub conflict : Option ℕ → Reply
conflict (Some c) = Conflict c
conflict None = Done

abbrev pub next : Next → Reply
next (Found.Decided q) = Decided q
next Found.Done = NoDecision
next (Found.Falsified c) = Falsified c

-- the command that gives the decision's variable its value at the level
abbrev pub assigning : {N S : Type 0} → Decision → ℕ → Command N S
assigning d level = Assign d.variable d.value d.derived_from level
