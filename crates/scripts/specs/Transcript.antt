-- What the commands of a script are answered.
use Rattle.std.specs.Prelude.{◌≡◌, ℕ, ◌+◌, List, [], ◌∷◌, ◌++◌, ◌⊎◌, Option, None, Some, IsSome, Result, Ok, Err, ⊤}
use Rattle.std.specs.Io.{StartsWith}
use Rattle.resolvo_store.specs.declared.command.Command.{Command as ProgramCommand}
use Rattle.resolvo_store.specs.Command.{Command, Reply, command_of}
use Rattle.resolvo_store.specs.Store.{Store}
use Rattle.resolvo_store.specs.Step.{Step}
use Rattle.script_text.specs.declared.fault.LineFault.{LineFault}
use Rattle.script_text.specs.declared.fault.LineFault.TheVariants as OfLine
use Rattle.script_text.specs.declared.fault.ScriptFault.{ScriptFault}
use Rattle.script_text.specs.declared.fault.ScriptFault.TheVariants as OfScript
use Rattle.script_text.specs.declared.statement.Line.{Line}
use Rattle.script_text.specs.declared.statement.Line.TheVariants.{Skipped, Unreadable, Says}
use Rattle.scripts.specs.Commands.{Ids, command_line_of}
use Rattle.scripts.specs.Replies.{reply_text}

-- words are read as the command that they give; or they give none; or memory was refused, though they give one
abbrev pub IsRead : {N S A : Type 0} → Option (Command N S) → Result (ProgramCommand N S A) LineFault → Type 0
IsRead given (Ok c) = given ≡ Some (command_of c)
IsRead given (Err OfLine.Unreadable) = given ≡ None
IsRead given (Err OfLine.Memory) = IsSome given

-- a line says a command, or it is skipped and this holds of those after it
abbrev pub BeginsCommand : {N S : Type 0} → Line (Command N S) → Type 0 → Type 0
BeginsCommand Skipped after = after
BeginsCommand Unreadable after = ⊥
BeginsCommand (Says c) after = ⊤

module _ {N S : Type 0} where
  -- memory was refused for the command that a line says, and the text and the store stay; or for the reply's line, of
  -- which a beginning is put after the text
  abbrev pub RefusesLine : Store N S → Line (Command N S) → List ℕ → List ℕ → Store N S → Type 0
  RefusesLine old (Says c) text text' new =
      ((text' ≡ text) × (new ≡ old))
      ⊎ ((reply : Reply) × Step old c reply new × StartsWith (text ++ reply_text reply) text')
  RefusesLine old _ text text' new = ⊥

  -- a line that says this is obeyed, and a text grows by the reply's line; or the line is unreadable; or memory was
  -- refused, which only a command can be
  abbrev pub ObeysLine : {T : Type 0} → Store N S → Line (Command N S) → List ℕ → Result T LineFault →
      List ℕ → Store N S
      → Type 0
  ObeysLine old said text (Err OfLine.Memory) text' new = RefusesLine old said text text' new
  ObeysLine old said text (Err OfLine.Unreadable) text' new = (said ≡ Unreadable) × (text' ≡ text) × (new ≡ old)
  ObeysLine old Skipped text (Ok _) text' new = (text' ≡ text) × (new ≡ old)
  ObeysLine old Unreadable text (Ok _) text' new = ⊥
  ObeysLine old (Says c) text (Ok _) text' new = (reply : Reply) × Step old c reply new ×
      (text' ≡ text ++ reply_text reply)

  -- words that give this command, or none, are obeyed so
  abbrev pub ObeysGiven : {T : Type 0} → Store N S → Option (Command N S) → List ℕ → Result T LineFault → List ℕ
      → Store N S → Type 0
  ObeysGiven old None text result text' new = ObeysLine old Unreadable text result text' new
  ObeysGiven old (Some c) text result text' new = ObeysLine old (Says c) text result text' new

  -- a line of this number says this, and what is after it goes on so from the store that it leaves, with the text that
  -- is left. `faulty` is the number of the first unreadable line, if there is one
  abbrev pub LineAnswered : Store N S → ℕ → Line (Command N S) → (Store N S → List ℕ → Type 0) → List ℕ → Option ℕ
      → Type 0
  LineAnswered st number Skipped goes_on text faulty = goes_on st text
  LineAnswered st number Unreadable goes_on text faulty = (text ≡ []) × (faulty ≡ Some number)
  LineAnswered st number (Says c) goes_on text faulty =
      (reply : Reply) × (mid : Store N S) × (rest : List ℕ) × Step st c reply mid
      × (text ≡ reply_text reply ++ rest) × goes_on mid rest

-- lines in which numbers stand for these names and solvables
module _ {N S : Type 0} (ids : Ids N S) where
  -- of these lines one says a command, and none before it is unreadable
  abbrev pub HasCommand : List (List ℕ) → Type 0
  HasCommand [] = ⊥
  HasCommand (line ∷ lines) = BeginsCommand (command_line_of ids line) (HasCommand lines)

  -- the lines, of which the first has the number after this one, are answered by this text: a line for each command
  -- that was obeyed, in turn, up to the first unreadable line or the end
  abbrev pub Answered : Store N S → ℕ → List (List ℕ) → List ℕ → Option ℕ → Type 0
  Answered st before [] text faulty = (text ≡ []) × (faulty ≡ None)
  Answered st before (line ∷ lines) text faulty =
      LineAnswered st (before + 1) (command_line_of ids line) (λ mid rest. Answered mid (before + 1) lines rest faulty)
      text faulty

-- a fact of a script that neither lacked memory nor met a fault of a device, by the number of its unreadable line
abbrev pub IfRead : {T : Type 0} → Result T ScriptFault → (Option ℕ → Type 0) → Type 0
IfRead (Ok _) P = P None
IfRead (Err (OfScript.Unreadable number)) P = P (Some number)
IfRead (Err OfScript.Device) P = ⊤
IfRead (Err OfScript.Memory) P = ⊤
