-- How a script ends: what was written by then, and what its reader and its writer did.
use Rattle.std.specs.Prelude.{◌≡◌, ℕ, ◌^◌, List, [], ◌++◌, ◌⊎◌, Option, None, Some, Result, Ok, Err}
use Rattle.script_text.specs.Devices.{CallsWithin, ReadingEnds, GoesWell, GivesUp}
use Rattle.script_text.specs.Output.{HandsOn, TakesSome}
use Rattle.script_text.specs.declared.fault.ScriptFault.{ScriptFault}
use Rattle.script_text.specs.declared.fault.ScriptFault.TheVariants.{Unreadable, Device, Memory}
use Rattle.scripts.specs.Replies.{unreadable_text}
use Rattle.scripts.specs.Scripts.{faulty_text, ScriptAnswered}

-- what lines are answered by a text, up to the first unreadable one if there is one
module _ (answered : List (List ℕ) → List ℕ → Option ℕ → Type 0) where
  -- the first of these lines, however many, are answered by this text, in which an unreadable one is named
  abbrev pub FirstAnswered : List (List ℕ) → List ℕ → Type 0
  FirstAnswered lines text =
      (first left : List (List ℕ)) × (answer : List ℕ) × (faulty : Option ℕ) × (lines ≡ first ++ left) ×
      answered first answer faulty
      × (text ≡ answer ++ faulty_text faulty)

  -- what lines are answered was handed on, and waits where it isn't written: all of it; or, of an answer to the first
  -- of them, all but what memory was refused for, or what a writer that failed took
  abbrev pub HandsAnswer : {T : Type 0} → List (List ℕ) → Option (List ℕ) → List ℕ →
      Result T ScriptFault → Option (List ℕ)
      → List ℕ → Type 0
  HandsAnswer lines held waiting (Ok _) held' waiting' =
      (text : List ℕ) × answered lines text None × HandsOn held waiting held' waiting' text
  HandsAnswer lines held waiting (Err (Unreadable number)) held' waiting' =
      (text : List ℕ) × answered lines text (Some number) × HandsOn held waiting held' waiting' text
  HandsAnswer lines held waiting (Err Memory) held' waiting' =
      (text lost : List ℕ) × FirstAnswered lines text × HandsOn held waiting held' (waiting' ++ lost) text
  HandsAnswer lines held waiting (Err Device) held' waiting' =
      (text : List ℕ) × FirstAnswered lines text × TakesSome held (waiting ++ text) held'

-- the line that names a script's unreadable line, where it ended at one
abbrev pub named_text : {T : Type 0} → Result T ScriptFault → List ℕ
named_text (Err (Unreadable number)) = unreadable_text number
named_text _ = []

-- the writer took a beginning of what the first lines of a script, however many, are answered
abbrev pub TakesBeginning : List (List ℕ) → Option (List ℕ) → Option (List ℕ) → Type 0
TakesBeginning lines held held' = (text : List ℕ) × FirstAnswered ScriptAnswered lines text × TakesSome held text held'

module _ {W : Type 0} (writes fails : W → W → Type 0) where
  -- the writer is given up where a device's fault is told; at every other end no write and no flush failed
  abbrev pub WriterEnds : {T : Type 0} → W → Result T ScriptFault → W → Type 0
  WriterEnds w (Err Device) w' = GivesUp writes fails w w'
  WriterEnds w _ w' = GoesWell writes fails w w'

module _ {R W : Type 0} (reads read_fails : R → R → Type 0) (writes write_fails : W → W → Type 0) where
  -- reading ended the script, and the writer is as it was; or no read failed, and the script ended with its writer
  abbrev pub DevicesEnd : {T : Type 0} → R → W → Result T ScriptFault → R → W → Type 0
  DevicesEnd r w result r' w' =
      (ReadingEnds reads read_fails (2 ^ 32) r result r' × (w' ≡ w))
      ⊎ (CallsWithin reads read_fails (2 ^ 32) r r' × WriterEnds writes write_fails w result w')
