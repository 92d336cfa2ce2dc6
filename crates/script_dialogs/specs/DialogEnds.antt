-- How a dialogue ends, and what was written by then.
use Rattle.std.specs.Prelude.{◌≡◌, ℕ, List, ◌++◌, Option, None, Some, IfSome, Result, Ok, Err}
use Rattle.std.specs.Io.KnownBytes.{Appends}
use Rattle.script_text.specs.Output.{TakesSome}
use Rattle.script_text.specs.declared.fault.ScriptFault.{ScriptFault}
use Rattle.script_text.specs.declared.fault.ScriptFault.TheVariants.{Unreadable, Device, Memory}
use Rattle.dialogs.specs.LineReads.{whole_lines}
use Rattle.scripts.specs.Ends.{FirstAnswered}
use Rattle.scripts.specs.Scripts.{ScriptAnswered, faulty_text}

-- what lines are answered by a text, up to the first unreadable one if there is one
module _ (answered : List (List ℕ) → List ℕ → Option ℕ → Type 0) where
  -- lines were answered, and an unreadable one is named; or memory was refused, and what was written answers the first
  -- lines, however many; or a device failed, and of such an answer a beginning was written
  abbrev pub AnswersNamed : {T : Type 0} → List (List ℕ) → Option (List ℕ) → Result T ScriptFault → Option (List ℕ)
      → Type 0
  AnswersNamed lines held (Ok _) held' = (text : List ℕ) × answered lines text None × Appends held held' text
  AnswersNamed lines held (Err (Unreadable number)) held' =
      (text : List ℕ) × answered lines text (Some number) × Appends held held' (text ++ faulty_text (Some number))
  AnswersNamed lines held (Err Memory) held' =
      (text : List ℕ) × FirstAnswered answered lines text × Appends held held' text
  AnswersNamed lines held (Err Device) held' =
      (text : List ℕ) × FirstAnswered answered lines text × TakesSome held text held'

  -- since the peer was as at first, all whole lines that it said were answered by what was written; where it is known
  -- what it says
  abbrev pub WereAnswered : {P : Type 0} → (P → Option (List ℕ)) → (P → Option (List ℕ)) → P → P → Type 0
  WereAnswered remaining contents first now =
      IfSome (remaining first) (λ input. (said left : List ℕ) × (input ≡ said ++ left) × (remaining now ≡ Some left)
      × ((text : List ℕ) × answered (whole_lines said) text None × Appends (contents first) (contents now) text))

-- a dialogue over these lines ended so, and they were answered as a whole script is
abbrev pub DialogAnswers : {T : Type 0} → List (List ℕ) → Option (List ℕ) → Result T ScriptFault → Option (List ℕ)
    → Type 0
DialogAnswers lines held ended held' = AnswersNamed ScriptAnswered lines held ended held'

-- since the peer was as at first, all whole lines that it said were answered as a whole script is
abbrev pub IsScriptAnswered : {P : Type 0} → (P → Option (List ℕ)) → (P → Option (List ℕ)) → P → P → Type 0
IsScriptAnswered remaining contents first now = WereAnswered ScriptAnswered remaining contents first now
