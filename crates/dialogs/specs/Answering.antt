-- How lines are answered in their turn.
use Rattle.std.specs.Prelude.{◌≡◌, ℕ, ◌+◌, List, [], ◌∷◌, ◌++◌, ◌⊎◌, Option, None, Some, Result, Ok, Err}
use Rattle.std.specs.Io.KnownBytes.{Appends}
use Rattle.script_text.specs.Output.{TakesSome}
use Rattle.script_text.specs.declared.fault.ScriptFault.{ScriptFault}
use Rattle.script_text.specs.declared.fault.ScriptFault.TheVariants.{Unreadable, Device, Memory}

module _ {A : Type 0} (answers : A → List ℕ → List ℕ → A → Type 0) (refuses : A → List ℕ → Type 0) where
  -- the lines, with n lines before them, are answered by this text: each in its turn, up to the first unreadable line
  -- or the end. `faulty` is the number of the first unreadable line, if there is one
  abbrev pub AreAnswered : A → ℕ → List (List ℕ) → List ℕ → Option ℕ → Type 0
  AreAnswered a before [] text faulty = (text ≡ []) × (faulty ≡ None)
  AreAnswered a before (line ∷ lines) text faulty =
      (refuses a line × (text ≡ []) × (faulty ≡ Some (before + 1)))
      ⊎ ((own rest : List ℕ) × (next : A) × answers a line own next × (text ≡ own ++ rest)
      × AreAnswered next (before + 1) lines rest faulty)

  -- the first of these lines, however many, are answered by this text, and none of them is unreadable
  abbrev pub FirstAreAnswered : A → List (List ℕ) → List ℕ → Type 0
  FirstAreAnswered a lines text =
      (first left : List (List ℕ)) × (lines ≡ first ++ left) × AreAnswered a 0 first text None

  -- how a talk ends: all lines were answered, or those before the first unreadable one; or memory was refused, and
  -- what was written answers the first lines, however many; or a device failed, and of such an answer a beginning was
  -- written
  abbrev pub TalkAnswers : {T : Type 0} → A → List (List ℕ) → Option (List ℕ) → Result T ScriptFault → Option (List ℕ)
      → Type 0
  TalkAnswers a lines held (Ok _) held' = (text : List ℕ) × AreAnswered a 0 lines text None × Appends held held' text
  TalkAnswers a lines held (Err (Unreadable number)) held' =
      (text : List ℕ) × AreAnswered a 0 lines text (Some number) × Appends held held' text
  TalkAnswers a lines held (Err Memory) held' =
      (text : List ℕ) × FirstAreAnswered a lines text × Appends held held' text
  TalkAnswers a lines held (Err Device) held' =
      (text : List ℕ) × FirstAreAnswered a lines text × TakesSome held text held'
