-- What is done with a peer, call by call.
use Rattle.std.specs.Prelude.{◌≡◌, ℕ, zero, suc, ◌^◌, ◌-◌, ◌≤◌, List, ◌++◌, ◌⊎◌, length}
use Rattle.std.specs.Prelude.{Option, None, Some, IfSome, Result, Err}
use Rattle.std.specs.Io.KnownBytes.{Appends}
use Rattle.script_text.specs.Lines.{lines as lines_of}
use Rattle.script_text.specs.declared.fault.ScriptFault.{ScriptFault}
use Rattle.script_text.specs.declared.fault.ScriptFault.TheVariants.{Device}
use Rattle.dialogs.specs.Answering.{AreAnswered}
use Rattle.dialogs.specs.LineReads.{whole_lines}

-- since the peer was as at first, all whole lines that it said were answered, by what was written; where it is known
-- what it says
abbrev pub IsAnswered : {A P : Type 0} → (A → List ℕ → List ℕ → A → Type 0) → (A → List ℕ → Type 0)
    → (P → Option (List ℕ)) → (P → Option (List ℕ)) → A → P → P → Type 0
IsAnswered answers refuses remaining contents a first now =
    IfSome (remaining first) (λ input. (said left : List ℕ) × (input ≡ said ++ left) × (remaining now ≡ Some left)
    × ((text : List ℕ) × AreAnswered answers refuses a 0 (whole_lines said) text None
    × Appends (contents first) (contents now) text))

module _ {P : Type 0} (reads read_fails writes write_fails : P → P → Type 0) (ready : P → Type 0) where
  -- n calls lead from the one state to the other. A read is made only of a peer that is ready for it
  abbrev pub Talks : ℕ → P → P → Type 0
  Talks zero s t = s ≡ t
  Talks (suc n) s t = (m : P) × Talks n s m × ((ready m × reads m t) ⊎ writes m t)

  -- how the calls end: none fails; or, where a device failed, the last one does, or there are 2^32 at least, or there
  -- are 2^64 - 1 lines
  abbrev pub TalkEnds : {T : Type 0} → (P → Option (List ℕ)) → P → Result T ScriptFault → P → Type 0
  TalkEnds remaining s (Err Device) t =
      ((n : ℕ) × (m : P) × Talks n s m × ((ready m × read_fails m t) ⊎ write_fails m t))
      ⊎ ((n : ℕ) × Talks n s t × ((2 ^ 32 ≤ n)
      ⊎ IfSome (remaining s) (λ input. 2 ^ 64 - 1 ≤ length (lines_of input))))
  TalkEnds remaining s ended t = (n : ℕ) × Talks n s t
