-- What calls of a device do to it, and how they end.
use Rattle.std.specs.Prelude.{◌≡◌, ℕ, zero, suc, ◌^◌, ◌-◌, ◌<◌, ◌≤◌, ◌⊎◌, Result, Ok, Err}
use Rattle.script_text.specs.declared.fault.ScriptFault.{ScriptFault}
use Rattle.script_text.specs.declared.fault.ScriptFault.TheVariants.{Unreadable, Device, Memory}

-- n calls lead from the one state to the other
abbrev pub Calls : {S : Type 0} → (S → S → Type 0) → ℕ → S → S → Type 0
Calls goes zero s t = s ≡ t
Calls {S} goes (suc n) s t = (m : S) × Calls goes n s m × goes m t

module _ {S : Type 0} (goes fails : S → S → Type 0) where
  -- some calls lead from the one state to the other, this number at most
  abbrev pub CallsWithin : ℕ → S → S → Type 0
  CallsWithin most s t = (n : ℕ) × (n ≤ most) × Calls goes n s t

  -- fewer calls than this number go well, and then one fails
  abbrev pub FailsWithin : ℕ → S → S → Type 0
  FailsWithin most s t = (n : ℕ) × (m : S) × (n < most) × Calls goes n s m × fails m t

  -- how reading ends, in `most` reads at most: none fails; or the last one does, or all are made, and then it is the
  -- device's fault
  abbrev pub ReadingEnds : {T : Type 0} → ℕ → S → Result T ScriptFault → S → Type 0
  ReadingEnds most s (Ok _) t = CallsWithin most s t
  ReadingEnds most s (Err (Unreadable number)) t = ⊥
  ReadingEnds most s (Err Device) t = FailsWithin most s t ⊎ Calls goes most s t
  ReadingEnds most s (Err Memory) t = CallsWithin most s t

  -- some calls go well
  abbrev pub GoesWell : S → S → Type 0
  GoesWell s t = (n : ℕ) × Calls goes n s t

  -- some calls go well, and then one fails; or there are 2^64 - 1 at least
  abbrev pub GivesUp : S → S → Type 0
  GivesUp s t = ((m : S) × GoesWell s m × fails m t) ⊎ ((n : ℕ) × (2 ^ 64 - 1 ≤ n) × Calls goes n s t)

  -- how writing ends: no write and no flush fails; or it is given up
  abbrev pub WritingEnds : {T E : Type 0} → S → Result T E → S → Type 0
  WritingEnds s (Ok _) t = GoesWell s t
  WritingEnds s (Err _) t = GivesUp s t
