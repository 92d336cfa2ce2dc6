-- What a call answers its caller.
use Rattle.std.specs.Prelude.{◌≡◌, ℕ, ◌<◌, ◌≤◌, List, [], Some, Result, length}
use Rattle.call_texts.specs.Buffers.{written}
use Rattle.script_text.specs.Status.{status_of}
use Rattle.script_text.specs.declared.fault.ScriptFault.{ScriptFault}
use Rattle.script_dialogs.specs.DialogEnds.{DialogAnswers}

-- the status of a transcript that takes more room than there is
abbrev pub too_small : ℕ
too_small = 4

-- by a script's lines: the buffer before and after, the size that is needed, and the status. The text is what a
-- dialogue writes that ends so
pub record IsTranscribed (lines : List (List ℕ)) (old new : List ℕ) (needed status : ℕ) : Type 0 where
  pub ended : Result (Unit {0}) ScriptFault
  pub text : List ℕ
  pub answers : DialogAnswers lines (Some []) ended (Some text)
  pub size : needed ≡ length text
  pub answered : needed ≤ length old → (status ≡ status_of ended) × (new ≡ written text old)
  -- where the buffer is too small, nothing is written
  pub short : length old < needed → (status ≡ too_small) × (new ≡ old)
