-- One read of a script's reader.
use Rattle.std.specs.Prelude.{Result, Ok, Err}
use Rattle.script_text.specs.declared.fault.ScriptFault.{ScriptFault}
use Rattle.script_text.specs.declared.fault.ScriptFault.TheVariants.{Unreadable, Device, Memory}

-- one read was made, and it failed where the device did
abbrev pub ReadOnce : {S T : Type 0} → (S → S → Type 0) → (S → S → Type 0) → S → Result T ScriptFault → S → Type 0
ReadOnce reads fails s (Ok _) t = reads s t
ReadOnce reads fails s (Err (Unreadable number)) t = ⊥
ReadOnce reads fails s (Err Device) t = fails s t
ReadOnce reads fails s (Err Memory) t = reads s t
