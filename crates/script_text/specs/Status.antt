-- The exit status of a script.
use Rattle.std.specs.Prelude.{ℕ, Result, Ok, Err}
use Rattle.script_text.specs.declared.fault.LineFault.{LineFault}
use Rattle.script_text.specs.declared.fault.LineFault.TheVariants as In
use Rattle.script_text.specs.declared.fault.ScriptFault.{ScriptFault}
use Rattle.script_text.specs.declared.fault.ScriptFault.TheVariants.{Unreadable, Device, Memory}

abbrev pub status_of : {T : Type 0} → Result T ScriptFault → ℕ
status_of (Ok _) = 0
status_of (Err (Unreadable line)) = 1
status_of (Err Device) = 2
status_of (Err Memory) = 3

-- the fault of the script whose line of this number is faulty
abbrev pub fault_at : ℕ → LineFault → ScriptFault
fault_at number In.Unreadable = Unreadable number
fault_at number In.Memory = Memory
