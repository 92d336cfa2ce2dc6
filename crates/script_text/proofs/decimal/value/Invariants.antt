use Rattle.std.proofs.Common.{◌≡◌, drop}
use Rattle.script_text.specs.Numbers.{value_from}
use Rattle.script_text.proofs.decimal.value.Given as goal

abbrev pub invariant-loop-digit : goal.invariant-loop-digit
invariant-loop-digit l = value_from l.value (drop l.digit-index l.digits) ≡ value_from 0 l.digits
