use Rattle.std.proofs.Common.{◌≡◌, ◌<◌, ◌^◌, drop}
use Rattle.script_text.specs.Numbers.{value_from}
use Rattle.script_text.proofs.decimal.short_value.Given as goal

abbrev pub invariant-loop-digit : goal.invariant-loop-digit
invariant-loop-digit l = record {
  value : value_from l.value (drop l.digit-index l.digits) ≡ value_from 0 l.digits;
  small : l.value < 10 ^ l.digit-index;
}
