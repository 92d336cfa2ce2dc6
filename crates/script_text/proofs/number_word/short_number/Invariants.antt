use Rattle.std.proofs.Common.{◌≤◌}
use Rattle.script_text.proofs.NumberWords.{ShortValue}
use Rattle.script_text.proofs.number_word.short_number.Given as goal

abbrev pub invariant-loop-i : goal.invariant-loop-i
invariant-loop-i l = l.i ≤ 19 → ShortValue l.text l.i l.value
