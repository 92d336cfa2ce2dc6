use Rattle.std.proofs.Common.{◌≡◌, ◌≤◌, ◌-◌, ◌+◌, ◌==◌, length, drop}
use Rattle.std.specs.List.{position_or_len}
use Rattle.index_text.proofs.word_length.word_length.Given as goal

-- no blank so far
abbrev pub invariant-loop-length : goal.invariant-loop-length
invariant-loop-length l = record {
  within : l.length ≤ length l.text;
  counted : l.length + position_or_len (λ byte. byte == 32) (drop l.length l.text)
      ≡ position_or_len (λ byte. byte == 32) l.text;
}

abbrev pub decreases-loop-length : goal.decreases-loop-length
decreases-loop-length l = length l.text - l.length
