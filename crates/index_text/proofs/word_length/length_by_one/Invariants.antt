use Rattle.std.proofs.Common.{◌≡◌, ◌+◌, ◌==◌, drop}
use Rattle.std.specs.List.{position_or_len}
use Rattle.index_text.proofs.word_length.length_by_one.Given as goal

abbrev pub invariant-loop-i : goal.invariant-loop-i
invariant-loop-i l = l.i + position_or_len (λ byte. byte == 32) (drop l.i l.text)
    ≡ position_or_len (λ byte. byte == 32) l.text
