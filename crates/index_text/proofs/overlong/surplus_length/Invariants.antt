use Rattle.std.proofs.Common.{◌≡◌, ◌+◌, ◌≤◌, length}
use Rattle.script_text.specs.Words.{words as words_of}
use Rattle.index_text.proofs.overlong.surplus_length.Given as goal

abbrev pub invariant-passing : goal.invariant-passing
invariant-passing l = record {
  counted : l.passed + length (words_of l.rest) ≡ length (words_of l.words);
  few : l.passed ≤ l.most;
  within : length l.rest ≤ length l.words;
}

abbrev pub decreases-passing : goal.decreases-passing
decreases-passing l = length l.rest
