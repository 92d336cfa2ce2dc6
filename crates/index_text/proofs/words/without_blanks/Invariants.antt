use Rattle.std.proofs.Common.{◌≡◌, ◌≤◌, length}
use Rattle.script_text.specs.Lines.{IsPrinted}
use Rattle.script_text.specs.Words.{words as words_of}
use Rattle.index_text.proofs.words.without_blanks.Given as goal

abbrev pub invariant-loop-text : goal.invariant-loop-text
invariant-loop-text l = record {
  words : words_of l.text ≡ words_of l.line;
  shorter : length l.text ≤ length l.line;
  printed : IsPrinted l.line → IsPrinted l.text;
}

abbrev pub decreases-loop-text : goal.decreases-loop-text
decreases-loop-text l = length l.text
