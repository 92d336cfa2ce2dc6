use Rattle.std.proofs.Common.{◌≡◌, ◌≤◌, length}
use Rattle.script_text.specs.Lines.{IsPrinted}
use Rattle.script_text.specs.Words.{words}
use Rattle.script_text.proofs.word.without_some_blanks.Given as goal

abbrev pub invariant-loop-text : goal.invariant-loop-text
invariant-loop-text l = record {
  words : words l.text ≡ words l.line;
  shorter : length l.text ≤ length l.line;
  printed : IsPrinted l.line → IsPrinted l.text;
}

abbrev pub decreases-loop-text : goal.decreases-loop-text
decreases-loop-text l = length l.text
