use Rattle.std.proofs.Common.{◌≡◌, ◌++◌, length}
use Rattle.script_text.specs.Lines.{IsPrinted}
use Rattle.script_text.specs.Words.{words as words_of}
use Rattle.index_text.specs.Sets.{texts}
use Rattle.index_text.proofs.words.split_words.Given as goal

-- the words so far, and those of the rest
abbrev pub invariant-loop-word : goal.invariant-loop-word
invariant-loop-word l = record {
  words : texts l.found.items ++ words_of l.rest ≡ words_of l.line;
  printed : IsPrinted l.rest;
}

abbrev pub decreases-loop-word : goal.decreases-loop-word
decreases-loop-word l = length l.rest
