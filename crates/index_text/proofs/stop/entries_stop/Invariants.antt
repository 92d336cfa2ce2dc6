use Rattle.std.proofs.Common.{◌≡◌, ◌≤◌, length}
use Rattle.script_text.specs.Lines.{IsPrinted}
use Rattle.script_text.specs.Words.{words as words_of}
use Rattle.index_text.specs.Expected.{expected_from}
use Rattle.index_text.specs.PlainFormats.{plain_format}
use Rattle.index_text.specs.declared.place.Place.TheVariants as At
use Rattle.index_text.proofs.stop.entries_stop.Given as goal

abbrev pub invariant-loop-word : goal.invariant-loop-word
invariant-loop-word l = record {
  within : length l.text ≤ length l.words;
  printed : IsPrinted l.text;
  expected : expected_from (plain_format l.format) l.kind l.place (words_of l.text)
      ≡ expected_from (plain_format l.format) l.kind At.First (words_of l.words);
}

abbrev pub decreases-loop-word : goal.decreases-loop-word
decreases-loop-word l = length l.text
