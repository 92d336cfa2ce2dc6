use Rattle.std.proofs.Common.{◌≡◌, take, drop}
use Rattle.script_text.specs.Words.{words, words_from}
use Rattle.script_text.proofs.word.split_word.Given as goal

abbrev pub invariant-loop-i : goal.invariant-loop-i
invariant-loop-i l = words_from (take l.i l.text) (drop l.i l.text) ≡ words l.text
