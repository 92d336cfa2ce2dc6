use Rattle.std.proofs.Common.{◌≡◌, length}
use Rattle.script_text.specs.Words.{words}
use Rattle.scripts.specs.Commands.{are_literals}
use Rattle.scripts.proofs.literal_words.are_literals.Given as goal

abbrev pub invariant-loop-sign : goal.invariant-loop-sign
invariant-loop-sign l = are_literals (words l.rest) ≡ are_literals (words l.text)

abbrev pub decreases-loop-sign : goal.decreases-loop-sign
decreases-loop-sign l = length l.rest
