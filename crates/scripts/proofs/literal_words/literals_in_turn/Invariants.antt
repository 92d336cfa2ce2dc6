use Rattle.std.proofs.Common.{◌≡◌, [], length}
use Rattle.script_text.specs.Words.{words}
use Rattle.scripts.specs.Commands.{with_literals}
use Rattle.scripts.proofs.literal_words.literals_in_turn.Given as goal

abbrev pub invariant-loop-sign : goal.invariant-loop-sign
invariant-loop-sign g l = with_literals l.literals.items (words l.rest) ≡ with_literals [] (words l.text)

abbrev pub decreases-loop-sign : goal.decreases-loop-sign
decreases-loop-sign g l = length l.rest
