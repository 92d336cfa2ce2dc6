use Rattle.std.proofs.Common.{◌≡◌, false, nat_lt, sym, ◌∙◌, arith}
use Rattle.std.proofs.lemmas.Bool.Decides.{nat_tests}
use Rattle.at_most_once.proofs.BitLemmas.{past_below, past_above}
use Rattle.at_most_once.proofs.tracker.is_past.Goals as goal

pub returns-then-bits-lt-WORD_BITS : goal.returns-then-bits-lt-WORD_BITS
returns-then-bits-lt-WORD_BITS c = past_below c.args.count c.args.bits

pub returns-else-bits-lt-WORD_BITS : goal.returns-else-bits-lt-WORD_BITS
returns-else-bits-lt-WORD_BITS c = not_below
    ∙ sym (past_above c.args.count c.args.bits c.ranges.count.fits c.if-bits-lt-WORD_BITS.false)
  where
    not_below : nat_lt c.args.bits 64 ≡ false
    not_below = let l = c.if-bits-lt-WORD_BITS.false in grind (arith, nat_tests)
