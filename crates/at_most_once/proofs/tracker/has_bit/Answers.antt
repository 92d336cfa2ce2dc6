use Rattle.std.proofs.Common.{◌≡◌, false, nat_lt, sym, ◌∙◌, arith}
use Rattle.std.proofs.lemmas.Bool.Decides.{nat_tests}
use Rattle.at_most_once.proofs.BitLemmas.{no_bit}
use Rattle.at_most_once.proofs.tracker.has_bit.Goals as goal

pub returns-else-bit-lt-WORD_BITS : goal.returns-else-bit-lt-WORD_BITS
returns-else-bit-lt-WORD_BITS c = not_below
    ∙ sym (no_bit c.args.number c.args.bit c.ranges.number.fits c.if-bit-lt-WORD_BITS.false)
  where
    not_below : nat_lt c.args.bit 64 ≡ false
    not_below = let l = c.if-bit-lt-WORD_BITS.false in grind (arith, nat_tests)
