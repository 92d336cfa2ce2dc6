use Rattle.std.proofs.Common.{arith}
use Rattle.std.proofs.lemmas.Grind.{common_steps}
use Rattle.std.proofs.lemmas.Fmt.{decimal_digit}
use Rattle.scripts.proofs.Digits.{two_digits, two_more, two_longer}
use Rattle.scripts.proofs.line_text.+put_digits.Goals as goal

pub put-requires : goal.put-requires
put-requires t c = grind (arith, common_steps, decimal_digit c.args.number (omega arith))

pub put-requires-then-number-lt100 : goal.put-requires-then-number-lt100
put-requires-then-number-lt100 t c = grind (arith, common_steps, two_digits c.args.number (omega arith) (omega arith))

pub put_digits-at-requires : goal.put_digits-at-requires
put_digits-at-requires t c = grind (arith, common_steps, two_longer c.args.number (omega arith) (omega arith))

pub put-requires-else-number-lt100 : goal.put-requires-else-number-lt100
put-requires-else-number-lt100 t c = grind (arith, common_steps, two_longer c.args.number (omega arith) (omega arith))

pub returns-then-number-lt10-clause-end : goal.returns-then-number-lt10-clause-end
returns-then-number-lt10-clause-end t c = grind (arith, common_steps, decimal_digit c.args.number (omega arith))

pub returns-then-number-lt10-clause-line : goal.returns-then-number-lt10-clause-line
returns-then-number-lt10-clause-line t c = grind (arith, common_steps, decimal_digit c.args.number (omega arith))

pub returns-then-number-lt100-clause-end : goal.returns-then-number-lt100-clause-end
returns-then-number-lt100-clause-end t c =
    grind (arith, common_steps, two_digits c.args.number (omega arith) (omega arith))

pub returns-then-number-lt100-clause-line : goal.returns-then-number-lt100-clause-line
returns-then-number-lt100-clause-line t c =
    grind (arith, common_steps, two_digits c.args.number (omega arith) (omega arith))

pub returns-else-number-lt100-clause-end : goal.returns-else-number-lt100-clause-end
returns-else-number-lt100-clause-end t c =
    grind (arith, common_steps, two_longer c.args.number (omega arith) (omega arith))

pub returns-else-number-lt100-clause-line : goal.returns-else-number-lt100-clause-line
returns-else-number-lt100-clause-line t c =
    grind (arith, common_steps, two_more c.args.number (omega arith) (omega arith))
