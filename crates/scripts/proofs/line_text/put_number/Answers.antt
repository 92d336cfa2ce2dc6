use Rattle.std.proofs.Common.{arith}
use Rattle.std.proofs.lemmas.Grind.{common_steps}
use Rattle.std.proofs.lemmas.Fmt.{decimal_digit}
use Rattle.scripts.proofs.line_text.put_number.Goals as goal

pub put-requires : goal.put-requires
put-requires c = grind (arith, common_steps, decimal_digit c.args.number (omega arith))

pub returns-then-number-lt10-clause-end : goal.returns-then-number-lt10-clause-end
returns-then-number-lt10-clause-end c = grind (arith, common_steps, decimal_digit c.args.number (omega arith))

pub returns-then-number-lt10-clause-line : goal.returns-then-number-lt10-clause-line
returns-then-number-lt10-clause-line c = grind (arith, common_steps, decimal_digit c.args.number (omega arith))
