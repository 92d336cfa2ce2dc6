use Rattle.std.proofs.Common.{arith}
use Rattle.std.proofs.lemmas.Grind.{common_steps}
use Rattle.std.proofs.lemmas.Fmt.{length-decimal-le}
use Rattle.scripts.proofs.line_text.put_field.Goals as goal

pub put_number-requires : goal.put_number-requires
put_number-requires c = grind (
  arith,
  common_steps,
  length-decimal-le 20 c.args.number (omega arith) (omega arith)
      (omega arith),
)

pub returns-clause-end : goal.returns-clause-end
returns-clause-end c = grind (
  arith,
  common_steps,
  length-decimal-le 20 c.args.number (omega arith) (omega arith)
      (omega arith),
)
