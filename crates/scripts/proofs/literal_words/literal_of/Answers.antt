use Rattle.std.proofs.Common.{arith}
use Rattle.std.proofs.lemmas.Grind.{common_steps}
use Rattle.scripts.proofs.literal_words.literal_of.Goals as goal

pub returns-in_err-id_of-in-43 : goal.returns-in_err-id_of-in-43
returns-in_err-id_of-in-43 c = grind (arith, common_steps)

pub returns-in_err-id_of-in-45 : goal.returns-in_err-id_of-in-45
returns-in_err-id_of-in-45 c = grind (arith, common_steps)

pub returns-in_ok-id_of-in-43 : goal.returns-in_ok-id_of-in-43
returns-in_ok-id_of-in-43 c = grind (arith, common_steps)
