use Rattle.std.proofs.Common.{arith}
use Rattle.std.proofs.lemmas.Grind.{common_steps}
use Rattle.script_packages.proofs.packages.Packages.add_versions.Goals as goal

pub add_others-requires-clause-name : goal.add_others-requires-clause-name
add_others-requires-clause-name c = grind (arith, common_steps)

pub add_others-requires-clause-last : goal.add_others-requires-clause-last
add_others-requires-clause-last c = grind (arith, common_steps)
