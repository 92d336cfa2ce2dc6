use Rattle.std.proofs.Common.{rules}
use Rattle.picking_c.proofs.CallLemmas.{unsaid}
use Rattle.picking_c.proofs.nivolakku_pick.Goals as goal

-- src/lib.rt:32:9
pub returns-in_default : goal.returns-in_default
returns-in_default c = unsaid _ _ _ (search rules)
