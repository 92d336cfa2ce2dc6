use Rattle.picking_c.proofs.PickedLemmas.{tells_picked}
use Rattle.picking_c.proofs.nivolakku_versions.Goals as goal

pub returns-clause-picked : goal.returns-clause-picked
returns-clause-picked c = tells_picked c.args.answer.now
