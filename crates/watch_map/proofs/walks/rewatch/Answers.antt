use Rattle.watch_map.proofs.ListLaws.{rewatch_done}
use Rattle.watch_map.proofs.walks.rewatch.Goals as goal

pub returns-in-Ok-clause-ok : goal.returns-in-Ok-clause-ok
returns-in-Ok-clause-ok g c =
    rewatch_done c.args.map.now c.update.new.map c.args.watches.now c.update.new.watches c.args.to
    c.position-at.result c.requires c.position-at.ensures.stands
    c.update.auto.watches c.in-Ok.ensures.lists c.args.id c.args.from c.position-at.ensures.clause
    c.position-at.ensures.literal
