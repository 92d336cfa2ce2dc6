use Rattle.std.proofs.Common.{subst, sym, ap, ◌∙◌}
use Rattle.watch_map.proofs.Words.{IsListCount, value_count, watchers}
use Rattle.watch_map.proofs.CountLaws.{firsts_counted}
use Rattle.watch_map.proofs.lists.WatchMap.len.Goals as goal

pub returns : goal.returns
returns g c watches watched =
    subst (IsListCount (watchers c.args.self.now watches)) (ap value_count (sym c.self.view_is) ∙ sym c.len.ensures)
    (firsts_counted c.args.self.now watches watched)
