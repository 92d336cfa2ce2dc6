use Rattle.std.proofs.Common.{sym, ◌∙◌}
use Rattle.watch_map.proofs.UnwatchedLaws.{next_watches, next_does_not}
use Rattle.watch_map.proofs.unwatched.UnwatchedClauses.inspect_next.Goals as goal

pub returns-then-is_watching-clause-are : goal.returns-then-is_watching-clause-are
returns-then-is_watching-clause-are g c =
    let self = c.args.self.now in
    next_watches self.bound self.ids.items c.args.watches.now c.requires.are c.requires.next
    (sym c.is_watching.ensures ∙ c.if-is_watching.true)

pub returns-clause-are : goal.returns-clause-are
returns-clause-are g c =
    let self = c.args.self.now in
    next_does_not self.bound self.ids.items c.args.watches.now c.from_index.result c.push.new.self.items c.requires.are
    c.requires.next (sym c.is_watching.ensures ∙ c.if-is_watching.false) c.from_index.ensures
    c.in_ok-push.ensures.items
