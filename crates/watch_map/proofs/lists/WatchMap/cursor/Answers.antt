use Rattle.std.proofs.Common.{refl, sym, subst, None, []}
use Rattle.watch_map.proofs.Words.{IsChain, link, watchers}
use Rattle.watch_map.proofs.CursorLaws.{next_watches_it, arrived}
use Rattle.watch_map.proofs.lists.WatchMap.cursor.Goals as goal

pub at_clause-requires-clause-watched : goal.at_clause-requires-clause-watched
at_clause-requires-clause-watched g c =
    next_watches_it c.args.self.now c.args.watches.now c.requires c.args.literal None []
    (watchers c.args.self.now c.args.watches.now c.args.literal) refl c.first.result
    (subst (λ o. IsChain (link c.args.watches.now c.args.literal) o
    (watchers c.args.self.now c.args.watches.now c.args.literal)) (sym c.first.ensures)
    (c.requires.linked c.args.literal))

pub returns-clause-list : goal.returns-clause-list
returns-clause-list g c =
    (arrived c.args.self.now c.args.watches.now c.requires c.args.literal None []
    (watchers c.args.self.now c.args.watches.now c.args.literal) refl refl c.first.result c.at_clause.result
    (subst (λ o. IsChain (link c.args.watches.now c.args.literal) o
    (watchers c.args.self.now c.args.watches.now c.args.literal)) (sym c.first.ensures)
    (c.requires.linked c.args.literal)) c.at_clause.ensures).0

pub returns-clause-stands : goal.returns-clause-stands
returns-clause-stands g c =
    (arrived c.args.self.now c.args.watches.now c.requires c.args.literal None []
    (watchers c.args.self.now c.args.watches.now c.args.literal) refl refl c.first.result c.at_clause.result
    (subst (λ o. IsChain (link c.args.watches.now c.args.literal) o
    (watchers c.args.self.now c.args.watches.now c.args.literal)) (sym c.first.ensures)
    (c.requires.linked c.args.literal)) c.at_clause.ensures).1
