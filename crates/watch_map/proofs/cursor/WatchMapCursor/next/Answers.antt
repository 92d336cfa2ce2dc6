use Rattle.std.proofs.Common.{◌∙◌, ◌++◌, ◌∷◌, [], sym, ap, subst}
use Rattle.watch_map.proofs.Words.{clause_of, IfSome, literal_of, passed, Position, rest, StandsBehind, StandsIn}
use Rattle.watch_map.proofs.cursor.WatchMapCursor.next.Goals as goal

pub next_place-requires : goal.next_place-requires
next_place-requires g c = subst (λ (p : Position). StandsIn p c.args.map.now c.args.watches.now)
    (sym c.self.view_is) c.requires

pub returns-clause-list : goal.returns-clause-list
returns-clause-list g c = c.next_place.ensures.list
    ∙ ap (λ (p : Position). rest p c.args.map.now c.args.watches.now) c.self.view_is

pub returns-clause-stands : goal.returns-clause-stands
returns-clause-stands g c =
    subst (λ (p : Position). IfSome c.next_place.result
    (StandsBehind (passed p c.args.map.now c.args.watches.now ++ clause_of p ∷ [])
    (literal_of p) c.args.map.now c.args.watches.now))
    c.self.view_is c.next_place.ensures.stands
