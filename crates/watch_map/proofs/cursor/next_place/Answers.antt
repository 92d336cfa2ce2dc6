use Rattle.std.proofs.Common.{◌++◌, ◌∷◌, [], Some, sym, subst}
use Rattle.watch_map.proofs.Words.{clause_of, IsReached, literal_of, passed, rest}
use Rattle.watch_map.proofs.CursorLaws.{reached_watches, reached_cursor}
use Rattle.watch_map.proofs.MoveLaws.{reached_past}
use Rattle.watch_map.proofs.cursor.next_place.Goals as goal

pub at_clause-requires-clause-watched : goal.at_clause-requires-clause-watched
at_clause-requires-clause-watched g c =
    let place = c.args.place.now in
    let map = c.args.map.now in
    let ws = c.args.watches.now in
    let front = passed place map ws ++ clause_of place ∷ [] in
    reached_watches map ws c.requires.watched (literal_of place) (Some place.current) c.next_of-next.result front
    (rest place map ws)
    (subst (λ o. IsReached (literal_of place) (Some place.current) o map ws front (rest place map ws))
    (sym c.next_of-next.ensures) (reached_past place map ws c.requires))

pub returns-clause-list : goal.returns-clause-list
returns-clause-list g c =
    let place = c.args.place.now in
    let map = c.args.map.now in
    let ws = c.args.watches.now in
    let front = passed place map ws ++ clause_of place ∷ [] in
    (reached_cursor map ws c.requires.watched (literal_of place) (Some place.current) c.next_of-next.result front
    (rest place map ws)
    (subst (λ o. IsReached (literal_of place) (Some place.current) o map ws front (rest place map ws))
    (sym c.next_of-next.ensures) (reached_past place map ws c.requires)) c.at_clause.result c.at_clause.ensures).0

pub returns-clause-stands : goal.returns-clause-stands
returns-clause-stands g c =
    let place = c.args.place.now in
    let map = c.args.map.now in
    let ws = c.args.watches.now in
    let front = passed place map ws ++ clause_of place ∷ [] in
    (reached_cursor map ws c.requires.watched (literal_of place) (Some place.current) c.next_of-next.result front
    (rest place map ws)
    (subst (λ o. IsReached (literal_of place) (Some place.current) o map ws front (rest place map ws))
    (sym c.next_of-next.ensures) (reached_past place map ws c.requires)) c.at_clause.result c.at_clause.ensures).1
