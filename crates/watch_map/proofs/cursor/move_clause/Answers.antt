use Rattle.std.proofs.Common.{sym, subst}
use Rattle.watch_map.proofs.Words.{IsReached, literal_of, passed, rest}
use Rattle.watch_map.proofs.CursorLaws.{reached_watches, reached_cursor}
use Rattle.watch_map.proofs.cursor.move_clause.Goals as goal

pub at_clause-requires-clause-two : goal.at_clause-requires-clause-two
at_clause-requires-clause-two g c x e = c.relink.ensures.lists.watched.exact.two x

pub at_clause-requires-clause-watched : goal.at_clause-requires-clause-watched
at_clause-requires-clause-watched g c =
    let place = c.args.place.now in
    let front = passed place c.args.map.now c.args.watches.now in
    let ahead = rest place c.args.map.now c.args.watches.now in
    reached_watches c.relink.new.map c.relink.new.watches c.relink.ensures.lists.watched
    (literal_of place) place.previous
    c.next_of-next.result front ahead
    (subst (λ o. IsReached (literal_of place) place.previous o c.relink.new.map c.relink.new.watches front ahead)
    (sym c.next_of-next.ensures) c.relink.ensures.reached)

pub returns-clause-list : goal.returns-clause-list
returns-clause-list g c =
    let place = c.args.place.now in
    let front = passed place c.args.map.now c.args.watches.now in
    let ahead = rest place c.args.map.now c.args.watches.now in
    (reached_cursor c.relink.new.map c.relink.new.watches c.relink.ensures.lists.watched
    (literal_of place) place.previous
    c.next_of-next.result front ahead
    (subst (λ o. IsReached (literal_of place) place.previous o c.relink.new.map c.relink.new.watches front ahead)
    (sym c.next_of-next.ensures) c.relink.ensures.reached) c.at_clause.result c.at_clause.ensures).0

pub returns-clause-stands : goal.returns-clause-stands
returns-clause-stands g c =
    let place = c.args.place.now in
    let front = passed place c.args.map.now c.args.watches.now in
    let ahead = rest place c.args.map.now c.args.watches.now in
    (reached_cursor c.relink.new.map c.relink.new.watches c.relink.ensures.lists.watched
    (literal_of place) place.previous
    c.next_of-next.result front ahead
    (subst (λ o. IsReached (literal_of place) place.previous o c.relink.new.map c.relink.new.watches front ahead)
    (sym c.next_of-next.ensures) c.relink.ensures.reached) c.at_clause.result c.at_clause.ensures).1
