use Rattle.std.proofs.Common.{◌≡◌, ◌<◌, ◌∷◌, [], true, length, ap, sym, subst, ◌∙◌}
use Rattle.watch_map.proofs.Words.{AreWatchesSatisfiedBut, has_true_beside, is_false, IsReached, IsVisit, MayWatch}
use Rattle.watch_map.proofs.Words.{passed, Position, rest, val, VisitOutcome, watched_by, watchers}
use Rattle.watch_map.specs.Visits.{literals_at}
use Rattle.watch_map.proofs.LiteralLists.{read_in}
use Rattle.watch_map.proofs.InputLaws.{given_within}
use Rattle.watch_map.proofs.CursorLaws.{reached_watches}
use Rattle.watch_map.proofs.WalkLaws.{ahead_of, ahead_is, behind_from, behind_past, nothing_ahead, smaller_by}
use Rattle.watch_map.proofs.WalkLaws.{IsNodeOf, known_node, placed_at, previous_watches}
use Rattle.watch_map.proofs.WalkLaws.{IsWalked, walked_more, walked_next, walked_moved, walked_false, walked_watching}
use Rattle.watch_map.proofs.saturation.walk.walk.Goals as goal

pub node_at-current-requires-clause-watched : goal.node_at-current-requires-clause-watched
node_at-current-requires-clause-watched g c =
    let l = c.args.literal in
    let map = c.loop-next.map in
    let ws = c.loop-next.watches in
    let previous = c.loop-next.previous in
    let ahead = ahead_of previous (watchers map ws l) in
    reached_watches map ws c.loop-next.invariant.walked.watched l c.loop-next.invariant.reached.node c.loop-next.next
    c.loop-next.invariant.reached.front ahead c.loop-next.invariant.reached.reached c.in-Some.clause_id c.in-Some.is

pub visit-requires-clause-own : goal.visit-requires-clause-own
visit-requires-clause-own g c =
    let literals = literals_at c.args.input.now in
    let level = c.args.input.now.level in
    let l = c.args.literal in
    let t = c.args.trail.now in
    let w = watched_by c.args.watches.now in
    let map = c.loop-next.map in
    let ws = c.loop-next.watches in
    let previous = c.loop-next.previous in
    let ahead = ahead_of previous (watchers map ws l) in
    walked_watching literals level l t w map ws c.loop-next.trail ahead c.node_at-current.result.clause_id
    c.loop-next.invariant.walked

pub visit-requires-clause-is_false : goal.visit-requires-clause-is_false
visit-requires-clause-is_false g c =
    let literals = literals_at c.args.input.now in
    let level = c.args.input.now.level in
    let l = c.args.literal in
    let t = c.args.trail.now in
    let w = watched_by c.args.watches.now in
    let map = c.loop-next.map in
    let ws = c.loop-next.watches in
    let previous = c.loop-next.previous in
    let ahead = ahead_of previous (watchers map ws l) in
    walked_false literals level l t w map ws c.loop-next.trail ahead c.requires.is_false c.loop-next.invariant.walked

pub returns-in_err-visit-clause-implied : goal.returns-in_err-visit-clause-implied
returns-in_err-visit-clause-implied g c =
    let literals = literals_at c.args.input.now in
    let level = c.args.input.now.level in
    let l = c.args.literal in
    let t = c.args.trail.now in
    let w = watched_by c.args.watches.now in
    let map = c.loop-next.map in
    let ws = c.loop-next.watches in
    let previous = c.loop-next.previous in
    let ahead = ahead_of previous (watchers map ws l) in
    (walked_more literals level l t w map ws c.loop-next.trail c.visit.new.trail ahead c.visit.ensures.implied
    c.loop-next.invariant.walked).implied

pub returns-in_err-move_watch-in-Moves-clause-implied : goal.returns-in_err-move_watch-in-Moves-clause-implied
returns-in_err-move_watch-in-Moves-clause-implied g c =
    let literals = literals_at c.args.input.now in
    let level = c.args.input.now.level in
    let l = c.args.literal in
    let t = c.args.trail.now in
    let w = watched_by c.args.watches.now in
    let map = c.loop-next.map in
    let ws = c.loop-next.watches in
    let previous = c.loop-next.previous in
    let ahead = ahead_of previous (watchers map ws l) in
    (walked_more literals level l t w map ws c.loop-next.trail c.visit.new.trail ahead c.visit.ensures.implied
    c.loop-next.invariant.walked).implied

pub returns-in-Conflict-clause-implied : goal.returns-in-Conflict-clause-implied
returns-in-Conflict-clause-implied g c =
    let literals = literals_at c.args.input.now in
    let level = c.args.input.now.level in
    let l = c.args.literal in
    let t = c.args.trail.now in
    let w = watched_by c.args.watches.now in
    let map = c.loop-next.map in
    let ws = c.loop-next.watches in
    let previous = c.loop-next.previous in
    let ahead = ahead_of previous (watchers map ws l) in
    (walked_more literals level l t w map ws c.loop-next.trail c.visit.new.trail ahead c.visit.ensures.implied
    c.loop-next.invariant.walked).implied

pub node_of-requires-clause-two : goal.node_of-requires-clause-two
node_of-requires-clause-two g c clause e = c.loop-next.invariant.walked.watched.exact.two clause

pub node_of-requires-clause-watched : goal.node_of-requires-clause-watched
node_of-requires-clause-watched g c =
    previous_watches c.loop-next.map c.loop-next.watches c.args.literal c.loop-next.previous c.loop-next.next
    c.loop-next.invariant.walked.watched c.loop-next.invariant.reached

pub move_watch-requires-clause-stands : goal.move_watch-requires-clause-stands
move_watch-requires-clause-stands g c =
    let l = c.args.literal in
    let map = c.loop-next.map in
    let ws = c.loop-next.watches in
    let previous = c.loop-next.previous in
    let here : IsNodeOf ws l previous c.node_of.result =
    record { clause = c.node_of.ensures.clause; is_node = c.node_of.ensures.node } in
    let place : Position = record { literal = l; previous = c.node_of.result; current = c.node_at-current.result } in
    let p = placed_at map ws l previous c.loop-next.next c.loop-next.invariant.walked.watched
    c.loop-next.invariant.reached
    c.node_of.result here
    c.in-Some.clause_id c.in-Some.is c.node_at-current.result c.node_at-current.ensures.clause
    c.node_at-current.ensures.within
    c.node_at-current.ensures.watch in
    p.at.stands

pub loop-next-smaller-in-Satisfied : goal.loop-next-smaller-in-Satisfied
loop-next-smaller-in-Satisfied g c =
    let l = c.args.literal in
    let map = c.loop-next.map in
    let ws = c.loop-next.watches in
    let previous = c.loop-next.previous in
    let ahead = ahead_of previous (watchers map ws l) in
    let here = known_node map ws l previous c.loop-next.next c.loop-next.invariant.reached in
    let place : Position = record {
      literal = l;
      previous = c.loop-next.invariant.reached.node;
      current =
          c.node_at-current.result;
    } in
    let p = placed_at map ws l previous c.loop-next.next c.loop-next.invariant.walked.watched
    c.loop-next.invariant.reached
    c.loop-next.invariant.reached.node here
    c.in-Some.clause_id c.in-Some.is c.node_at-current.result c.node_at-current.ensures.clause
    c.node_at-current.ensures.within
    c.node_at-current.ensures.watch in
    smaller_by c.node_at-current.result.clause_id (rest place map ws) ahead p.ahead

pub loop-next-preserved-in-Satisfied : goal.loop-next-preserved-in-Satisfied
loop-next-preserved-in-Satisfied g c =
    let literals = literals_at c.args.input.now in
    let level = c.args.input.now.level in
    let l = c.args.literal in
    let t = c.args.trail.now in
    let w = watched_by c.args.watches.now in
    let map = c.loop-next.map in
    let ws = c.loop-next.watches in
    let previous = c.loop-next.previous in
    let ahead = ahead_of previous (watchers map ws l) in
    let here = known_node map ws l previous c.loop-next.next c.loop-next.invariant.reached in
    let place : Position = record {
      literal = l;
      previous = c.loop-next.invariant.reached.node;
      current =
          c.node_at-current.result;
    } in
    let p = placed_at map ws l previous c.loop-next.next c.loop-next.invariant.walked.watched
    c.loop-next.invariant.reached
    c.loop-next.invariant.reached.node here
    c.in-Some.clause_id c.in-Some.is c.node_at-current.result c.node_at-current.ensures.clause
    c.node_at-current.ensures.within
    c.node_at-current.ensures.watch in
    let more : IsWalked literals level l t w map ws c.visit.new.trail
    (c.node_at-current.result.clause_id ∷ rest place map ws) =
    subst (λ xs. IsWalked literals level l t w map ws c.visit.new.trail xs) (sym p.ahead)
    (walked_more literals level l t w map ws c.loop-next.trail c.visit.new.trail ahead c.visit.ensures.implied
    c.loop-next.invariant.walked) in
    let now = val c.visit.new.trail.entries in
    let id = c.node_at-current.result.clause_id in
    let seen : has_true_beside now (watched_by ws id) l ≡ true =
    subst (λ (v : VisitOutcome). IsVisit now (literals id) (watched_by ws id) l v) c.in-Satisfied.is
    c.in_ok-visit.ensures.ok in
    record {
      reached = behind_past map ws place c.next_of-next.result p.at.stands c.next_of-next.ensures;
      walked = walked_next literals level l t w map ws c.visit.new.trail id (rest place map ws) seen more;
    }

pub loop-next-smaller : goal.loop-next-smaller
loop-next-smaller g c =
    let l = c.args.literal in
    let map = c.loop-next.map in
    let ws = c.loop-next.watches in
    let previous = c.loop-next.previous in
    let ahead = ahead_of previous (watchers map ws l) in
    let here : IsNodeOf ws l previous c.node_of.result =
    record { clause = c.node_of.ensures.clause; is_node = c.node_of.ensures.node } in
    let place : Position = record { literal = l; previous = c.node_of.result; current = c.node_at-current.result } in
    let p = placed_at map ws l previous c.loop-next.next c.loop-next.invariant.walked.watched
    c.loop-next.invariant.reached
    c.node_of.result here
    c.in-Some.clause_id c.in-Some.is c.node_at-current.result c.node_at-current.ensures.clause
    c.node_at-current.ensures.within
    c.node_at-current.ensures.watch in
    let reached : IsReached l place.previous c.next_of-next.result c.move_watch.new.map c.move_watch.new.watches
    (passed place map ws) (rest place map ws) =
    subst (λ o. IsReached l place.previous o c.move_watch.new.map c.move_watch.new.watches (passed place map ws)
    (rest place map ws)) (sym c.next_of-next.ensures) c.in_ok-move_watch-in-Moves.ensures.reached in
    let watched = c.in_ok-move_watch-in-Moves.ensures.lists.watched in
    let is = sym (ap (λ o. ahead_of o (watchers c.move_watch.new.map c.move_watch.new.watches l)) here.clause)
    ∙ ahead_is c.move_watch.new.map c.move_watch.new.watches l place.previous c.next_of-next.result
    (passed place map ws) (rest place map ws) watched reached in
    smaller_by c.node_at-current.result.clause_id (ahead_of previous
    (watchers c.move_watch.new.map c.move_watch.new.watches l)) ahead
    (ap (λ xs. c.node_at-current.result.clause_id ∷ xs) is ∙ p.ahead)

pub loop-next-preserved : goal.loop-next-preserved
loop-next-preserved g c =
    let literals = literals_at c.args.input.now in
    let level = c.args.input.now.level in
    let l = c.args.literal in
    let t = c.args.trail.now in
    let w = watched_by c.args.watches.now in
    let map = c.loop-next.map in
    let ws = c.loop-next.watches in
    let previous = c.loop-next.previous in
    let ahead = ahead_of previous (watchers map ws l) in
    let here : IsNodeOf ws l previous c.node_of.result =
    record { clause = c.node_of.ensures.clause; is_node = c.node_of.ensures.node } in
    let place : Position = record { literal = l; previous = c.node_of.result; current = c.node_at-current.result } in
    let p = placed_at map ws l previous c.loop-next.next c.loop-next.invariant.walked.watched
    c.loop-next.invariant.reached
    c.node_of.result here
    c.in-Some.clause_id c.in-Some.is c.node_at-current.result c.node_at-current.ensures.clause
    c.node_at-current.ensures.within
    c.node_at-current.ensures.watch in
    let more : IsWalked literals level l t w map ws c.visit.new.trail
    (c.node_at-current.result.clause_id ∷ rest place map ws) =
    subst (λ xs. IsWalked literals level l t w map ws c.visit.new.trail xs) (sym p.ahead)
    (walked_more literals level l t w map ws c.loop-next.trail c.visit.new.trail ahead c.visit.ensures.implied
    c.loop-next.invariant.walked) in
    let reached : IsReached l place.previous c.next_of-next.result c.move_watch.new.map c.move_watch.new.watches
    (passed place map ws) (rest place map ws) =
    subst (λ o. IsReached l place.previous o c.move_watch.new.map c.move_watch.new.watches (passed place map ws)
    (rest place map ws)) (sym c.next_of-next.ensures) c.in_ok-move_watch-in-Moves.ensures.reached in
    let watched = c.in_ok-move_watch-in-Moves.ensures.lists.watched in
    let is = sym (ap (λ o. ahead_of o (watchers c.move_watch.new.map c.move_watch.new.watches l)) here.clause)
    ∙ ahead_is c.move_watch.new.map c.move_watch.new.watches l place.previous c.next_of-next.result
    (passed place map ws) (rest place map ws) watched reached in
    let now = val c.visit.new.trail.entries in
    let id = c.node_at-current.result.clause_id in
    let may : MayWatch now (literals id) (watched_by ws id) c.in-Moves.other =
    subst (λ (v : VisitOutcome). IsVisit now (literals id) (watched_by ws id) l v) c.in-Moves.is
    c.in_ok-visit.ensures.ok in
    let l_false = walked_false literals level l t w map ws c.visit.new.trail
    (id ∷ rest place map ws) c.requires.is_false
    more in
    record {
      reached = behind_from c.move_watch.new.map c.move_watch.new.watches l place.previous previous
          c.next_of-next.result
          (passed place map ws) (rest place map ws) watched here.clause reached;
      walked = subst (λ xs. IsWalked literals level l t w c.move_watch.new.map c.move_watch.new.watches
          c.visit.new.trail xs)
          (sym is)
          (walked_moved literals level l t w map c.move_watch.new.map ws c.move_watch.new.watches c.visit.new.trail
          place
          c.in-Moves.other p.at l_false may c.in_ok-move_watch-in-Moves.ensures.lists more);
    }

pub returns-in-Conflict-clause-ok : goal.returns-in-Conflict-clause-ok
returns-in-Conflict-clause-ok g c =
    let input = c.args.input.now in
    let now = val c.visit.new.trail.entries in
    let l = c.args.literal in
    let ws = c.loop-next.watches in
    let id = c.node_at-current.result.clause_id in
    let map = c.loop-next.map in
    let previous = c.loop-next.previous in
    let here = known_node map ws l previous c.loop-next.next c.loop-next.invariant.reached in
    let place : Position = record {
      literal = l;
      previous = c.loop-next.invariant.reached.node;
      current =
          c.node_at-current.result;
    } in
    let p = placed_at map ws l previous c.loop-next.next c.loop-next.invariant.walked.watched
    c.loop-next.invariant.reached
    c.loop-next.invariant.reached.node here
    c.in-Some.clause_id c.in-Some.is c.node_at-current.result c.node_at-current.ensures.clause
    c.node_at-current.ensures.within
    c.node_at-current.ensures.watch in
    let here = read_in (watched_by ws id) c.node_at-current.result.watch_index l p.at.stands.within p.at.stands.watch in
    let within = given_within input id l (c.loop-next.invariant.walked.rearranged.own id l here) in
    let seen : is_false now (literals_at input id) ≡ true =
    subst (λ (v : VisitOutcome). IsVisit now (literals_at input id) (watched_by ws id) l v) c.in-Conflict.is
    c.in_ok-visit.ensures.ok in
    subst (λ x. (x < length input.clauses.now) × (is_false now (literals_at input x) ≡ true))
    c.node_at-current.ensures.clause (within, seen)

pub returns-clause-ok : goal.returns-clause-ok
returns-clause-ok g c =
    let l = c.args.literal in
    let map = c.loop-next.map in
    let ws = c.loop-next.watches in
    let previous = c.loop-next.previous in
    let satisfied : AreWatchesSatisfiedBut [] l (val c.loop-next.trail.entries) (watched_by ws) =
    subst (λ xs. AreWatchesSatisfiedBut xs l (val c.loop-next.trail.entries) (watched_by ws))
    (nothing_ahead map ws l previous c.loop-next.next c.loop-next.invariant.reached c.in_default.is)
    c.loop-next.invariant.walked.ahead_met in
    satisfied
