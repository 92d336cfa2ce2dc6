use Rattle.std.proofs.Common.{◌≡◌, ◌+◌, ◌-◌, length, ◌∙◌, arith, subst}
use Rattle.watch_map.proofs.Words.{contents, HasRoomFor, literals_watched}
use Rattle.watch_map.proofs.ListLaws.{room_for_item, one_forbidden_more}
use Rattle.watch_map.proofs.clause_list.ClauseList.push_forbidden_reserved.Goals as goal

pub push_stored-requires-clause-room : goal.push_stored-requires-clause-room
push_stored-requires-clause-room g c =
    let within = c.loop-clause-test.true in
    room_for_item (length c.args.clauses.now - c.loop-clause.clause-index) c.args.clauses.now c.loop-clause.self
    c.loop-clause.clause-index c.clause-item.result
    (literals_watched c.forbidden-watches.result.0)
    (omega (arith, within)) within c.clause-item.is c.forbidden-watches.ensures.watches c.loop-clause.invariant.room

pub loop-clause-preserved : goal.loop-clause-preserved
loop-clause-preserved g c =
    let within = c.loop-clause-test.true in
    let left : length c.args.clauses.now - c.loop-clause.clause-index ≡
    (length c.args.clauses.now - (c.loop-clause.clause-index + 1)) + 1 = omega (arith, within) in
    record {
      added = one_forbidden_more c.args.name (contents c.args.self.now) (contents c.loop-clause.self)
          (contents c.push_stored.new.self) c.args.clauses.now c.loop-clause.clause-index
          c.clause-item.result c.new.result
          (literals_watched c.forbidden-watches.result.0) within c.clause-item.is (c.new.ensures
          ∙ c.forbidden-watches.ensures.clause)
          c.forbidden-watches.ensures.watches c.loop-clause.invariant.added c.push_stored.ensures.added;
      room = c.push_stored.ensures.rooms (length c.args.clauses.now - (c.loop-clause.clause-index + 1))
          c.args.clauses.now
          (subst (λ n. HasRoomFor n c.args.clauses.now c.loop-clause.self) left c.loop-clause.invariant.room);
    }
