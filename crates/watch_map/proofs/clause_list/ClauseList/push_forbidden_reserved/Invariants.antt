use Rattle.std.proofs.Common.{◌≡◌, ◌-◌, length, take}
use Rattle.watch_map.proofs.Words.{contents, HasRoomFor, with_forbidden}
use Rattle.watch_map.proofs.clause_list.ClauseList.push_forbidden_reserved.Given as goal

abbrev pub invariant-loop-clause : goal.invariant-loop-clause
invariant-loop-clause g l = record {
  added : contents l.self ≡ with_forbidden l.name (contents l.fn.self) (take l.clause-index l.clauses);
  room : HasRoomFor (length l.clauses - l.clause-index) l.clauses l.self;
}
