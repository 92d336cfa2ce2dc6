-- What is seen of a list of clauses.
use Rattle.std.specs.Prelude.{map, vec_capacity}
use Rattle.watch_map.specs.declared.clause_list.ClauseList.TheInside.{Inside}
use Rattle.watch_map.specs.ClauseList.{ClauseListState}

-- the values of its four lists, and the room in two of them
abbrev pub clause_list_in : {N A : Type 0} → Inside N A → ClauseListState N
clause_list_in a = record {
  clauses = a.clauses.items;
  records = a.watches.items;
  learnt = map (λ literals. literals.items) a.learnt;
  lists = a.map;
  clause_room = vec_capacity a.clauses;
  record_room = vec_capacity a.watches;
}
