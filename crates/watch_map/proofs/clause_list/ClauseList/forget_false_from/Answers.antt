use Rattle.std.proofs.Common.{◌≡◌, [], sym, ap, ◌∙◌, drop}
use Rattle.watch_map.proofs.Words.{contents, none_watched_false}
use Rattle.watch_map.proofs.MarkedLists.{none_of_clauses}
use Rattle.watch_map.proofs.clause_list.ClauseList.forget_false_from.Goals as goal

pub returns-then-is_empty : goal.returns-then-is_empty
returns-then-is_empty g c =
    let none : c.args.marks.now ≡ [] = c.is_empty.ensures.0 c.if-is_empty.true in
    let ws = drop c.args.first (contents c.args.self.now).watches in
    none ∙ sym (ap (λ marks. none_watched_false c.args.trail.now.entries marks ws) none
    ∙ none_of_clauses c.args.trail.now.entries ws)
