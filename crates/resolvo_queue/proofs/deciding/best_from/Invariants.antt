use Rattle.std.proofs.Common.{◌≡◌, true}
use Rattle.resolvo_queue.proofs.Words.{CanDecideOn, grounds, is_in, offers_of, offers_on, OnlyWalks, rest_picked}
use Rattle.resolvo_queue.proofs.Picks.Decisions.{clauses_behind}
use Rattle.resolvo_queue.proofs.deciding.best_from.Given as goal

abbrev pub invariant-loop-first : goal.invariant-loop-first
invariant-loop-first g l =
    let on = grounds g.I.Interner.universe g.I.NameId.Scores.IdMap.value_at l.question l.fn.reader in
    let offers = offers_of l.group (offers_on on) in
    record {
      picked : rest_picked l.fn.tracked.index.clauses.items offers l.fn.first.offer l.fn.first.position
          ≡ rest_picked l.fn.tracked.index.clauses.items offers l.best.offer l.cursor;
      of : is_in l.group l.cursor ≡ true;
      decidable : CanDecideOn on l.tracked;
      walks : OnlyWalks l.fn.tracked l.tracked l.fn.reader l.reader;
    }

abbrev pub decreases-loop-first : goal.decreases-loop-first
decreases-loop-first g l = clauses_behind l.fn.tracked.index.clauses.items l.cursor
