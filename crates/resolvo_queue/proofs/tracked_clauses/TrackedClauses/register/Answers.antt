use Rattle.std.proofs.Common.{◌≡◌, ◌+◌, [], ◌∷◌, ◌++◌, length, MatchOption, slice_get, sym, ap, refl, ◌∙◌, subst}
use Rattle.std.proofs.Common.{arith}
use Rattle.resolvo_queue.proofs.Words.{at_position, clauses_at, IsUpdate, list_at, position_in, Renews, Stands}
use Rattle.resolvo_queue.proofs.Words.{TrackedClause}
use Rattle.resolvo_queue.proofs.Clauses.Chained.{found_or_has, renews_after}
use Rattle.resolvo_queue.proofs.Clauses.Order.{next_is}
use Rattle.resolvo_queue.proofs.Syncs.NewClause.{parent_of}
use Rattle.resolvo_queue.proofs.tracked_clauses.TrackedClauses.register.Goals as goal

pub renew_newest-requires : goal.renew_newest-requires
renew_newest-requires g c = c.in_ok-earlier.ensures.room

pub returns-clause-ok : goal.returns-clause-ok
returns-clause-ok g c =
    let clauses = c.args.self.now.index.clauses.items in
    let by_parent = c.args.self.now.index.by_parent in
    let clause = c.args.clause.now in
    let new : TrackedClause = record {
      parent = clause.parent;
      requirement = clause.requirement;
      «record» = c.in_ok-place.place;
      condition = clause.condition;
      clause_id = clause.clause_id;
      earlier = c.in_ok-earlier.earlier;
      position = c.next_position.result;
      is_hot = c.args.is_hot;
    } in
    let number : c.len-number.result ≡ length clauses =
    omega (arith, c.len-number.ensures, c.args.self.now.index.clauses.ok) in
    let next : c.next_position.result.number ≡ length clauses =
    c.next_position.ensures.number ∙ ap length c.reserve.ensures.items in
    let more : c.push_reserved.new.self.items ≡ clauses ++ new ∷ [] =
    c.push_reserved.ensures.items ∙ ap (λ l. l ++ new ∷ []) c.reserve.ensures.items in
    record {
      gains = record {
        records = c.enter_clause.ensures.gains;
        conditions = c.enter_condition.ensures.kept;
        occurrences = refl;
        queued = refl;
        noted = refl;
      };
      new = new;
      is = refl;
      hot = refl;
      clauses = more;
      position = subst (λ cs. c.next_position.result ≡
          position_in parent_of at_position cs (length clauses, new)) (sym more)
          (next_is clauses new (slice_get (list_at by_parent clause.parent) 0)
          (c.requires.order.first clause.parent) next
          (subst (λ l. MatchOption (slice_get (list_at by_parent clause.parent) 0)
          (c.next_position.result.first_of_parent ≡ length l) (λ f. c.next_position.result.first_of_parent ≡ f))
          c.reserve.ensures.items c.next_position.ensures.first));
      by_parent = subst (λ n. IsUpdate (list_at by_parent) clause.parent (list_at by_parent clause.parent ++ n ∷ [])
          (list_at c.push.new.self)) number c.in_ok-push.ensures.ok;
      newest_under = renews_after clause.condition (length clauses + 1) c.args.self.now.index.newest_under.items
          c.enter_condition.new.newest_under.items c.renew_newest.new.newest_under.items c.enter_condition.ensures.same
          (subst (λ n. Renews clause.condition (n + 1) c.enter_condition.new.newest_under.items
          c.renew_newest.new.newest_under.items) number c.renew_newest.ensures);
      earlier = c.in_ok-earlier.ensures.newest;
      conditions = found_or_has clauses c.args.self.now.index.newest_under.items c.requires.order.chained
          c.args.literals.now c.enter_condition.new.conditions c.in_ok-earlier.earlier clause.condition
          c.in_ok-earlier.ensures.newest c.in_ok-earlier.ensures.found;
      requirements = subst (λ n. Stands n (clauses_at c.enter_clause.new.self c.in_ok-place.place)) number
          c.in_ok-place.ensures.found;
      placed = c.in_ok-place.ensures.placed;
    }
