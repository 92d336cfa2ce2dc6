use Rattle.std.proofs.Common.{ap, sym, subst, ◌∙◌, ◌++◌, ◌∷◌, [], Some}
use Rattle.watch_map.specs.WatchLists.{AreWatched}
use Rattle.watch_map.proofs.CallerLaws.{new_clauses_join}
use Rattle.test_parts.proofs.each_request.watches.WatchedClauses.add.Goals as goal

pub invariant_of-self-2 : goal.invariant_of-self-2
invariant_of-self-2 g c =
    subst (AreWatched c.start_watching.new.self)
    (sym (c.push_reserved.ensures.items
    ∙ ap (λ xs. xs ++ Some c.start_watching.new.clause ∷ []) c.in_ok-reserve.ensures.items))
    (new_clauses_join c.self.inside.map c.start_watching.new.self c.self.inside.watches.items
    c.start_watching.new.clause
    c.from_index-clause_id.result c.self.invariant c.in_ok-start_watching.ensures.ok
    (c.from_index-clause_id.ensures ∙ (c.len-index.ensures ∙ c.self.inside.watches.ok.0))).0
