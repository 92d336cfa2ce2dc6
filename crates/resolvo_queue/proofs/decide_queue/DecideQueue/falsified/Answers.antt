use Rattle.std.proofs.Common.{◌≡◌, ◌∙◌, ap, option_map, Some, slice_get, sym, subst}
use Rattle.std.specs.Prelude.{All}
use Rattle.resolvo_queue.proofs.Words.{CanWalk, FindsFirst, first_falsified, is_falsified, is_falsified_in, literals_in}
use Rattle.resolvo_queue.proofs.Words.{Queue, queue_of, references, StandsOn, values_in}
use Rattle.resolvo_queue.specs.References.{rows_in}
use Rattle.resolvo_queue.proofs.Picks.Registered.{askable_tracked}
use Rattle.resolvo_queue.proofs.Falsified.Scanned.{first_id}
use Rattle.resolvo_queue.proofs.decide_queue.DecideQueue.falsified.Goals as goal

pub falsified_clause-requires : goal.falsified_clause-requires
falsified_clause-requires g c =
    let inside = c.self.inside in
    let before : Queue g.row.D-NameId.Denot g.row.D-NameId-Set.Denot =
    queue_of inside.tracked inside.names.items inside.hot_names inside.woken in
    let refs = references (g.D.Interner.universe c.args.provider.now) c.args.lists.now c.args.disjunctions.now in
    let stands : StandsOn refs before = subst (StandsOn refs) (sym c.self.view_is) c.requires.stands in
    record {
      inspectable = λ n d e. askable_tracked refs inside.tracked.index.clauses.items stands.parts
          (subst (λ (q : Queue g.row.D-NameId.Denot g.row.D-NameId-Set.Denot). All (CanWalk refs) q.clauses)
          (sym c.self.view_is) c.requires.walkable) n d
          (subst (λ l. slice_get l n ≡ Some d) c.as_slice.ensures.value e);
    }

pub returns : goal.returns
returns g c =
    let inside = c.self.inside in
    let refs = references (g.D.Interner.universe c.args.provider.now) c.args.lists.now c.args.disjunctions.now in
    let val = values_in c.args.map.now in
    c.id_of.ensures ∙ first_id inside.tracked.index.clauses.items c.self.invariant.0.order.located
    (is_falsified val (literals_in refs) (rows_in refs)) c.falsified_clause.result
    (subst (λ cs. FindsFirst cs (is_falsified_in refs val) c.falsified_clause.result) c.as_slice.ensures.value
    c.falsified_clause.ensures) ∙ ap (λ (q : Queue g.row.D-NameId.Denot g.row.D-NameId-Set.Denot).
    option_map (λ d. d.clause_id) (first_falsified val (literals_in refs) (rows_in refs) q.clauses)) c.self.view_is
