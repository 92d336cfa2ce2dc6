use Rattle.std.proofs.Common.{◌≡◌, ◌+◌, ◌≤◌, min, length, false, map}
use Rattle.std.proofs.Common.{take, sym, ap, refl, subst, arith, ◌∙◌}
use Rattle.std.proofs.lemmas.List.{take-take}
use Rattle.resolvo_queue.proofs.Words.{AgreesBelow, changed_from, clause_of, HasNoneOf, owed, owed_in, Queue, queue_of}
use Rattle.resolvo_queue.proofs.Words.{StandsOn, walks}
use Rattle.resolvo_queue.specs.References.{rows_in}
use Rattle.resolvo_queue.proofs.Clauses.Synced.{kept_still, order_after_sync, stands_after}
use Rattle.resolvo_queue.proofs.Clauses.Counts.{own_number}
use Rattle.resolvo_queue.proofs.Walks.Owed.{owed_kept, owes_one_more}
use Rattle.resolvo_queue.proofs.decide_queue.DecideQueue.sync.Goals as goal

pub sync-requires-clause-numbers : goal.sync-requires-clause-numbers
sync-requires-clause-numbers g c = λ n d e.
    own_number c.self.inside.tracked.index.clauses.items c.self.invariant.0.order.located n d e

pub invariant_of-self : goal.invariant_of-self
invariant_of-self g c = (
  kept_still c.self.invariant.0 (order_after_sync (ap (λ ix. ix.clauses.items) c.sync.ensures.same.0)
      (ap (λ ix. ix.by_parent) c.sync.ensures.same.0) (ap (λ ix. ix.newest_under.items) c.sync.ensures.same.0)
      c.sync.ensures.only c.sync.ensures.grows c.self.invariant.0.order)
      (ap (λ ix. ix.clauses.items) c.sync.ensures.same.0) refl refl c.self.invariant.0.woken,
  c.self.invariant.1,
)

pub sync-requires-clause-agrees : goal.sync-requires-clause-agrees
sync-requires-clause-agrees g c =
    let inside = c.self.inside in
    let before : Queue g.row.D-NameId.Denot g.row.D-NameId-Set.Denot =
    queue_of inside.tracked inside.names.items inside.hot_names inside.woken in
    let less : c.min-floor.result ≤ c.args.floor = grind (arith, c.min.ensures, c.min-floor.ensures) in
    λ fresh. (let agrees : AgreesBelow c.args.floor c.args.trail.now before =
    subst (λ (q : Queue g.row.D-NameId.Denot g.row.D-NameId-Set.Denot). q.must_start_anew ≡ false →
    AgreesBelow c.args.floor c.args.trail.now q) (sym c.self.view_is) c.requires.agrees fresh in
    sym (take-take c.min-floor.result c.args.floor before.trail less) ∙
    (ap (take c.min-floor.result) agrees ∙ take-take c.min-floor.result c.args.floor c.args.trail.now less))

pub returns-clause-stands : goal.returns-clause-stands
returns-clause-stands g c =
    let inside = c.self.inside in
    let before : Queue g.row.D-NameId.Denot g.row.D-NameId-Set.Denot =
    queue_of inside.tracked inside.names.items inside.hot_names inside.woken in
    let after : Queue g.row.D-NameId.Denot g.row.D-NameId-Set.Denot =
    queue_of c.sync.new.self inside.names.items inside.hot_names inside.woken in
    let less : c.min-floor.result ≤ c.args.floor = grind (arith, c.min.ensures, c.min-floor.ensures) in
    λ refs s. stands_after g.D.NameId.Set.IdSet.has refs before after c.self.invariant.0
    (subst (StandsOn refs) (sym c.self.view_is) s) (ap (λ ix. map clause_of ix.clauses.items) c.sync.ensures.same.0)
    (ap (λ ix. ix.clauses.items) c.sync.ensures.same.0) (ap (λ ix. ix.conditions) c.sync.ensures.same.0)
    c.args.floor c.min-floor.result c.args.trail.now _ less
    (subst (λ (q : Queue g.row.D-NameId.Denot g.row.D-NameId-Set.Denot). q.must_start_anew ≡ false →
    AgreesBelow c.args.floor c.args.trail.now q) (sym c.self.view_is) c.requires.agrees)
    c.requires.values c.sync.result c.sync.ensures.same.1 c.sync.ensures.only c.sync.ensures.synced
    c.sync.ensures.trail c.sync.ensures.refused refl

pub returns-clause-walks : goal.returns-clause-walks
returns-clause-walks g c =
    λ r. (owes_one_more c.self.inside.tracked.requirements c.sync.new.self.requirements c.sync.ensures.only).walks r ∙
    ap (λ (q : Queue g.row.D-NameId.Denot g.row.D-NameId-Set.Denot). walks q r) c.self.view_is

pub returns-clause-owed : goal.returns-clause-owed
returns-clause-owed g c =
    λ r. subst (λ (q : Queue g.row.D-NameId.Denot g.row.D-NameId-Set.Denot). owed_in c.sync.new.self.requirements r ≤
    owed q r + 1) c.self.view_is
    ((owes_one_more c.self.inside.tracked.requirements c.sync.new.self.requirements c.sync.ensures.only).owed r)

pub returns-clause-owed_still : goal.returns-clause-owed_still
returns-clause-owed_still g c =
    let inside = c.self.inside in
    let before : Queue g.row.D-NameId.Denot g.row.D-NameId-Set.Denot =
    queue_of inside.tracked inside.names.items inside.hot_names inside.woken in
    let floor_is : c.min-floor.result ≡ min (min c.args.floor (length c.args.trail.now)) (length before.trail) =
    grind (arith, c.min.ensures, c.min-floor.ensures) in
    λ accepted refs s r walkable none.
    (let was : before.must_start_anew ≡ false = ap (λ (q : Queue g.row.D-NameId.Denot g.row.D-NameId-Set.Denot).
    q.must_start_anew) c.self.view_is ∙ accepted in
    owed_kept refs before c.sync.new.self.requirements c.args.floor c.min-floor.result c.args.trail.now floor_is
    (subst (λ (q : Queue g.row.D-NameId.Denot g.row.D-NameId-Set.Denot). q.must_start_anew ≡ false →
    AgreesBelow c.args.floor c.args.trail.now q) (sym c.self.view_is) c.requires.agrees was)
    (subst (StandsOn refs) (sym c.self.view_is) s) c.sync.ensures.only (c.sync.ensures.others was) r walkable
    (subst (λ (q : Queue g.row.D-NameId.Denot g.row.D-NameId-Set.Denot).
    HasNoneOf (changed_from c.args.floor c.args.trail.now q) (rows_in refs r)) (sym c.self.view_is) none)
    ∙ ap (λ (q : Queue g.row.D-NameId.Denot g.row.D-NameId-Set.Denot). owed q r) c.self.view_is)
