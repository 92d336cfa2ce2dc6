use Rattle.std.proofs.Common.{ℕ, Some, arith, inr, map, refl, ap, sym, subst, ◌∙◌, ◌∷◌, [], length, length-append}
use Rattle.resolvo_queue.proofs.Words.{IsPlaceOf, record_seen, walked}
use Rattle.resolvo_queue.proofs.Clauses.Records.{one_place, placed_at, written_placed, written_is}
use Rattle.resolvo_queue.proofs.requirements.Requirements.store_walk.Goals as goal

pub invariant_of-self : goal.invariant_of-self
invariant_of-self g c =
    let r = c.index_mut-record.result.now in
    written_placed (walked c.args.frontier.now) (λ t. refl) c.self.inside.records.items c.args.self.now
    c.self.inside.places c.args.place r _ c.self.view_is c.requires c.index_mut-record.ensures.value
    (ap (λ (n : ℕ). record {
      requirement = r.requirement;
      clauses = r.clauses.items;
      walk = Some c.args.frontier.now;
      walks = n;
    }) (ap length c.and-record.ensures ∙ length-append r.log.walked (r.requirement ∷ [])))
    (λ t h. inr (omega arith)) c.self.invariant

pub returns-clause-walked : goal.returns-clause-walked
returns-clause-walked g c =
    let r = c.index_mut-record.result.now in
    written_is (walked c.args.frontier.now) (λ t. refl) c.self.inside.records.items c.args.self.now
    c.self.inside.places c.args.place r _ c.self.view_is c.requires c.index_mut-record.ensures.value
    (ap (λ (n : ℕ). record {
      requirement = r.requirement;
      clauses = r.clauses.items;
      walk = Some c.args.frontier.now;
      walks = n;
    }) (ap length c.and-record.ensures ∙ length-append r.log.walked (r.requirement ∷ [])))

pub returns-clause-only : goal.returns-clause-only
returns-clause-only g c = λ r k at other. (let ts = map record_seen c.self.inside.records.items in
    let was = subst (λ l. IsPlaceOf l r c.args.place) (sym c.self.view_is) at in
    one_place ts c.self.inside.places r c.self.invariant c.args.place
    (sym (placed_at ts c.self.inside.places r c.self.invariant c.args.place was)) k
    (subst (λ l. IsPlaceOf l r k) (sym c.self.view_is) other))
