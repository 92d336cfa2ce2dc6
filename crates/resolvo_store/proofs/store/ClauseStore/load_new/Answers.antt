use Rattle.std.proofs.lemmas.Grind.{common_steps}
use Rattle.std.proofs.Common.{◌≡◌, ◌∙◌, length, take, sym, ap, subst, arith}
use Rattle.std.specs.Prelude.{All}
use Rattle.resolvo_store.proofs.Words.{IsOfCandidates, IsSound, Store, store_of, StoreState}
use Rattle.resolvo_store.specs.Store.{Provider, gathered}
use Rattle.resolvo_store.proofs.LoadingLemmas.{where_err}
use Rattle.resolvo_store.proofs.store.ClauseStore.load_new.Given.{Over}
use Rattle.resolvo_store.proofs.store.ClauseStore.load_new.Goals as goal

-- the provider's functions
abbrev given : (g : Over) → g.row.D.Denot → Provider g.row.D-NameId.Denot g.row.D-SolvableId.Denot
given g = gathered g.D.NameId.PartialEq.eq g.D.SolvableId.PartialEq.eq g.D.NameId.Slots.IdMap.is_too_large
    g.D.SolvableId.Slots.IdMap.is_too_large g.D.SolvableId.Set.IdSet.is_too_large g.D.NameId.SolverId.are_many
    g.D.Interner.universe g.D.DependencyProvider.answers

-- what is kept, and the abstract store of it
abbrev Kept : Over → Type 0
Kept g = StoreState g.row.D.Denot g.row.D-NameId.Denot g.row.D-SolvableId.Denot g.row.D-NameId-Scores.Denot

abbrev store : (g : Over) → Kept g → Store g.row.D-NameId.Denot g.row.D-SolvableId.Denot
store g = store_of (given g) g.D.NameId.Scores.IdMap.value_at

pub forget_from-requires : goal.forget_from-requires
forget_from-requires g c = grind (arith, common_steps)

pub invariant_of-self : goal.invariant_of-self
invariant_of-self g c =
    let inside = c.self-2.inside in
    let now = c.args.self.now in
    let new = c.store_candidates-kept.new.self in
    let left = c.self-2.invariant in
    let was = c.self.invariant.consistent in
    let same : new ≡ record now { origins = new.origins } =
    where_err _ c.store_candidates-kept.result (sym c.is_err.ensures.value ∙ c.if-is_err.true)
    c.store_candidates-kept.ensures.err in
    let origins : c.forget_from.new.self ≡ now.origins =
    c.forget_from.ensures
    ∙ ap (λ n. take n inside.variables) (c.count-before.ensures.value ∙ ap (λ (v : Kept g). length v.origins)
    c.self.view_is)
    ∙ ap (λ (v : Kept g). take (length now.origins) v.origins) c.self-2.view_is
    ∙ c.store_candidates-kept.ensures.front in
    let as_it_was = ap (λ (v : Kept g). record v { origins = c.forget_from.new.self }) (c.self-2.view_is ∙ same)
    ∙ ap (λ os. record now { origins = os }) origins ∙ sym c.self.view_is in
    record {
      consistent = record {
        few = left.consistent.few;
        known = left.consistent.known;
        sound = subst (λ (v : Kept g). IsSound (store g v)) (sym as_it_was) was.sound;
        through = record {
          queried = left.consistent.through.queried;
          fit = left.consistent.through.fit;
          candidates = subst (λ (v : Kept g). All (IsOfCandidates (store g v).provider v.origins) v.loaded)
              (sym as_it_was) was.through.candidates;
        };
        may_decide = left.consistent.may_decide;
      };
      counted = left.counted;
      marked = left.marked;
    }
