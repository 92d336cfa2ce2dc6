use Rattle.std.proofs.Common.{◌≡◌, ◌∙◌, ◌∷◌, [], ap, sym, true}
use Rattle.variables.specs.Variables.{with_variable}
use Rattle.resolvo_store.specs.Store.{Provider, gathered}
use Rattle.resolvo_store.proofs.CandidateLists.{begins_variables}
use Rattle.resolvo_store.proofs.InvariantLemmas.{after_origins}
use Rattle.resolvo_store.proofs.KnownLemmas.{IsLawful}
use Rattle.resolvo_store.proofs.SoundLaws.{IsSound-with_variable}
use Rattle.resolvo_store.proofs.store.ClauseStore.variable.Given.{Over}
use Rattle.resolvo_store.proofs.store.ClauseStore.variable.Goals as goal

-- the provider's functions
abbrev given : (g : Over) → g.row.D.Denot → Provider g.row.D-NameId.Denot g.row.D-SolvableId.Denot
given g = gathered g.D.NameId.PartialEq.eq g.D.SolvableId.PartialEq.eq g.D.NameId.Slots.IdMap.is_too_large
    g.D.SolvableId.Slots.IdMap.is_too_large g.D.SolvableId.Set.IdSet.is_too_large g.D.NameId.SolverId.are_many
    g.D.Interner.universe g.D.DependencyProvider.answers

-- its laws
abbrev lawful : (g : Over) (p : g.row.D.Denot) → IsLawful (given g p)
lawful g p = record {
  reflexive = g.met.D.SolvableId.Eq.laws.refl;
  same = g.met.D.SolvableId.SameValue.same;
  same_names = g.met.D.NameId.SameValue.same;
  candidates = g.met.D.DependencyProvider.candidates_known p;
  order = g.met.D.DependencyProvider.order_permutes p;
}

pub invariant_of-self : goal.invariant_of-self
invariant_of-self g c =
    let known : (g.D.Interner.universe c.self.inside.cache.provider).knows_solvable c.args.solvable ≡ true =
    ap (λ p. (g.D.Interner.universe p).knows_solvable c.args.solvable) (sym c.provider.ensures.provider)
    ∙ sym c.knows_solvable.ensures ∙ c.if-not-knows_solvable.false in
    record {
      consistent = after_origins c.self.invariant.consistent
          (with_variable g.D.SolvableId.PartialEq.eq c.self.inside.variables c.args.solvable) c.intern_solvable.result
          (begins_variables g.D.SolvableId.PartialEq.eq c.self.inside.variables (c.args.solvable ∷ []))
          (IsSound-with_variable _ c.self.invariant.consistent.sound
          (lawful g c.self.inside.cache.provider) c.args.solvable known) c.intern_solvable.ensures.ok
          c.intern_solvable.ensures.err;
      counted = c.self.invariant.counted;
      marked = c.self.invariant.marked;
    }
