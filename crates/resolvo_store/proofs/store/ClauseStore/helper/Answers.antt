use Rattle.std.proofs.Common.{◌≡◌, ◌∙◌, ◌++◌, ◌∷◌, [], length, refl, sym, subst, ap}
use Rattle.solver_cache.proofs.CacheLemmas.{begins_more}
use Rattle.resolvo_store.proofs.Words.{are_variables_out, Helper, helper_origin, is_helper_known, Refused, replied}
use Rattle.resolvo_store.proofs.Words.{Step, store_of, StoreState, UnknownId, VariableIs, VariableOrigin}
use Rattle.resolvo_store.specs.Store.{Provider, gathered}
use Rattle.std.specs.Prelude.{List}
use Rattle.resolvo_store.proofs.AddingLemmas.{step_foreseen, step_grown, if_ok}
use Rattle.resolvo_store.proofs.HelperLemmas.{helper_known_is, first_of_helper, first_of_unknown_helper}
use Rattle.resolvo_store.proofs.CallerLaws.{store_in}
use Rattle.resolvo_store.proofs.InvariantLemmas.{after_origins}
use Rattle.resolvo_store.proofs.PartOutcomes.{on_ok, on_err}
use Rattle.resolvo_store.proofs.SoundLaws.{IsSound-helper}
use Rattle.resolvo_store.proofs.store.ClauseStore.helper.Given.{Over}
use Rattle.resolvo_store.proofs.store.ClauseStore.helper.Goals as goal

-- the provider's functions
abbrev given : (g : Over) → g.row.D.Denot → Provider g.row.D-NameId.Denot g.row.D-SolvableId.Denot
given g = gathered g.D.NameId.PartialEq.eq g.D.SolvableId.PartialEq.eq g.D.NameId.Slots.IdMap.is_too_large
    g.D.SolvableId.Slots.IdMap.is_too_large g.D.SolvableId.Set.IdSet.is_too_large g.D.NameId.SolverId.are_many
    g.D.Interner.universe g.D.DependencyProvider.answers

pub returns-then-not-knows_helper-clause-step : goal.returns-then-not-knows_helper-clause-step
returns-then-not-knows_helper-clause-step g c =
    let st = store_in c.self.invariant.consistent.sound in
    let origin = c.args.origin in
    let known_is = subst (λ p. c.knows_helper.result ≡ is_helper_known (g.D.Interner.universe p) origin)
    c.provider.ensures.provider c.knows_helper.ensures ∙ helper_known_is st origin in
    subst (λ (k : StoreState g.row.D.Denot g.row.D-NameId.Denot g.row.D-SolvableId.Denot
    g.row.D-NameId-Scores.Denot). let now = store_of (given g) g.D.NameId.Scores.IdMap.value_at k in
    Step now (Helper origin) (Refused UnknownId) now) c.self.view_is
    (step_foreseen st (Helper origin) UnknownId (first_of_unknown_helper st origin (sym known_is
    ∙ c.if-not-knows_helper.true)))

pub invariant_of-self : goal.invariant_of-self
invariant_of-self g c =
    let st = store_in c.self.invariant.consistent.sound in
    let origin = c.args.origin in
    let known_is = subst (λ p. c.knows_helper.result ≡ is_helper_known (g.D.Interner.universe p) origin)
    c.provider.ensures.provider c.knows_helper.ensures ∙ helper_known_is st origin in
    record {
      consistent = after_origins c.self.invariant.consistent (c.self.inside.variables ++ helper_origin origin ∷ [])
          c.alloc_helper.result (begins_more c.self.inside.variables (helper_origin origin))
          (IsSound-helper _ c.self.invariant.consistent.sound origin (sym known_is ∙ c.if-not-knows_helper.false))
          c.alloc_helper.ensures.ok c.alloc_helper.ensures.err;
      counted = c.self.invariant.counted;
      marked = c.self.invariant.marked;
    }

pub returns-clause-step : goal.returns-clause-step
returns-clause-step g c =
    let st = store_in c.self.invariant.consistent.sound in
    let origin = c.args.origin in
    let known_is = subst (λ p. c.knows_helper.result ≡ is_helper_known (g.D.Interner.universe p) origin)
    c.provider.ensures.provider c.knows_helper.ensures ∙ helper_known_is st origin in
    let with_origins = λ (os : List (VariableOrigin g.row.D-NameId.Denot g.row.D-SolvableId.Denot)).
    record st { origins = os } in
    let made = with_origins c.alloc_helper.new.variables in
    subst (λ (k : StoreState g.row.D.Denot g.row.D-NameId.Denot g.row.D-SolvableId.Denot
    g.row.D-NameId-Scores.Denot). Step (store_of (given g) g.D.NameId.Scores.IdMap.value_at k) (Helper origin)
    (replied VariableIs c.alloc_helper.result) made) c.self.view_is
    (step_grown st VariableIs (Helper origin) (are_variables_out (length st.origins)) c.alloc_helper.result made refl
    (first_of_helper st origin (sym known_is ∙ c.if-not-knows_helper.false)) refl refl (λ h. h)
    (if_ok c.alloc_helper.result (λ v. ap VariableIs) c.alloc_helper.ensures.variable)
    (on_ok c.alloc_helper.result (ap with_origins) c.alloc_helper.ensures.ok)
    (on_err c.alloc_helper.result (ap with_origins) c.alloc_helper.ensures.err) c.alloc_helper.ensures.refused
    c.alloc_helper.ensures.ids_out)
