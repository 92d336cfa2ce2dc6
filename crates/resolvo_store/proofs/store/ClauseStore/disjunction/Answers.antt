use Rattle.std.proofs.Common.{◌≡◌, ◌∙◌, refl, ap, sym, subst, true}
use Rattle.std.specs.Prelude.{Bool, length, ◌&&◌}
use Rattle.resolvo_store.proofs.Words.{are_disjunctions_out, DisjunctionIs, list_all, nat_lt, replied, Step, store_of}
use Rattle.resolvo_store.proofs.Words.{stored_disjunctions, StoreState, variable_of}
use Rattle.resolvo_store.specs.Command.{Disjunction}
use Rattle.resolvo_store.specs.Store.{Provider, gathered}
use Rattle.resolvo_store.proofs.CallerLaws.{store_in}
use Rattle.resolvo_store.proofs.AddingLemmas.{both, if_ok, step_grown, first_of_disjunction}
use Rattle.resolvo_store.proofs.CountedLemmas.{follows_disjunction, keeps_counted}
use Rattle.resolvo_store.proofs.InvariantLemmas.{after_disjunction}
use Rattle.resolvo_store.proofs.PartOutcomes.{on_ok, on_err}
use Rattle.resolvo_store.proofs.MarkedLaws.{marks_asked}
use Rattle.resolvo_store.proofs.store.ClauseStore.disjunction.Given.{Over}
use Rattle.resolvo_store.proofs.store.ClauseStore.disjunction.Goals as goal

-- the provider's functions
abbrev given : (g : Over) → g.row.D.Denot → Provider g.row.D-NameId.Denot g.row.D-SolvableId.Denot
given g = gathered g.D.NameId.PartialEq.eq g.D.SolvableId.PartialEq.eq g.D.NameId.Slots.IdMap.is_too_large
    g.D.SolvableId.Slots.IdMap.is_too_large g.D.SolvableId.Set.IdSet.is_too_large g.D.NameId.SolverId.are_many
    g.D.Interner.universe g.D.DependencyProvider.answers

pub invariant_of-self : goal.invariant_of-self
invariant_of-self g c =
    let knows : Bool = list_all (λ l. nat_lt (variable_of l) (length c.self.inside.variables)) c.args.literals.now in
    let known = subst (λ n. (list_all (λ l. nat_lt (variable_of l) n) c.args.literals.now
    && (g.D.Interner.universe c.provider.result.now).knows_condition c.args.condition) ≡ true) c.count.ensures.value
    (sym c.knows_parts.ensures ∙ c.if-not-knows_parts.false) in
    let call = c.store_disjunction in
    record {
      consistent = after_disjunction c.self.invariant.consistent c.args.literals.now c.args.condition
          c.store_disjunction.result refl
          (both knows ((g.D.Interner.universe c.provider.result.now).knows_condition c.args.condition) known).0
          c.store_disjunction.ensures.more c.store_disjunction.ensures.ok c.store_disjunction.ensures.err;
      counted = keeps_counted refl (λ h. follows_disjunction c.self.inside.falsified c.self.inside.trail.entries _
          call.new.disjunctions call.result call.ensures.more call.ensures.err h) c.self.invariant.counted;
      marked = marks_asked (store_in c.self.invariant.consistent.sound) c.self.inside.marks c.self.invariant.marked
          c.self.inside.disjunctions c.args.literals.now c.args.condition call.new.disjunctions call.result refl
          call.ensures.ok call.ensures.err;
    }

pub returns-clause-step : goal.returns-clause-step
returns-clause-step g c =
    let st = store_in c.self.invariant.consistent.sound in
    let known = subst (λ n. (list_all (λ l. nat_lt (variable_of l) n) c.args.literals.now
    && st.provider.universe.knows_condition c.args.condition) ≡ true) c.count.ensures.value
    (subst (λ p. (list_all (λ l. nat_lt (variable_of l) c.count.result) c.args.literals.now
    && (g.D.Interner.universe p).knows_condition c.args.condition) ≡ true) c.provider.ensures.provider
    (sym c.knows_parts.ensures ∙ c.if-not-knows_parts.false)) in
    let made = record st { disjunctions = stored_disjunctions c.store_disjunction.new.disjunctions } in
    subst (λ (k : StoreState g.row.D.Denot g.row.D-NameId.Denot g.row.D-SolvableId.Denot
    g.row.D-NameId-Scores.Denot). Step (store_of (given g) g.D.NameId.Scores.IdMap.value_at k)
    (Disjunction c.args.literals.now c.args.condition) (replied DisjunctionIs c.store_disjunction.result) made)
    c.self.view_is
    (step_grown st DisjunctionIs (Disjunction c.args.literals.now c.args.condition)
    (are_disjunctions_out st) c.store_disjunction.result made refl
    (first_of_disjunction st c.args.literals.now c.args.condition known)
    refl refl (λ h. h) (if_ok c.store_disjunction.result (λ d. ap DisjunctionIs)
    c.store_disjunction.ensures.disjunction) (on_ok c.store_disjunction.result
    (ap (λ ds. record st { disjunctions = ds })) c.store_disjunction.ensures.ok)
    (on_err c.store_disjunction.result (ap (λ ds. record st { disjunctions = stored_disjunctions ds }))
    c.store_disjunction.ensures.err) c.store_disjunction.ensures.refused c.store_disjunction.ensures.ids_out)
