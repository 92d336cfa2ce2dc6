use Rattle.std.proofs.Common.{◌≡◌, ◌∙◌, sym, ap, subst, Some, ℕ, List, true, refl}
use Rattle.std.specs.Prelude.{option_map}
use Rattle.resolvo_store.proofs.Words.{IsAnswered, knows_requirement, lists_of, Load, LoadedAs, store_of, StoreState}
use Rattle.resolvo_store.specs.Store.{gathered}
use Rattle.resolvo_store.proofs.ListLemmas.{items-cloned, items_of}
use Rattle.resolvo_store.proofs.LoadingLemmas.{step-known, loaded-again}
use Rattle.resolvo_store.proofs.store.ClauseStore.load_copied.Goals.{in-Some+in_ok-lists-in-Some}
use Rattle.resolvo_store.proofs.store.ClauseStore.load_copied.Goals.{in-None+in_ok-lists-in-None}
use Rattle.resolvo_store.proofs.store.ClauseStore.load_copied.Goals as goal

pub returns-clause-step : goal.returns-clause-step
returns-clause-step g c =
    let store = store_of (gathered g.D.NameId.PartialEq.eq g.D.SolvableId.PartialEq.eq
    g.D.NameId.Slots.IdMap.is_too_large g.D.SolvableId.Slots.IdMap.is_too_large
    g.D.SolvableId.Set.IdSet.is_too_large g.D.NameId.SolverId.are_many g.D.Interner.universe
    g.D.DependencyProvider.answers) g.D.NameId.Scores.IdMap.value_at in
    let old = store c.args.self.now in
    let r = c.args.requirement in
    let known = subst (λ (k : StoreState g.row.D.Denot g.row.D-NameId.Denot g.row.D-SolvableId.Denot
    g.row.D-NameId-Scores.Denot). knows_requirement (g.D.Interner.universe k.provider) r ≡ true) c.self.view_is
    (subst (λ p. knows_requirement (g.D.Interner.universe p) r ≡ true) c.provider.ensures.provider
    (sym c.knows_requirement.ensures ∙ c.if-not-knows_requirement.false)) in
    let Answered : List (List ℕ) → StoreState g.row.D.Denot g.row.D-NameId.Denot g.row.D-SolvableId.Denot
    g.row.D-NameId-Scores.Denot → Type 0 =
    λ lists kept. IsAnswered old (Load r) (LoadedAs lists) (store kept) in
    let answered : Answered (items_of c.match-lists.lists) c.match-lists.self =
    elim c.match-lists.branch [
      | in-Some+in_ok-lists-in-Some w ↦
          let looked : lists_of old r ≡ option_map (λ l. items_of l.now) c.lists.result =
          subst (λ (k : StoreState g.row.D.Denot g.row.D-NameId.Denot g.row.D-SolvableId.Denot
          g.row.D-NameId-Scores.Denot). lists_of (store k) r ≡ option_map (λ l. items_of l.now) c.lists.result)
          c.self.view_is (sym c.lists.ensures) in
          let found : lists_of old r ≡ Some (items_of w.in-Some.lists.now) = looked
          ∙ ap (option_map (λ l. items_of l.now)) w.in-Some.is in
          let same : items_of c.match-lists.lists ≡ items_of w.in-Some.lists.now =
          ap items_of w.lists-is ∙ items-cloned w.in-Some.lists.now.items w.in_ok-lists-in-Some.lists.items
          w.in_ok-lists-in-Some.ensures.cases.0 in
          subst (Answered (items_of c.match-lists.lists)) (sym w.self-is)
          (subst (λ lists. Answered lists c.args.self.now) (sym same)
          (loaded-again old r (items_of w.in-Some.lists.now) found))
      | in-None+in_ok-lists-in-None w ↦
          subst (Answered (items_of c.match-lists.lists)) (sym w.self-is)
          (subst (λ lists. Answered lists w.load_new.new.self) (sym (ap items_of w.lists-is
          ∙ w.in_ok-lists-in-None.ensures.lists refl)) w.in_ok-lists-in-None.ensures.ok)
    ] in
    step-known old r (LoadedAs (items_of c.match-lists.lists)) (store c.match-lists.self) known answered
