use Rattle.std.proofs.lemmas.Grind.{common_steps}
use Rattle.std.proofs.Common.{◌≡◌, ◌⊎◌, arith, ◌<◌, ◌^◌, ◌-◌, [], ◌∷◌, ◌++◌}
use Rattle.std.proofs.Common.{map, length, sym, ap, refl, subst, ◌∙◌}
use Rattle.std.proofs.lemmas.List.{length-map}
use Rattle.resolvo_queue.proofs.Words.{clause_of, IsEntered, IsRegistered, StandsUnder, owed, owed_in, Queue}
use Rattle.resolvo_queue.proofs.Words.{queue_of, references, RequiresClause, StandsOn, walks}
use Rattle.resolvo_queue.proofs.Clauses.ByName.{entered_last, entered_still}
use Rattle.resolvo_queue.proofs.Clauses.Registration.{kept_refused, kept_registered, not_full}
use Rattle.resolvo_queue.proofs.Clauses.Registration.{registered_whole, stands_refused, stands_registered}
use Rattle.resolvo_queue.proofs.decide_queue.DecideQueue.register_clause.Goals as goal

pub overflow_cast-number : goal.overflow_cast-number
overflow_cast-number g c =
    let inside = c.self.inside in
    let few : length inside.tracked.index.clauses.items < 2 ^ 32 - 1 =
    not_full c.is_full.result (length c.args.self.now.clauses)
    (length inside.tracked.index.clauses.items) c.if-is_full.false c.is_full.ensures
    (ap (λ (q : Queue g.row.D-NameId.Denot g.row.D-NameId-Set.Denot). length q.clauses) (sym c.self.view_is) ∙
    length-map inside.tracked.index.clauses.items clause_of) in
    omega (arith, few, c.len-number.ensures, inside.tracked.index.clauses.ok.0)

-- the names were refused
pub invariant_of-self : goal.invariant_of-self
invariant_of-self g c =
    let under = StandsUnder g.D.NameId.Slots.IdMap.value_at in
    let names = c.self.inside.names.items in (
      c.self.invariant.0,
      entered_still g.D.NameId.Slots.IdMap.is_too_large (under c.self.inside.by_name) (under c.enter.new.self) names
          names refl c.enter.ensures.kept c.self.invariant.1,
    )

pub invariant_of-self-in_err-register : goal.invariant_of-self-in_err-register
invariant_of-self-in_err-register g c =
    let inside = c.self.inside in
    let before : Queue g.row.D-NameId.Denot g.row.D-NameId-Set.Denot =
    queue_of inside.tracked inside.names.items inside.hot_names inside.woken in
    let after : Queue g.row.D-NameId.Denot g.row.D-NameId-Set.Denot =
    queue_of c.register.new.self inside.names.items inside.hot_names inside.woken in
    let under = StandsUnder g.D.NameId.Slots.IdMap.value_at in (
      kept_refused g.D.NameId.Set.IdSet.has before after c.in_err-register.ensures.err refl
          c.self.invariant.0 refl refl,
      entered_still g.D.NameId.Slots.IdMap.is_too_large (under inside.by_name)
          (under c.enter.new.self) before.names after.names refl c.enter.ensures.kept c.self.invariant.1,
    )

pub returns-in_err-register-clause-stands : goal.returns-in_err-register-clause-stands
returns-in_err-register-clause-stands g c =
    let inside = c.self.inside in
    let before : Queue g.row.D-NameId.Denot g.row.D-NameId-Set.Denot =
    queue_of inside.tracked inside.names.items inside.hot_names inside.woken in
    let after : Queue g.row.D-NameId.Denot g.row.D-NameId-Set.Denot =
    queue_of c.register.new.self inside.names.items inside.hot_names inside.woken in
    λ universe lists has s. (let refs = references universe lists c.args.disjunctions.now in
    stands_refused g.D.NameId.Set.IdSet.has before after c.in_err-register.ensures.err refl refs
    (subst (StandsOn refs) (sym c.self.view_is) s) (ap (map clause_of) c.in_err-register.ensures.err.clauses)
    (ap (λ t. t.items) c.register.ensures.same.1) c.register.ensures.same.2)

pub invariant_of-self-2 : goal.invariant_of-self-2
invariant_of-self-2 g c =
    let inside = c.self.inside in
    let before : Queue g.row.D-NameId.Denot g.row.D-NameId-Set.Denot =
    queue_of inside.tracked inside.names.items inside.hot_names inside.woken in
    let after : Queue g.row.D-NameId.Denot g.row.D-NameId-Set.Denot =
    queue_of c.register.new.self c.and-self-inside.result.items inside.hot_names inside.woken in
    let few : length inside.tracked.index.clauses.items < 2 ^ 32 - 1 =
    not_full c.is_full.result (length c.args.self.now.clauses)
    (length inside.tracked.index.clauses.items) c.if-is_full.false c.is_full.ensures
    (ap (λ (q : Queue g.row.D-NameId.Denot g.row.D-NameId-Set.Denot). length q.clauses) (sym c.self.view_is) ∙
    length-map inside.tracked.index.clauses.items clause_of) in
    let names : after.names ≡ before.names ++ c.args.names.now ∷ [] = c.and-self-inside.ensures in
    let under = StandsUnder g.D.NameId.Slots.IdMap.value_at in
    let is_too_large = g.D.NameId.Slots.IdMap.is_too_large in
    let number : c.len-number.result ≡ length before.names =
    c.len-number.ensures ∙ (inside.tracked.index.clauses.ok.0 ∙ sym c.self.invariant.0.names) in (
      kept_registered g.D.NameId.Set.IdSet.has before after _ c.has_hot_name-is_hot.result
          c.condition_of-literals.result.now c.args.names.now c.self.invariant.0 c.in_ok-register.ensures.ok refl few
          names (λ n. refl) c.has_hot_name-is_hot.ensures,
      entered_last is_too_large (under inside.by_name)
          (under c.enter.new.self) before.names after.names c.args.names.now names c.enter.ensures.kept
          c.self.invariant.1 (λ name s. subst (λ k. IsEntered is_too_large (under c.enter.new.self) k name) number
          (c.in_ok-enter.ensures.entered name s)),
    )

pub returns-clause-ok : goal.returns-clause-ok
returns-clause-ok g c =
    let inside = c.self.inside in
    let before : Queue g.row.D-NameId.Denot g.row.D-NameId-Set.Denot =
    queue_of inside.tracked inside.names.items inside.hot_names inside.woken in
    let after : Queue g.row.D-NameId.Denot g.row.D-NameId-Set.Denot =
    queue_of c.register.new.self c.and-self-inside.result.items inside.hot_names inside.woken in
    let clause : RequiresClause = record {
      parent = c.args.parent;
      requirement = c.args.requirement;
      condition = c.args.condition;
      clause_id = c.args.clause_id;
    } in
    subst (λ q. IsRegistered g.D.NameId.Set.IdSet.has clause c.args.names.now q after) c.self.view_is (record {
      clauses = registered_whole clause c.has_hot_name-is_hot.result c.condition_of-literals.result.now
          before.inside after.inside c.in_ok-register.ensures.ok;
      names = c.and-self-inside.ensures;
      trail = ap (λ t. t.items) c.register.ensures.same.1;
      must_start_anew = c.register.ensures.same.2;
      hot = λ n. refl;
    })

pub returns-clause-stands : goal.returns-clause-stands
returns-clause-stands g c =
    let inside = c.self.inside in
    let before : Queue g.row.D-NameId.Denot g.row.D-NameId-Set.Denot =
    queue_of inside.tracked inside.names.items inside.hot_names inside.woken in
    let after : Queue g.row.D-NameId.Denot g.row.D-NameId-Set.Denot =
    queue_of c.register.new.self c.and-self-inside.result.items inside.hot_names inside.woken in
    let clause : RequiresClause = record {
      parent = c.args.parent;
      requirement = c.args.requirement;
      condition = c.args.condition;
      clause_id = c.args.clause_id;
    } in
    λ universe lists has s. (let refs = references universe lists c.args.disjunctions.now in
    stands_registered g.D.NameId.Set.IdSet.has before after clause c.has_hot_name-is_hot.result
    c.condition_of-literals.result.now c.args.names.now c.self.invariant.0 c.in_ok-register.ensures.ok refl
    refs (subst (StandsOn refs) (sym c.self.view_is) s)
    (registered_whole clause c.has_hot_name-is_hot.result c.condition_of-literals.result.now
    before.inside after.inside c.in_ok-register.ensures.ok)
    (ap (λ t. t.items) c.register.ensures.same.1) c.register.ensures.same.2 c.condition_of-literals.ensures
    (record { lists = has; disjunction = c.requires }))

pub returns-in_err-register-clause-walks : goal.returns-in_err-register-clause-walks
returns-in_err-register-clause-walks g c = λ r. c.register.ensures.owes.walks r ∙
    ap (λ (q : Queue g.row.D-NameId.Denot g.row.D-NameId-Set.Denot). walks q r) c.self.view_is

pub returns-in_err-register-clause-owed : goal.returns-in_err-register-clause-owed
returns-in_err-register-clause-owed g c = λ r. subst (λ (q : Queue g.row.D-NameId.Denot g.row.D-NameId-Set.Denot).
    (owed_in c.register.new.self.requirements r ≡ owed q r) ⊎
    ((r ≡ c.args.requirement) × (owed q r ≡ 0) × (owed_in c.register.new.self.requirements r ≡ 1)))
    c.self.view_is (c.register.ensures.owes.owed r)

pub returns-clause-walks : goal.returns-clause-walks
returns-clause-walks g c = λ r. c.register.ensures.owes.walks r ∙
    ap (λ (q : Queue g.row.D-NameId.Denot g.row.D-NameId-Set.Denot). walks q r) c.self.view_is

pub returns-clause-owed : goal.returns-clause-owed
returns-clause-owed g c = λ r. subst (λ (q : Queue g.row.D-NameId.Denot g.row.D-NameId-Set.Denot).
    (owed_in c.register.new.self.requirements r ≡ owed q r) ⊎
    ((r ≡ c.args.requirement) × (owed q r ≡ 0) × (owed_in c.register.new.self.requirements r ≡ 1)))
    c.self.view_is (c.register.ensures.owes.owed r)

pub returns-in_err-enter-clause-walks : goal.returns-in_err-enter-clause-walks
returns-in_err-enter-clause-walks g c = grind (arith, common_steps)

pub register-requires-clause-order : goal.register-requires-clause-order
register-requires-clause-order g c = grind (arith, common_steps)

pub register-requires-clause-few : goal.register-requires-clause-few
register-requires-clause-few g c = grind (arith, common_steps)
