use Rattle.std.proofs.lemmas.Grind.{common_steps}
use Rattle.std.proofs.Common.{◌≡◌, ◌∙◌, ◌-◌, ◌^◌, refl, sym, subst, ap, length, true, false, arith, []}
use Rattle.std.specs.Prelude.{ℕ, Option, ◌⊎◌, map, option_map, ◌&&◌}
use Rattle.std.proofs.lemmas.Bool.Decides.{nat_tests}
use Rattle.resolvo_queue.specs.Queue.{IsRegistered}
use Rattle.resolvo_store.proofs.Words.{added, contents, HasMarks, is_literal_in, is_some, knows_requirement}
use Rattle.resolvo_store.proofs.Words.{literals_watched, lookup, nat_le, nat_lt, Neg, NegatesParent, NotLoaded, OnOk}
use Rattle.resolvo_store.proofs.Words.{option_map_or, owed, OwesFirst, queue_state_of, references, Refused, Requirement}
use Rattle.resolvo_store.proofs.Words.{Requires, RequiresClause, same_requirement, sets_of, StandsOn, Step, store_of}
use Rattle.resolvo_store.proofs.Words.{stored_of, StoreState, TooManyClauses, UnknownId, unwrap_or, values}
use Rattle.resolvo_store.specs.Store.{Provider, gathered}
use Rattle.resolvo_store.proofs.AddingLemmas.{as_asked, step_foreseen, first_of_requires}
use Rattle.resolvo_store.proofs.AddingLemmas.{first_of_unknown, first_of_unloaded, first_of_negating, first_of_full}
use Rattle.resolvo_store.proofs.AddingLemmas.{all_known_is, each_known}
use Rattle.resolvo_store.proofs.LearningLemmas.{step_registered}
use Rattle.resolvo_store.proofs.AskingLemmas.{condition_seen}
use Rattle.resolvo_store.proofs.CallerLaws.{store_in}
use Rattle.resolvo_store.proofs.CountedLemmas.{counted_registered}
use Rattle.resolvo_store.proofs.InvariantLemmas.{after_registered}
use Rattle.resolvo_store.proofs.PartOutcomes.{on_ok, on_err, with_list}
use Rattle.resolvo_store.proofs.ListLemmas.{items_of, length_disjunctions, lookup-some}
use Rattle.resolvo_store.proofs.MarkedLaws.{marks_more, added_or_same}
use Rattle.resolvo_store.proofs.WatchLaws.{two_if_first}
use Rattle.resolvo_store.proofs.WalkLemmas.{owes_nothing, owes_registered}
use Rattle.resolvo_store.proofs.store.ClauseStore.requires_clause.Given.{Over}
use Rattle.resolvo_store.proofs.store.ClauseStore.requires_clause.Goals as goal

-- the provider's functions
abbrev given : (g : Over) → g.row.D.Denot → Provider g.row.D-NameId.Denot g.row.D-SolvableId.Denot
given g = gathered g.D.NameId.PartialEq.eq g.D.SolvableId.PartialEq.eq g.D.NameId.Slots.IdMap.is_too_large
    g.D.SolvableId.Slots.IdMap.is_too_large g.D.SolvableId.Set.IdSet.is_too_large g.D.NameId.SolverId.are_many
    g.D.Interner.universe g.D.DependencyProvider.answers

pub returns-then-not-knows_required-clause-step : goal.returns-then-not-knows_required-clause-step
returns-then-not-knows_required-clause-step g c =
    let r = c.args.requirement in
    let d = c.args.condition in
    let parent = c.args.parent in
    let inside = c.self.inside in
    let st = store_in c.self.invariant.consistent.sound in
    let known_is = subst (λ p. c.knows_required.result
    ≡ (nat_lt parent (length inside.variables) && (knows_requirement (g.D.Interner.universe p) r && option_map_or
    (λ x. nat_lt x (length inside.disjunctions)) d true))) c.provider-provider.ensures.provider
    c.knows_required.ensures
    ∙ all_known_is st parent r d (length inside.disjunctions) (sym (length_disjunctions inside.disjunctions)) in
    subst (λ (kept : StoreState g.row.D.Denot g.row.D-NameId.Denot g.row.D-SolvableId.Denot
    g.row.D-NameId-Scores.Denot). let now = store_of (given g) g.D.NameId.Scores.IdMap.value_at kept in
    Step now (Requires parent r d) (Refused UnknownId) now) c.self.view_is
    (step_foreseen st (Requires parent r d) UnknownId (first_of_unknown st parent r d (sym known_is
    ∙ c.if-not-knows_required.true)))

pub returns-then-negates-clause-step : goal.returns-then-negates-clause-step
returns-then-negates-clause-step g c =
    let r = c.args.requirement in
    let d = c.args.condition in
    let parent = c.args.parent in
    let inside = c.self.inside in
    let st = store_in c.self.invariant.consistent.sound in
    let known_is = subst (λ p. c.knows_required.result
    ≡ (nat_lt parent (length inside.variables) && (knows_requirement (g.D.Interner.universe p) r && option_map_or
    (λ x. nat_lt x (length inside.disjunctions)) d true))) c.provider-provider.ensures.provider
    c.knows_required.ensures
    ∙ all_known_is st parent r d (length inside.disjunctions) (sym (length_disjunctions inside.disjunctions)) in
    let known = sym known_is ∙ c.if-not-knows_required.false in
    let found = sym c.lists.ensures ∙ ap (option_map (λ l. items_of l.now)) c.in-Some.is in
    let loaded = ap is_some found in
    let k = stored_of st in
    let seen = condition_seen st.provider.universe inside.disjunctions k.learnt k.lists d in
    let apart = ap (is_literal_in (Neg parent)) (sym seen ∙ sym c.literals_of-literals.ensures)
    ∙ sym c.negates.ensures ∙ c.if-negates.true in
    subst (λ (kept : StoreState g.row.D.Denot g.row.D-NameId.Denot g.row.D-SolvableId.Denot
    g.row.D-NameId-Scores.Denot). let now = store_of (given g) g.D.NameId.Scores.IdMap.value_at kept in
    Step now (Requires parent r d) (Refused NegatesParent) now) c.self.view_is
    (step_foreseen st (Requires parent r d) NegatesParent (first_of_negating st parent r d known loaded apart))

pub returns-then-is_full-clause-step : goal.returns-then-is_full-clause-step
returns-then-is_full-clause-step g c =
    let r = c.args.requirement in
    let d = c.args.condition in
    let parent = c.args.parent in
    let inside = c.self.inside in
    let st = store_in c.self.invariant.consistent.sound in
    let known_is = subst (λ p. c.knows_required.result
    ≡ (nat_lt parent (length inside.variables) && (knows_requirement (g.D.Interner.universe p) r && option_map_or
    (λ x. nat_lt x (length inside.disjunctions)) d true))) c.provider-provider.ensures.provider
    c.knows_required.ensures
    ∙ all_known_is st parent r d (length inside.disjunctions) (sym (length_disjunctions inside.disjunctions)) in
    let known = sym known_is ∙ c.if-not-knows_required.false in
    let found = sym c.lists.ensures ∙ ap (option_map (λ l. items_of l.now)) c.in-Some.is in
    let loaded = ap is_some found in
    let k = stored_of st in
    let seen = condition_seen st.provider.universe inside.disjunctions k.learnt k.lists d in
    let apart = ap (is_literal_in (Neg parent)) (sym seen ∙ sym c.literals_of-literals.ensures)
    ∙ sym c.negates.ensures ∙ c.if-negates.false in
    let full : nat_le (2 ^ 32 - 1) (length inside.queue.clauses) ≡ true =
    (let iff = c.is_full.ensures in let test = c.if-is_full.true in grind (arith, nat_tests, iff, test)) in
    subst (λ (kept : StoreState g.row.D.Denot g.row.D-NameId.Denot g.row.D-SolvableId.Denot
    g.row.D-NameId-Scores.Denot). let now = store_of (given g) g.D.NameId.Scores.IdMap.value_at kept in
    Step now (Requires parent r d) (Refused TooManyClauses) now) c.self.view_is
    (step_foreseen st (Requires parent r d) TooManyClauses (first_of_full st parent r d known loaded apart full))

pub register-answer-requires-clause-two : goal.register-answer-requires-clause-two
register-answer-requires-clause-two g c =
    let d = c.args.condition in
    let st = store_in c.self.invariant.consistent.sound in
    let k = stored_of st in
    let made = c.required_by-required in
    let seen = condition_seen st.provider.universe c.self.inside.disjunctions k.learnt k.lists d in
    let found = sym c.lists.ensures ∙ ap (option_map (λ l. items_of l.now)) c.in-Some.is in
    two_if_first k (values st) made.result.clause (made.ensures.kept k (sym seen
    ∙ sym c.literals_of-literals.ensures) (ap (λ o. unwrap_or o []) found
    ∙ ap (map (λ l. l.items)) (sym c.as_slice.ensures.value))).0

pub register-answer-requires-clause-loaded : goal.register-answer-requires-clause-loaded
register-answer-requires-clause-loaded g c =
    subst (λ r. is_some (lookup (same_requirement r) c.self.inside.loaded) ≡ true)
    (sym c.required_by-required.ensures.requirement)
    (lookup-some c.self.inside.loaded c.args.requirement (ap is_some (sym c.lists.ensures
    ∙ ap (option_map (λ l. items_of l.now)) c.in-Some.is)))

pub invariant_of-self : goal.invariant_of-self
invariant_of-self g c =
    let r = c.args.requirement in
    let d = c.args.condition in
    let parent = c.args.parent in
    let inside = c.self.inside in
    let st = store_in c.self.invariant.consistent.sound in
    let known_is = subst (λ p. c.knows_required.result
    ≡ (nat_lt parent (length inside.variables) && (knows_requirement (g.D.Interner.universe p) r && option_map_or
    (λ x. nat_lt x (length inside.disjunctions)) d true))) c.provider-provider.ensures.provider
    c.knows_required.ensures
    ∙ all_known_is st parent r d (length inside.disjunctions) (sym (length_disjunctions inside.disjunctions)) in
    let known = sym known_is ∙ c.if-not-knows_required.false in
    let found = sym c.lists.ensures ∙ ap (option_map (λ l. items_of l.now)) c.in-Some.is in
    let loaded = ap is_some found in
    let k = stored_of st in
    let seen = condition_seen st.provider.universe inside.disjunctions k.learnt k.lists d in
    let made = c.required_by-required in
    let first = made.ensures.kept k (sym seen ∙ sym c.literals_of-literals.ensures) (ap (λ o. unwrap_or o []) found
    ∙ ap (map (λ l. l.items)) (sym c.as_slice.ensures.value)) in
    let each = each_known st parent r d known in
    let stands = subst (λ p. StandsOn (references (g.D.Interner.universe p) inside.loaded inside.disjunctions)
    c.register-answer.new.queue) c.provider-provider.ensures.provider
    (c.register-answer.ensures.stands
    (subst (λ p. StandsOn (references (g.D.Interner.universe p) inside.loaded inside.disjunctions) inside.queue)
    (sym c.provider-provider.ensures.provider) c.self.invariant.consistent.may_decide.stands)) in
    let one : RequiresClause = record {
      parent = parent;
      requirement = r;
      condition = d;
      clause_id =
          length inside.clauses.clauses;
    } in
    let registered = subst (λ p. let u = g.D.Interner.universe p in
    OnOk c.register-answer.result (IsRegistered g.D.NameId.Set.IdSet.has one
    (map u.set_name (sets_of u r)) inside.queue c.register-answer.new.queue)) c.provider-provider.ensures.provider
    (as_asked (λ (p : ℕ) (q : Requirement) (x : Option ℕ). let u =
    g.D.Interner.universe c.provider-provider.result.now in
    let queue_state : RequiresClause = record {
      parent = p;
      requirement = q;
      condition = x;
      clause_id =
          length inside.clauses.clauses;
    } in
    OnOk c.register-answer.result (IsRegistered g.D.NameId.Set.IdSet.has queue_state
    (map u.set_name (sets_of u q)) inside.queue c.register-answer.new.queue))
    c.required_by-required.ensures.parent c.required_by-required.ensures.requirement
    c.required_by-required.ensures.condition c.register-answer.ensures.registered) in
    let call = c.register-answer in
    let before = c.len-first.ensures.value ∙ sym c.self.invariant.consistent.sound.watched in
    record {
      consistent = after_registered c.self.invariant.consistent parent d r made.result.clause
          (literals_watched made.result.watches) call.result each.0 each.1 loaded each.2 first.0 made.ensures.clause
          refl stands
          call.ensures.listed registered call.ensures.unadded call.ensures.unregistered;
      counted = counted_registered one call.result (on_ok call.result (λ more. more.clauses) registered)
          (on_err call.result (λ same. same.clauses.clauses) call.ensures.unregistered) c.self.invariant.counted;
      marked = subst (HasMarks (with_list (store_in c.self.invariant.consistent.sound) (contents call.new.clauses)))
          (sym c.forget_false_from.ensures)
          (marks_more (store_in c.self.invariant.consistent.sound) c.self.inside.marks c.self.invariant.marked
          (contents call.new.clauses) c.len-first.result before
          (added_or_same (contents c.self.inside.clauses) made.result.clause
          (literals_watched made.result.watches) call.result call.ensures.listed call.ensures.unadded));
    }

pub returns-clause-step : goal.returns-clause-step
returns-clause-step g c =
    let r = c.args.requirement in
    let d = c.args.condition in
    let parent = c.args.parent in
    let inside = c.self.inside in
    let st = store_in c.self.invariant.consistent.sound in
    let known_is = subst (λ p. c.knows_required.result
    ≡ (nat_lt parent (length inside.variables) && (knows_requirement (g.D.Interner.universe p) r && option_map_or
    (λ x. nat_lt x (length inside.disjunctions)) d true))) c.provider-provider.ensures.provider
    c.knows_required.ensures
    ∙ all_known_is st parent r d (length inside.disjunctions) (sym (length_disjunctions inside.disjunctions)) in
    let known = sym known_is ∙ c.if-not-knows_required.false in
    let found = sym c.lists.ensures ∙ ap (option_map (λ l. items_of l.now)) c.in-Some.is in
    let loaded = ap is_some found in
    let k = stored_of st in
    let seen = condition_seen st.provider.universe inside.disjunctions k.learnt k.lists d in
    let made = c.required_by-required in
    let first = made.ensures.kept k (sym seen ∙ sym c.literals_of-literals.ensures) (ap (λ o. unwrap_or o []) found
    ∙ ap (map (λ l. l.items)) (sym c.as_slice.ensures.value)) in
    let apart = ap (is_literal_in (Neg parent)) (sym seen ∙ sym c.literals_of-literals.ensures)
    ∙ sym c.negates.ensures ∙ c.if-negates.false in
    let room : nat_le (2 ^ 32 - 1) (length inside.queue.clauses) ≡ false =
    (let iff = c.is_full.ensures in let not_full = c.if-is_full.false in grind (arith, nat_tests, iff, not_full)) in
    step_registered (given g) g.D.NameId.Scores.IdMap.value_at added parent r d
    (literals_watched made.result.watches) made.result.is_conflict c.register-answer.result
    (contents c.register-answer.new.clauses) c.register-answer.new.queue.clauses
    c.self.view_is made.ensures.clause (first_of_requires st parent r d known loaded apart room) first.0 first.1
    c.register-answer.ensures.added c.register-answer.ensures.listed
    (on_ok c.register-answer.result (λ more. more.clauses) (as_asked
    (λ (p : ℕ) (q : Requirement) (x : Option ℕ). let u = g.D.Interner.universe c.provider-provider.result.now in
    let queue_state : RequiresClause = record {
      parent = p;
      requirement = q;
      condition = x;
      clause_id =
          length inside.clauses.clauses;
    } in
    OnOk c.register-answer.result (IsRegistered g.D.NameId.Set.IdSet.has queue_state
    (map u.set_name (sets_of u q)) inside.queue c.register-answer.new.queue))
    c.required_by-required.ensures.parent c.required_by-required.ensures.requirement
    c.required_by-required.ensures.condition c.register-answer.ensures.registered))
    c.register-answer.ensures.unadded
    (on_err c.register-answer.result (λ same. same.clauses.clauses) c.register-answer.ensures.unregistered)
    c.register-answer.ensures.refused c.register-answer.ensures.ids_out

pub returns-clause-provider : goal.returns-clause-provider
returns-clause-provider g c = grind (arith, common_steps)

pub returns-then-not-knows_required-clause-queue_state : goal.returns-then-not-knows_required-clause-queue_state
returns-then-not-knows_required-clause-queue_state g c = owes_nothing c.args.requirement c.args.self.now.queue_state

pub returns-then-negates-clause-queue_state : goal.returns-then-negates-clause-queue_state
returns-then-negates-clause-queue_state g c = owes_nothing c.args.requirement c.args.self.now.queue_state

pub returns-then-is_full-clause-queue_state : goal.returns-then-is_full-clause-queue_state
returns-then-is_full-clause-queue_state g c = owes_nothing c.args.requirement c.args.self.now.queue_state

pub returns-clause-queue_state : goal.returns-clause-queue_state
returns-clause-queue_state g c =
    let inside = c.self.inside in
    let one : RequiresClause = record {
      parent = c.args.parent;
      requirement = c.args.requirement;
      condition =
          c.args.condition;
      clause_id = length inside.clauses.clauses;
    } in
    subst (λ (k : StoreState g.row.D.Denot g.row.D-NameId.Denot g.row.D-SolvableId.Denot
    g.row.D-NameId-Scores.Denot). OwesFirst c.args.requirement k.queue_state
    (queue_state_of c.register-answer.new.queue inside.trail)) c.self.view_is
    (owes_registered inside.queue c.register-answer.new.queue inside.trail g.D.NameId.Set.IdSet.has
    c.register-answer.result one
    (map (g.D.Interner.universe c.provider-provider.result.now).set_name
    (sets_of (g.D.Interner.universe c.provider-provider.result.now) c.args.requirement))
    (as_asked (λ (p : ℕ) (q : Requirement) (x : Option ℕ). let u =
    g.D.Interner.universe c.provider-provider.result.now in
    let queue_state : RequiresClause = record {
      parent = p;
      requirement = q;
      condition = x;
      clause_id =
          length inside.clauses.clauses;
    } in
    OnOk c.register-answer.result (IsRegistered g.D.NameId.Set.IdSet.has queue_state
    (map u.set_name (sets_of u q)) inside.queue c.register-answer.new.queue))
    c.required_by-required.ensures.parent c.required_by-required.ensures.requirement
    c.required_by-required.ensures.condition c.register-answer.ensures.registered)
    c.register-answer.ensures.unregistered c.register-answer.ensures.walks
    (subst (λ q. (x : Requirement) → (owed c.register-answer.new.queue x ≡ owed inside.queue x)
    ⊎ ((x ≡ q) × (owed inside.queue x ≡ 0) × (owed c.register-answer.new.queue x ≡ 1)))
    c.required_by-required.ensures.requirement c.register-answer.ensures.owed))
