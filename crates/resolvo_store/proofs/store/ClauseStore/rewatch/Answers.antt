use Rattle.std.proofs.Common.{◌∙◌, refl, sym, subst, ap, []}
use Rattle.std.specs.Prelude.{option_map, slice_get}
use Rattle.resolvo_store.proofs.Words.{BadWatch, Clauses, contents, Done, done, HasMarks, is_literal_in, literals_of}
use Rattle.resolvo_store.proofs.Words.{Refused, Rewatch, Step, store_of, StoredLiterals, StoreState, unwrap_or}
use Rattle.resolvo_store.specs.Store.{Provider, gathered}
use Rattle.resolvo_store.proofs.AddingLemmas.{first_of_rewatch, step_foreseen, without_literal, step_rewatched}
use Rattle.resolvo_store.proofs.AddingLemmas.{step_unmoved, err_replied}
use Rattle.resolvo_store.proofs.CallerLaws.{store_in}
use Rattle.resolvo_store.proofs.InvariantLemmas.{after_rewatch}
use Rattle.resolvo_store.proofs.PartOutcomes.{with_list}
use Rattle.resolvo_store.proofs.ListLemmas.{literals-kept}
use Rattle.resolvo_store.proofs.MarkedLaws.{marks_rewatched}
use Rattle.resolvo_store.proofs.store.ClauseStore.rewatch.Given.{Over}
use Rattle.resolvo_store.proofs.store.ClauseStore.rewatch.Goals as goal

-- the provider's functions
abbrev given : (g : Over) → g.row.D.Denot → Provider g.row.D-NameId.Denot g.row.D-SolvableId.Denot
given g = gathered g.D.NameId.PartialEq.eq g.D.SolvableId.PartialEq.eq g.D.NameId.Slots.IdMap.is_too_large
    g.D.SolvableId.Slots.IdMap.is_too_large g.D.SolvableId.Set.IdSet.is_too_large g.D.NameId.SolverId.are_many
    g.D.Interner.universe g.D.DependencyProvider.answers

pub invariant_of-self : goal.invariant_of-self
invariant_of-self g c =
    let inside = c.self.inside in
    let own = inside.clauses.learnt in
    let same = ap (λ (k : StoredLiterals). record k { learnt = own })
    (literals-kept [] [] inside.loaded inside.disjunctions refl) in
    let has = ap (λ (k : StoredLiterals). is_literal_in c.args.to
    (unwrap_or (option_map (literals_of k) (slice_get inside.clauses.clauses c.args.clause)) [])) (sym same)
    ∙ sym c.has_literal.ensures ∙ c.if-not-has_literal.false in
    record {
      consistent = after_rewatch c.self.invariant.consistent c.args.clause c.args.from c.args.to c.rewatch.result has
          c.rewatch.ensures.can c.rewatch.ensures.ok c.rewatch.ensures.err;
      counted = c.self.invariant.counted;
      marked = subst (λ (cs : Clauses g.row.D-NameId.Denot). HasMarks
          (with_list (store_in c.self.invariant.consistent.sound) cs) inside.marks)
          (sym c.in_err-rewatch.ensures.err) c.self.invariant.marked;
    }

pub invariant_of-self-2 : goal.invariant_of-self-2
invariant_of-self-2 g c =
    let inside = c.self.inside in
    let own = inside.clauses.learnt in
    let same = ap (λ (k : StoredLiterals). record k { learnt = own })
    (literals-kept [] [] inside.loaded inside.disjunctions refl) in
    let has = ap (λ (k : StoredLiterals). is_literal_in c.args.to
    (unwrap_or (option_map (literals_of k) (slice_get inside.clauses.clauses c.args.clause)) [])) (sym same)
    ∙ sym c.has_literal.ensures ∙ c.if-not-has_literal.false in
    record {
      consistent = after_rewatch c.self.invariant.consistent c.args.clause c.args.from c.args.to c.rewatch.result has
          c.rewatch.ensures.can c.rewatch.ensures.ok c.rewatch.ensures.err;
      counted = c.self.invariant.counted;
      marked = subst (HasMarks (with_list (store_in c.self.invariant.consistent.sound)
          (contents c.rewatch.new.self))) (sym c.forget_false.ensures)
          (marks_rewatched (store_in c.self.invariant.consistent.sound) c.self.inside.marks c.self.invariant.marked
          c.args.clause c.args.from c.args.to c.in_ok-rewatch.ensures.can c.in_ok-rewatch.ensures.ok);
    }

pub returns-then-not-has_literal-clause-step : goal.returns-then-not-has_literal-clause-step
returns-then-not-has_literal-clause-step g c =
    let inside = c.self.inside in
    let own = inside.clauses.learnt in
    let st = store_in c.self.invariant.consistent.sound in
    let same = ap (λ (k : StoredLiterals). record k { learnt = own })
    (literals-kept [] [] inside.loaded inside.disjunctions refl) in
    let none = ap (λ (k : StoredLiterals). is_literal_in c.args.to
    (unwrap_or (option_map (literals_of k) (slice_get inside.clauses.clauses c.args.clause)) [])) (sym same)
    ∙ sym c.has_literal.ensures ∙ c.if-not-has_literal.true in
    subst (λ (k : StoreState g.row.D.Denot g.row.D-NameId.Denot g.row.D-SolvableId.Denot
    g.row.D-NameId-Scores.Denot). let now = store_of (given g) g.D.NameId.Scores.IdMap.value_at k in
    Step now (Rewatch c.args.clause c.args.from c.args.to) (Refused BadWatch) now) c.self.view_is
    (step_foreseen st (Rewatch c.args.clause c.args.from c.args.to) BadWatch
    (without_literal st c.args.clause c.args.from c.args.to (sym c.knows_watches.ensures
    ∙ c.if-not-knows_watches.false) none))

pub returns-in_err-rewatch-clause-step : goal.returns-in_err-rewatch-clause-step
returns-in_err-rewatch-clause-step g c =
    let inside = c.self.inside in
    let own = inside.clauses.learnt in
    let same = ap (λ (k : StoredLiterals). record k { learnt = own })
    (literals-kept [] [] inside.loaded inside.disjunctions refl) in
    let has = ap (λ (k : StoredLiterals). is_literal_in c.args.to
    (unwrap_or (option_map (literals_of k) (slice_get inside.clauses.clauses c.args.clause)) [])) (sym same)
    ∙ sym c.has_literal.ensures ∙ c.if-not-has_literal.false in
    let st = store_in c.self.invariant.consistent.sound in
    let first = first_of_rewatch st c.args.clause c.args.from c.args.to (sym c.knows_watches.ensures
    ∙ c.if-not-knows_watches.false) has in
    let made = with_list st (contents c.rewatch.new.self) in
    let e = c.in_err-rewatch.field-0.0 in
    let left = ap (λ (cs : Clauses g.row.D-NameId.Denot). with_list st cs) c.in_err-rewatch.ensures.err in
    err_replied done (λ reply. Step (store_of (given g) g.D.NameId.Scores.IdMap.value_at c.args.self.now)
    (Rewatch c.args.clause c.args.from c.args.to) reply made) c.from_residual.result e c.from_residual.ensures.1
    (subst (λ (k : StoreState g.row.D.Denot g.row.D-NameId.Denot g.row.D-SolvableId.Denot
    g.row.D-NameId-Scores.Denot). Step (store_of (given g) g.D.NameId.Scores.IdMap.value_at k)
    (Rewatch c.args.clause c.args.from c.args.to) (Refused e) made) c.self.view_is
    (step_unmoved st c.args.clause c.args.from c.args.to _ e first c.in_err-rewatch.ensures.refused left))

pub returns-clause-step : goal.returns-clause-step
returns-clause-step g c =
    let inside = c.self.inside in
    let own = inside.clauses.learnt in
    let same = ap (λ (k : StoredLiterals). record k { learnt = own })
    (literals-kept [] [] inside.loaded inside.disjunctions refl) in
    let has = ap (λ (k : StoredLiterals). is_literal_in c.args.to
    (unwrap_or (option_map (literals_of k) (slice_get inside.clauses.clauses c.args.clause)) [])) (sym same)
    ∙ sym c.has_literal.ensures ∙ c.if-not-has_literal.false in
    let st = store_in c.self.invariant.consistent.sound in
    let first = first_of_rewatch st c.args.clause c.args.from c.args.to (sym c.knows_watches.ensures
    ∙ c.if-not-knows_watches.false) has in
    let made = with_list st (contents c.rewatch.new.self) in
    let moved = ap (λ (cs : Clauses g.row.D-NameId.Denot). with_list st cs) c.in_ok-rewatch.ensures.ok in
    subst (λ (k : StoreState g.row.D.Denot g.row.D-NameId.Denot g.row.D-SolvableId.Denot
    g.row.D-NameId-Scores.Denot). Step (store_of (given g) g.D.NameId.Scores.IdMap.value_at k)
    (Rewatch c.args.clause c.args.from c.args.to) Done made) c.self.view_is
    (step_rewatched st c.args.clause c.args.from c.args.to _ first c.in_ok-rewatch.ensures.can moved)
