use Rattle.std.proofs.Common.{◌≡◌, ◌∙◌, sym, subst, true}
use Rattle.resolvo_store.proofs.Words.{added, contents, HasMarks, list_all, nat_lt, variable_of}
use Rattle.resolvo_store.specs.Store.{Provider, gathered}
use Rattle.resolvo_store.proofs.CallerLaws.{store_in}
use Rattle.resolvo_store.proofs.AddingLemmas.{first_of_learnt}
use Rattle.resolvo_store.proofs.LearningLemmas.{step_learnt, not_empty}
use Rattle.resolvo_store.proofs.InvariantLemmas.{after_learnt}
use Rattle.resolvo_store.proofs.PartOutcomes.{with_list}
use Rattle.resolvo_store.proofs.MarkedLaws.{marks_more, learnt_or_same}
use Rattle.resolvo_store.proofs.store.ClauseStore.learnt.Given.{Over}
use Rattle.resolvo_store.proofs.store.ClauseStore.learnt.Goals as goal

-- the provider's functions
abbrev given : (g : Over) → g.row.D.Denot → Provider g.row.D-NameId.Denot g.row.D-SolvableId.Denot
given g = gathered g.D.NameId.PartialEq.eq g.D.SolvableId.PartialEq.eq g.D.NameId.Slots.IdMap.is_too_large
    g.D.SolvableId.Slots.IdMap.is_too_large g.D.SolvableId.Set.IdSet.is_too_large g.D.NameId.SolverId.are_many
    g.D.Interner.universe g.D.DependencyProvider.answers

pub learn_clause-answer-requires : goal.learn_clause-answer-requires
learn_clause-answer-requires g c = not_empty c.args.literals.now (sym c.is_bad_learnt.ensures
    ∙ c.if-is_bad_learnt.false)

pub invariant_of-self : goal.invariant_of-self
invariant_of-self g c =
    let known = subst (λ n. list_all (λ l. nat_lt (variable_of l) n) c.args.literals.now ≡ true)
    c.count.ensures.value (sym c.knows_literals.ensures ∙ c.if-not-knows_literals.false) in
    let call = c.learn_clause-answer in
    let first = c.len-first.ensures.value ∙ sym c.self.invariant.consistent.sound.watched in
    record {
      consistent = after_learnt c.self.invariant.consistent c.args.literals.now call.result known call.ensures.ok
          call.ensures.err;
      counted = c.self.invariant.counted;
      marked = subst (HasMarks (with_list (store_in c.self.invariant.consistent.sound) (contents call.new.clauses)))
          (sym c.forget_false_from.ensures)
          (marks_more (store_in c.self.invariant.consistent.sound) c.self.inside.marks c.self.invariant.marked
          (contents call.new.clauses) c.len-first.result first
          (learnt_or_same (contents c.self.inside.clauses) c.args.literals.now call.result call.ensures.ok
          call.ensures.err));
    }

pub returns-clause-step : goal.returns-clause-step
returns-clause-step g c =
    let known = subst (λ n. list_all (λ l. nat_lt (variable_of l) n) c.args.literals.now ≡ true)
    c.count.ensures.value (sym c.knows_literals.ensures ∙ c.if-not-knows_literals.false) in
    step_learnt (given g) g.D.NameId.Scores.IdMap.value_at added c.args.literals.now c.learn_clause-answer.result
    (contents c.learn_clause-answer.new.clauses) c.self.view_is
    (first_of_learnt (store_in c.self.invariant.consistent.sound) c.args.literals.now known
    (sym c.is_bad_learnt.ensures ∙ c.if-is_bad_learnt.false))
    c.learn_clause-answer.ensures.added c.learn_clause-answer.ensures.ok c.learn_clause-answer.ensures.err
    c.learn_clause-answer.ensures.refused c.learn_clause-answer.ensures.ids_out
