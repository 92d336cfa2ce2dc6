use Rattle.std.proofs.Common.{◌≡◌, ◌∙◌, true, sym, subst}
use Rattle.resolvo_store.proofs.Words.{added, contents, HasMarks, literals_watched, names_known, stored_of, values}
use Rattle.resolvo_store.specs.Store.{Provider, gathered}
use Rattle.resolvo_store.proofs.CallerLaws.{store_in}
use Rattle.resolvo_store.proofs.LearningLemmas.{step_added}
use Rattle.resolvo_store.proofs.InvariantLemmas.{after_direct}
use Rattle.resolvo_store.proofs.PartOutcomes.{with_list}
use Rattle.resolvo_store.proofs.MarkedLaws.{marks_more, added_or_same}
use Rattle.resolvo_store.proofs.WatchLaws.{two_if_first}
use Rattle.resolvo_store.proofs.store.ClauseStore.add.Given.{Over}
use Rattle.resolvo_store.proofs.store.ClauseStore.add.Goals as goal

-- the provider's functions
abbrev given : (g : Over) → g.row.D.Denot → Provider g.row.D-NameId.Denot g.row.D-SolvableId.Denot
given g = gathered g.D.NameId.PartialEq.eq g.D.SolvableId.PartialEq.eq g.D.NameId.Slots.IdMap.is_too_large
    g.D.SolvableId.Slots.IdMap.is_too_large g.D.SolvableId.Set.IdSet.is_too_large g.D.NameId.SolverId.are_many
    g.D.Interner.universe g.D.DependencyProvider.answers

pub add_clause-answer-requires : goal.add_clause-answer-requires
add_clause-answer-requires g c =
    let st = store_in c.self.invariant.consistent.sound in
    two_if_first (stored_of st) (values st) c.args.clause (c.first_watches-conflict.ensures.watches (stored_of st))

pub invariant_of-self : goal.invariant_of-self
invariant_of-self g c =
    let st = store_in c.self.invariant.consistent.sound in
    let made = c.first_watches-conflict in
    let known = subst (λ n. names_known (g.D.Interner.universe c.self.inside.cache.provider) n c.args.clause ≡ true)
    c.count.ensures.value
    (subst (λ p. names_known (g.D.Interner.universe p) c.count.result c.args.clause ≡ true)
    c.provider.ensures.provider (sym c.knows_named.ensures ∙ c.if-not-knows_named.false)) in
    let call = c.add_clause-answer in
    let first = c.len-first.ensures.value ∙ sym c.self.invariant.consistent.sound.watched in
    record {
      consistent = after_direct c.self.invariant.consistent c.args.clause
          (literals_watched made.result.0) call.result c.requires known
          (made.ensures.watches (stored_of st)) call.ensures.ok call.ensures.err;
      counted = c.self.invariant.counted;
      marked = subst (HasMarks (with_list (store_in c.self.invariant.consistent.sound) (contents call.new.clauses)))
          (sym c.forget_false_from.ensures)
          (marks_more (store_in c.self.invariant.consistent.sound) c.self.inside.marks c.self.invariant.marked
          (contents call.new.clauses) c.len-first.result first
          (added_or_same (contents c.self.inside.clauses) c.args.clause
          (literals_watched made.result.0) call.result call.ensures.ok call.ensures.err));
    }

pub returns-clause-step : goal.returns-clause-step
returns-clause-step g c =
    let st = store_in c.self.invariant.consistent.sound in
    let made = c.first_watches-conflict in
    let known = subst (λ n. names_known (g.D.Interner.universe c.self.inside.cache.provider) n c.args.clause ≡ true)
    c.count.ensures.value
    (subst (λ p. names_known (g.D.Interner.universe p) c.count.result c.args.clause ≡ true)
    c.provider.ensures.provider (sym c.knows_named.ensures ∙ c.if-not-knows_named.false)) in
    step_added (given g) g.D.NameId.Scores.IdMap.value_at added c.args.clause
    (literals_watched made.result.0) made.result.1 c.add_clause-answer.result
    (contents c.add_clause-answer.new.clauses) c.self.view_is
    c.requires known (made.ensures.watches (stored_of st)) (made.ensures.conflict (stored_of st))
    c.add_clause-answer.ensures.added c.add_clause-answer.ensures.ok c.add_clause-answer.ensures.err
    c.add_clause-answer.ensures.refused c.add_clause-answer.ensures.ids_out
