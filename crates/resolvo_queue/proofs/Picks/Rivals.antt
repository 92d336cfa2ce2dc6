-- A rival that is gone through after a look at the queue, whether at once or behind another one.
use Rattle.std.proofs.Common.{◌≡◌, ℕ, true, false, Some, slice_get, ap, sym, ◌∙◌, subst}
use Rattle.resolvo_queue.proofs.Words.{AreLocated, AreUpTo, CanDecideOn, clause_literals, ClauseIndex, ColdHasNoScore}
use Rattle.resolvo_queue.proofs.Words.{Grounds, Group, has_of, improved, ImprovedBy, is_after, IsBefore, IsOfClause}
use Rattle.resolvo_queue.proofs.Words.{Lists, Offer, offers_of, offers_on, Position, references, rest_picked, set_of}
use Rattle.resolvo_queue.proofs.Words.{TrackedClauses}
use Rattle.resolvo_queue.specs.References.{rows_in}
use Rattle.resolvo_queue.proofs.Picks.Decisions.{rival_step}
use Rattle.resolvo_queue.proofs.Picks.Groups.{of_both}
use Rattle.resolvo_queue.proofs.Picks.Steps.{of_clause, ready_by}

-- what a question and a reader with other lists give
abbrev by_lists : {N S A : Type 0} → Grounds N S A → Lists A → Grounds N S A
by_lists on lists = record {
  refs = references on.refs.universe lists on.refs.disjunctions;
  val = on.val;
  score = on.score;
}

module _ {N S A : Type 0} (on : Grounds N S A) {looked : TrackedClauses A} {index : ClauseIndex A}
    (asked : CanDecideOn on looked) (same : looked.index ≡ index) (group : Group) (p : Position)
    (there : has_of group (set_of looked.only_hot looked.queued) p ≡ true) where
  -- it is a clause's, as long as the clauses are the same
  pub rival_of : IsOfClause index.clauses.items p
  rival_of = subst (λ ix. IsOfClause ix.clauses.items p) same
      (of_clause asked looked.only_hot p (of_both group (set_of looked.only_hot looked.queued) p there).1)

  -- what is behind the cursor makes of the best what is behind the rival makes of the better one
  pub rival_passed : AreLocated index.clauses.items →
      ColdHasNoScore index.clauses.items (clause_literals on.refs) (rows_in on.refs) on.val on.score →
      (largest : ℕ) → AreUpTo largest on.score → (b : Offer) (cursor : Position) → IsBefore cursor p →
      ((r : Position) → has_of group (set_of looked.only_hot looked.queued) r ≡ true → IsBefore cursor r →
      is_after p r ≡ false) →
      (now : TrackedClauses A) → now.index ≡ index → {lists : Lists A} → lists ≡ on.refs.lists → (better : Offer) →
      ImprovedBy (by_lists on lists) now p b better →
      rest_picked index.clauses.items (offers_of group (offers_on on)) b cursor ≡
      rest_picked index.clauses.items (offers_of group (offers_on on)) better p
  rival_passed located cold largest up_to b cursor before least now kept listed better is =
      rival_step index.clauses.items (clause_literals on.refs) (rows_in on.refs) on.val on.score located group
      looked.requirements looked.queued (ready_by same asked) cold largest up_to looked.only_hot b cursor p there before
      least better (λ d s. is d (subst (λ ix. slice_get ix.clauses.items p.number ≡ Some d) (sym kept) s)
      ∙ ap (λ ls. improved b (offers_on (by_lists on ls) d)) listed)
