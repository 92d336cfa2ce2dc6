-- What the list of clauses leaves where it is asked to saturate makes a step, and keeps the store in order. N are the
-- names,
-- S the solvables.
use Rattle.std.proofs.Common.{◌≡◌, ℕ, ◌<◌, ◌≤◌, ◌^◌, true, not, List, [], ◌∷◌, ◌++◌, length, Option, None, Some}
use Rattle.std.proofs.Common.{Result, Ok, Err, sym, subst, ap, ◌∙◌}
use Rattle.std.specs.Prelude.{Bool}
use Rattle.clauses.specs.declared.disjunction.Disjunction.{Disjunction}
use Rattle.resolvo_store.proofs.Words.{AreImplied, AreSettled, Cache, clause_literals, Clauses, conflict, Entry}
use Rattle.resolvo_store.proofs.Words.{HasImplied, IfErr, IfOk, is_level, IsClauseList, IsConflict, IsConsistent}
use Rattle.resolvo_store.proofs.Words.{IsRearranged, IsSaturated, IsSound, LevelOutOfRange, Lit, MatchOption}
use Rattle.resolvo_store.proofs.Words.{OutOfMemory, Queue, Refused, replied, Reply, Requirement, Saturate, Saturates}
use Rattle.resolvo_store.proofs.Words.{Step, Store, StoreError, Trail, val, Vec}
use Rattle.resolvo_store.specs.Store.{watched_by}
use Rattle.resolvo_store.proofs.AddingLemmas.{first_of}
use Rattle.resolvo_store.proofs.PartOutcomes.{with_list}
use Rattle.resolvo_store.proofs.SaturatedLaws.{IsSound-saturated}
use Rattle.resolvo_store.proofs.SyncedLemmas.{in_step-implied}
use Rattle.watch_map.specs.ClauseList as in_list

module _ {N S : Type 0} (st : Store N S) where
  -- and at one that is
  pub step_saturates : (level : ℕ) (reply : Reply) (after : Store N S) → is_level level ≡ true →
      Saturates level st reply after → Step st (Saturate level) reply after
  step_saturates level reply after good is =
      subst (λ b. MatchOption (first_of ((not b, LevelOutOfRange) ∷ [])) (Saturates level st reply after)
      (λ e. (reply ≡ Refused e) × (after ≡ st))) (sym good) is

  -- the store with another list of clauses and another trail
  abbrev pub with_forced : Clauses N → Trail → Store N S
  with_forced cs t = record (with_list st cs) { trail = t.entries; place = t.place }

  -- what the list left, where these are the literals of its clauses
  pub record HasLeft (literals : ℕ → List Lit) (level : ℕ) (before after : Trail) (cs : Clauses N) : Type 0 where
    pub literals_are : literals ≡ clause_literals st
    pub clauses : cs.clauses ≡ st.clauses
    pub learnt : cs.learnt ≡ st.learnt
    pub rearranged : IsRearranged literals (watched_by st) (in_list.watched_by cs)
    pub is_list : IsClauseList cs
    pub implied : HasImplied literals level before after

  module _ (sound : IsSound st) (literals : ℕ → List Lit) (level : ℕ) (before after : Trail) (cs : Clauses N)
      (left : HasLeft literals level before after cs)
      (entries : before.entries ≡ st.trail) (place : before.place ≡ st.place) where
    new_parts : (added : List Entry) → after.entries ≡ st.trail ++ added
        → with_forced cs after ≡ record st { trail = st.trail ++ added; watches = cs.watches; watchers = cs.watchers }
    new_parts added longer =
        ap (λ x. record st {
          clauses = x;
          learnt = cs.learnt;
          watches = cs.watches;
          watchers = cs.watchers;
          trail =
              after.entries;
          place = after.place;
        }) left.clauses
        ∙ ap (λ x. record st {
          learnt = x;
          watches = cs.watches;
          watchers = cs.watchers;
          trail =
              after.entries;
          place = after.place;
        }) left.learnt
        ∙ ap (λ x. record st { watches = cs.watches; watchers = cs.watchers; trail = x; place = after.place }) longer
        ∙ ap (λ x. record st { watches = cs.watches; watchers = cs.watchers; trail = st.trail ++ added; place = x })
        (left.implied.place ∙ place)

    -- is the store saturated so far
    pub saturated : IsSaturated level st (with_forced cs after)
    saturated = record {
      added = left.implied.added;
      implied = subst (λ f. AreImplied f level st.trail left.implied.added) left.literals_are
          (subst (λ es. AreImplied literals level es left.implied.added) entries left.implied.implied);
      watches = cs.watches;
      watchers = cs.watchers;
      rest = new_parts left.implied.added (left.implied.entries ∙ ap (λ es. es ++ left.implied.added) entries);
      watched = left.is_list.paired ∙ ap length left.clauses ∙ sym sound.watched;
      rearranged = subst (λ f. IsRearranged f (watched_by st) (in_list.watched_by cs)) left.literals_are
          left.rearranged;
      exact = left.is_list.exact;
    }

    -- what is true of the clauses' literals and their number is true of the new store's
    pub still : (P : (ℕ → List Lit) → ℕ → Type 0) → P literals (length st.clauses) →
        P (clause_literals (with_forced cs after)) (length cs.clauses)
    still P h =
        subst (λ x. P (clause_literals (record st { clauses = x; learnt = cs.learnt })) (length x)) (sym left.clauses)
        (subst (λ x. P (clause_literals (record st { learnt = x })) (length st.clauses)) (sym left.learnt)
        (subst (λ f. P f (length st.clauses)) left.literals_are h))

    -- what the list found
    abbrev pub Finds : Option ℕ → Type 0
    Finds found = MatchOption found (AreSettled literals (length st.clauses) (val after.entries))
        (IsConflict literals (length st.clauses) (val after.entries))

    saturates : (found : Option ℕ) → Finds found →
        Saturates level st (replied conflict (Ok found)) (with_forced cs after)
    saturates None settled = (saturated, still (λ f n. AreSettled f n (val after.entries)) settled)
    saturates (Some c) conflict = (saturated, still (λ f n. IsConflict f n (val after.entries) c) conflict)

    -- and with what it found, or its refusal, a step
    pub step_found : (found : Result (Option ℕ) StoreError) → is_level level ≡ true → IfOk found Finds →
        IfErr found (λ e. e ≡ OutOfMemory)
        → Step st (Saturate level) (replied conflict found) (with_forced cs after)
    step_found (Ok found) good ok err =
        step_saturates level (replied conflict (Ok found)) (with_forced cs after) good (saturates found ok)
    step_found (Err e) good ok err =
        subst (λ x. Step st (Saturate level) (Refused x) (with_forced cs after)) (sym err)
        (step_saturates level (Refused OutOfMemory) (with_forced cs after) good saturated)

module _ {D N S A H Q : Type 0} {has : Q → N → Bool} {st : Store N S} {loaded : List (Requirement × Vec (Vec ℕ A) A)}
    {disjunctions : List (Disjunction A)}
    {cache : Cache D N S A H} {queue : Queue N Q} {trail : Trail}
    (is : IsConsistent has st loaded disjunctions cache queue trail) where
  -- a store that keeps what it should still does
  pub after_saturated : {literals : ℕ → List Lit} (level : ℕ) {after : Trail} {cs : Clauses N} → (1 ≤ level)
      × (level < 2 ^ 31) → HasLeft st literals level trail after cs
      → trail.entries ≡ st.trail → trail.place ≡ st.place →
      IsConsistent has (with_forced st cs after) loaded disjunctions cache queue after
  after_saturated {literals = literals} level {after = after} {cs = cs} in_range left entries place = record {
    few = is.few;
    known = is.known;
    through = is.through;
    sound = IsSound-saturated level st (with_forced st cs after) in_range is.sound
        (saturated st is.sound literals level trail after cs left entries place);
    may_decide = record {
      in_step = in_step-implied trail after left.implied is.may_decide.in_step;
      stands = is.may_decide.stands;
      named = is.may_decide.named;
      hot = is.may_decide.hot;
    };
  }
