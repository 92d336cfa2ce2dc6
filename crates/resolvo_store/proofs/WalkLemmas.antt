-- What the calls on a store's queue walk and owe. N are the names, S the solvables.
use Rattle.std.proofs.Common.{◌≡◌, ℕ, ◌+◌, ◌≤◌, ◌<◌, ◌⊎◌, inl, Bool, false, List, length, drop, get_or, Result, Ok}
use Rattle.std.proofs.Common.{Err, refl, sym, subst, ap, ◌∙◌, arith}
use Rattle.std.specs.Prelude.{All, [], ◌++◌}
use Rattle.clauses.specs.declared.disjunction.Disjunction.{Disjunction}
use Rattle.resolvo_queue.specs.Queue.{IsRegistered}
use Rattle.resolvo_queue.proofs.Clauses.Callers.{walks_within}
use Rattle.resolvo_store.proofs.Words.{Cache, changed_from, changed_since, Decision, decisions_of, floor_taken}
use Rattle.resolvo_store.proofs.Words.{HasNoneOf, HasSynced, HasTrail, IsConsistent, IsUnchanged, IsWalkable}
use Rattle.resolvo_store.proofs.Words.{lists_of_loaded, lookup, OnErr, OnOk, owed, OwesFirst, Queue, queue_state_of}
use Rattle.resolvo_store.proofs.Words.{QueueState, References, references, Requirement, RequiresClause, rows, rows_in}
use Rattle.resolvo_store.proofs.Words.{rows_of, same_requirement, SameSync, SameValues, sets_of, StandsOn, Store}
use Rattle.resolvo_store.proofs.Words.{SyncsNothing, Trail, unwrap_or, variables_of, Vec, walks, WalksEachOnce}
use Rattle.resolvo_store.proofs.Words.{WalksNothing, WalksOnce}
use Rattle.resolvo_store.proofs.AskingLemmas.{can_walk}
use Rattle.resolvo_store.proofs.ListLemmas.{rows-kept}

-- what holds whatever the result holds of success
pub on_any : {T E P : Type 0} (result : Result T E) → P → OnOk result P
on_any (Ok x) p = p
on_any (Err e) p = tt

-- ---- where nothing is asked

pub told_nothing : (a : QueueState) → SyncsNothing a a
told_nothing a = record { trail = refl; must_start_anew = refl; floor = refl }

pub owes_nothing : (own : Requirement) (a : QueueState) → OwesFirst own a a
owes_nothing own a = record { walks = λ r. refl; owed = λ r. inl refl; in_sync = told_nothing a }

pub walks_no_more : (a : QueueState) → WalksNothing a a
walks_no_more a = record { walks = λ r. refl; owed = λ r. refl; in_sync = told_nothing a }

module _ {N Q : Type 0} (queue q : Queue N Q) (trail : Trail) where
  told_still : SameSync queue q → SyncsNothing (queue_state_of queue trail) (queue_state_of q trail)
  told_still same = record { trail = same.trail; must_start_anew = same.must_start_anew; floor = refl }

  -- the queue was changed by a call that walks nothing
  pub walks_still : SameSync queue q → SameValues (walks queue) (walks q) → SameValues (owed queue) (owed q) →
      WalksNothing (queue_state_of queue trail) (queue_state_of q trail)
  walks_still same walked owes = record { walks = walked; owed = owes; in_sync = told_still same }

  -- a clause was to be registered
  pub owes_registered : {T E : Type 0} (has : Q → N → Bool) (result : Result T E) (clause : RequiresClause)
      (names : List N) →
      OnOk result (IsRegistered has clause names queue q) → OnErr result (IsUnchanged queue q has) →
      SameValues (walks queue) (walks q) →
      ((r : Requirement) → (owed q r ≡ owed queue r) ⊎ ((r ≡ clause.requirement) × (owed queue r ≡ 0)
      × (owed q r ≡ 1))) →
      OwesFirst clause.requirement (queue_state_of queue trail) (queue_state_of q trail)
  owes_registered has (Ok x) clause names registered same walked owes =
      record {
        walks = walked;
        owed = owes;
        in_sync = record {
          trail = registered.trail;
          must_start_anew =
              registered.must_start_anew;
          floor = refl;
        };
      }
  owes_registered has (Err e) clause names registered same walked owes =
      record { walks = walked; owed = owes; in_sync = told_still same.synced }

-- ---- a question

module _ {D N S A H Q : Type 0} {has : Q → N → Bool} {st : Store N S} {loaded : List (Requirement × Vec (Vec ℕ A) A)}
    {disjunctions : List (Disjunction A)}
    {cache : Cache D N S A H} {queue : Queue N Q} {trail : Trail}
    (is : IsConsistent has st loaded disjunctions cache queue trail)
    (requires : st.requires ≡ queue.clauses) (kept : st.loaded ≡ lists_of_loaded loaded)
    (entries : st.trail ≡ trail.entries) where
  abbrev refs : References N S A
  refs = references st.provider.universe loaded disjunctions

  abbrev asked : QueueState
  asked = queue_state_of queue trail

  rows_seen : (r : Requirement) → rows_of st r ≡ rows_in refs r
  rows_seen r =
      ap (λ ls. rows (sets_of st.provider.universe r) (unwrap_or (lookup (same_requirement r) ls) [])) kept
      ∙ sym (ap (λ f. f r) (rows-kept st.provider.universe loaded))

  -- the queue was told of the trail, or that was refused
  pub asks_told : (floor : ℕ) (ds : List Decision) (q : Queue N Q) (t : Trail) → floor ≡ trail.floor →
      ds ≡ decisions_of trail.entries →
      SameValues (walks queue) (walks q) → ((r : Requirement) → owed q r ≤ owed queue r + 1) →
      (queue.must_start_anew ≡ false → (any : References N S A) → StandsOn any queue → (r : Requirement) →
      IsWalkable any.universe any.lists r →
      HasNoneOf (changed_from floor ds queue) (rows_in any r) → owed q r ≡ owed queue r) →
      WalksEachOnce st asked (queue_state_of q t)
  asks_told floor ds q t at is_trail walked owes still = record {
    once = λ r. (let e = walked r in omega (arith, e));
    within = λ r. walks_within q.inside.requirements r;
    one_more = owes;
    owed_still = λ accepted. subst StillOwed (sym requires) (λ k d within none. this accepted k d within none);
  }
    where
      StillOwed : List RequiresClause → Type 0
      StillOwed cs = All (λ c. HasNoneOf (changed_since st asked) (rows_of st c.requirement) →
          owed q c.requirement ≡ owed queue c.requirement) cs

      changed : changed_from floor ds queue ≡ changed_since st asked
      changed =
          ap (λ n. variables_of (drop n queue.trail) ++ variables_of (drop n ds)) at
          ∙ ap (λ es. variables_of (drop trail.floor queue.trail) ++ variables_of (drop trail.floor es)) (is_trail
          ∙ sym (ap decisions_of entries))

      this : queue.must_start_anew ≡ false → (k : ℕ) (d : RequiresClause) → k < length queue.clauses →
          HasNoneOf (changed_since st asked) (rows_of st (get_or queue.clauses k d).requirement) →
          owed q (get_or queue.clauses k d).requirement ≡ owed queue (get_or queue.clauses k d).requirement
      this accepted k d within none =
          let r = (get_or queue.clauses k d).requirement in
          still accepted refs is.may_decide.stands r (can_walk is requires kept k d within)
          (subst (λ vs. HasNoneOf vs (rows_in refs r)) (sym changed)
          (subst (HasNoneOf (changed_since st asked)) (rows_seen r) none))

  -- then it was asked
  pub asks_walked : (q n : Queue N Q) (t t' : Trail) (log log' : List Requirement) →
      WalksEachOnce st asked (queue_state_of q t) → SameValues (walks queue) (walks q) →
      WalksOnce q.inside.requirements n.inside.requirements log log' → SameValues (owed q) (owed n) →
      WalksEachOnce st asked (queue_state_of n t')
  asks_walked q n t t' log log' queue_step walked once owes = record {
    once = λ r. (let e = walked r in let more = once.walks r in let one = once.once r in omega (arith, e, more, one));
    within = λ r. walks_within n.inside.requirements r;
    one_more = λ r. (let e = owes r in let less = queue_step.one_more r in omega (arith, e, less));
    owed_still = λ accepted k d within none. owes _ ∙ queue_step.owed_still accepted k d within none;
  }

  -- it has the trail then
  pub told_of : (ds : List Decision) (q n : Queue N Q) (t : Trail) → t ≡ floor_taken trail →
      ds ≡ decisions_of t.entries → HasTrail ds q → SameSync q n → HasSynced st.trail (queue_state_of n t)
  told_of ds q n t taken is_trail told same = record {
    trail = same.trail ∙ (told.trail ∙ (is_trail ∙ ap decisions_of (ap (λ x. x.entries) taken ∙ sym entries)));
    must_start_anew = same.must_start_anew ∙ told.must_start_anew;
    floor = ap (λ x. x.floor) taken ∙ ap length (sym entries);
  }
