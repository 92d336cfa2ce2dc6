-- Steps and runs keep what a store has: laws for those who hold a store while commands go on.
use Rattle.std.proofs.Common.{◌≡◌, ℕ, zero, suc, ◌+◌, Bool, true, false, cond, nat_eq, List, [], ◌∷◌, ◌++◌, length}
use Rattle.std.proofs.Common.{Option, None, Some, refl, sym, ◌∙◌, subst, inl, inr}
use Rattle.std.specs.Prelude.{slice_get, drop, ◌||◌}
use Rattle.at_most_once.specs.AtMostOne.{with_variable}
use Rattle.at_most_once.specs.NameTrackers.{with_tracked as trackers_with}
use Rattle.solver_cache.proofs.CacheLemmas.{begins_same, begins_more, begins_trans}
use Rattle.resolvo_store.proofs.Words.{adds_clause, all_candidates, AnyOf, Assign, AtMostOnce, BeginsWith, BitClause}
use Rattle.resolvo_store.proofs.Words.{Bump, Clause, Command, Constrains, ConstrainsExcluded, ConstrainsParent, Decay}
use Rattle.resolvo_store.proofs.Words.{Decide, Entry, Exclude, forbidding, hands_next, Helper}
use Rattle.resolvo_store.proofs.Words.{helper_for, helper_origin, is_saturate, is_tracked, Learnt, list_any, lists_of}
use Rattle.resolvo_store.proofs.Words.{Lit, Load, load, Lock, lookup, OnlyGrows, origins_with, Outcome, outcome, Reply}
use Rattle.resolvo_store.proofs.Words.{Requirement, Requires, Rewatch, Run, same_requirement, Saturate, Standard, Step}
use Rattle.resolvo_store.proofs.Words.{Store, TrackedAs, Tracker, tracking, UndoLast, UndoUntil, Unpropagated, Variable}
use Rattle.resolvo_store.proofs.Words.{VariableOrigin, variables_loaded, Watchers, with_bits, with_disjunction}
use Rattle.resolvo_store.proofs.Words.{with_helper, with_registered, with_tracked}
use Rattle.resolvo_store.specs.Command.{Root, Disjunction}
use Rattle.resolvo_store.specs.Store.{Provider}
use Rattle.resolvo_store.specs.Outcome.{with_learnt}
use Rattle.resolvo_store.proofs.CandidateLists.{begins_origins, begins_variables, begun}
use Rattle.resolvo_store.proofs.KnownLemmas.{IsLawful}
use Rattle.resolvo_store.proofs.SoundSteps.{step_store, step_saturated}
use Rattle.clauses.specs.declared.clause.Clause.TheVariants as Kind

-- ---- lists that begin with others

module _ {X : Type 0} where
  get_front : (xs more : List X) (i : ℕ) (x : X) → slice_get xs i ≡ Some x → slice_get (xs ++ more) i ≡ Some x
  get_front [] more i x e = (let no : ◌≡◌ {A = Option X} None (Some x) = e in cc)
  get_front (y ∷ xs) more zero x e = e
  get_front (y ∷ xs) more (suc i) x e = get_front xs more i x e

  -- what stands at a place of the earlier list stands there still
  pub begins_get : (xs ys : List X) → BeginsWith xs ys → (i : ℕ) (x : X) → slice_get xs i ≡ Some x →
      slice_get ys i ≡ Some x
  begins_get xs ys begins i x e =
      subst (λ (l : List X). slice_get l i ≡ Some x) (sym (begun xs ys begins))
      (get_front xs (drop (length xs) ys) i x e)

  any_front : (test : X → Bool) (xs more : List X) → list_any test xs ≡ true → list_any test (xs ++ more) ≡ true
  any_front test [] more h = (let no : false ≡ true = h in cc)
  any_front test (x ∷ xs) more h =
      (elim (test x) as (λ b. (b || list_any test xs) ≡ true → (b || list_any test (xs ++ more)) ≡ true)
      [ true ↦ λ e. refl | false ↦ λ e. any_front test xs more e ]) h

  -- what passes in the earlier list passes still
  pub begins_any : (test : X → Bool) (xs ys : List X) → BeginsWith xs ys → list_any test xs ≡ true →
      list_any test ys ≡ true
  begins_any test xs ys begins h =
      subst (λ (l : List X). list_any test l ≡ true) (sym (begun xs ys begins))
      (any_front test xs (drop (length xs) ys) h)

module _ {K V : Type 0} where
  lookup_front : (test : K → Bool) (es more : List (K × V)) (x : V) → lookup test es ≡ Some x →
      lookup test (es ++ more) ≡ Some x
  lookup_front test [] more x h = (let no : ◌≡◌ {A = Option V} None (Some x) = h in cc)
  lookup_front test (e ∷ es) more x h =
      (elim (test e.0) as (λ b. cond b (Some e.1) (lookup test es) ≡ Some x →
      cond b (Some e.1) (lookup test (es ++ more)) ≡ Some x)
      [ true ↦ λ k. k | false ↦ λ k. lookup_front test es more x k ]) h

  -- what is found in the earlier list is found still
  pub begins_lookup : (test : K → Bool) (es fs : List (K × V)) → BeginsWith es fs → (x : V) →
      lookup test es ≡ Some x → lookup test fs ≡ Some x
  begins_lookup test es fs begins x h =
      subst (λ (l : List (K × V)). lookup test l ≡ Some x) (sym (begun es fs begins))
      (lookup_front test es (drop (length es) fs) x h)

-- the helpers with one more, or without
begins_helper : (hs : List ℕ) (h : Option ℕ) → BeginsWith hs (with_helper hs h)
begins_helper hs None = begins_same hs
begins_helper hs (Some h) = begins_more hs h

module _ (t : Tracker ℕ) (h : Option ℕ) (v : ℕ) where
  -- what is tracked is tracked still once one variable more is
  begins_tracked : BeginsWith t.variables (with_variable nat_eq t h v).variables
  begins_tracked = by_test (is_tracked nat_eq t v)
    where
      by_test : (b : Bool) → BeginsWith t.variables (cond {A =
          Tracker ℕ} b t (record { variables = t.variables ++ v ∷ []; helpers = with_helper t.helpers h })).variables
      by_test true = begins_same t.variables
      by_test false = begins_more t.variables v

  begins_helpers : BeginsWith t.helpers (with_variable nat_eq t h v).helpers
  begins_helpers = by_test (is_tracked nat_eq t v)
    where
      by_test : (b : Bool) → BeginsWith t.helpers (cond {A = Tracker ℕ} b t
          (record { variables = t.variables ++ v ∷ []; helpers = with_helper t.helpers h })).helpers
      by_test true = begins_same t.helpers
      by_test false = begins_helper t.helpers h

module _ {N S : Type 0} where
  -- ---- what is kept

  -- a store whose lists begin with those of another, and that tracks the same
  keeps_lists : (st new : Store N S) → new.provider ≡ st.provider → new.trackers ≡ st.trackers
      → BeginsWith st.origins new.origins → BeginsWith st.loaded new.loaded →
      BeginsWith st.disjunctions new.disjunctions
      → BeginsWith st.learnt new.learnt → BeginsWith st.clauses new.clauses → BeginsWith st.requires new.requires →
      OnlyGrows st new
  keeps_lists st new provider trackers origins loaded disjunctions learnt clauses requires = record {
    provider = provider;
    origins = origins;
    loaded = loaded;
    disjunctions = disjunctions;
    learnt = learnt;
    clauses = clauses;
    requires = requires;
    tracked = λ name. subst (λ (t : N → Tracker ℕ). BeginsWith (st.trackers name).variables (t name).variables)
        (sym trackers) (begins_same (st.trackers name).variables);
    helpers = λ name. subst (λ (t : N → Tracker ℕ). BeginsWith (st.trackers name).helpers (t name).helpers)
        (sym trackers) (begins_same (st.trackers name).helpers);
  }

  pub OnlyGrows-same : (st : Store N S) → OnlyGrows st st
  OnlyGrows-same st =
      keeps_lists st st refl refl (begins_same st.origins) (begins_same st.loaded) (begins_same st.disjunctions)
      (begins_same st.learnt) (begins_same st.clauses)
      (begins_same st.requires)

  pub OnlyGrows-trans : {old mid new : Store N S} → OnlyGrows old mid → OnlyGrows mid new → OnlyGrows old new
  OnlyGrows-trans first second = record {
    provider = second.provider ∙ first.provider;
    origins = begins_trans _ _ _ first.origins second.origins;
    loaded = begins_trans _ _ _ first.loaded second.loaded;
    disjunctions = begins_trans _ _ _ first.disjunctions second.disjunctions;
    learnt = begins_trans _ _ _ first.learnt second.learnt;
    clauses = begins_trans _ _ _ first.clauses second.clauses;
    requires = begins_trans _ _ _ first.requires second.requires;
    tracked = λ name. begins_trans _ _ _ (first.tracked name) (second.tracked name);
    helpers = λ name. begins_trans _ _ _ (first.helpers name) (second.helpers name);
  }

  -- ---- a store with more in it

  module _ (st : Store N S) where
    same_origins : BeginsWith st.origins st.origins
    same_origins = begins_same st.origins

    same_loaded : BeginsWith st.loaded st.loaded
    same_loaded = begins_same st.loaded

    same_disjunctions : BeginsWith st.disjunctions st.disjunctions
    same_disjunctions = begins_same st.disjunctions

    same_learnt : BeginsWith st.learnt st.learnt
    same_learnt = begins_same st.learnt

    same_clauses : BeginsWith st.clauses st.clauses
    same_clauses = begins_same st.clauses

    same_requires : BeginsWith st.requires st.requires
    same_requires = begins_same st.requires

    -- with another trail, other watches or other scores
    keeps_else : (trail : List Entry) (place : ℕ) (scores : N → ℕ) (watches : List (List Lit)) (watchers : Lit → List ℕ)
        → OnlyGrows st (record st {
          trail = trail;
          place = place;
          scores = scores;
          watches = watches;
          watchers =
              watchers;
        })
    keeps_else trail place scores watches watchers =
        keeps_lists st _ refl refl same_origins same_loaded same_disjunctions same_learnt same_clauses same_requires

    keeps_origins : (more : List (VariableOrigin N S)) → BeginsWith st.origins more →
        OnlyGrows st (record st { origins = more })
    keeps_origins more begins = keeps_lists st _ refl refl begins same_loaded same_disjunctions same_learnt
        same_clauses same_requires

    keeps_added : (c : Clause N) → OnlyGrows st (adds_clause st c).store
    keeps_added c = keeps_lists st _ refl refl same_origins same_loaded same_disjunctions same_learnt
        (begins_more st.clauses c) same_requires

    keeps_registered : (parent : ℕ) (r : Requirement) (condition : Option ℕ) →
        OnlyGrows st (with_registered st parent r condition)
    keeps_registered parent r condition =
        keeps_lists st (with_registered st parent r condition) refl refl same_origins same_loaded same_disjunctions
        same_learnt same_clauses
        (begins_more st.requires (record {
          parent = parent;
          requirement = r;
          condition = condition;
          clause_id =
              length st.clauses;
        }))

    keeps_learnt : (literals : List Lit) → OnlyGrows st (with_learnt st literals)
    keeps_learnt literals = keeps_lists st (with_learnt st literals) refl refl same_origins same_loaded
        same_disjunctions (begins_more st.learnt literals) same_clauses same_requires

    keeps_disjunction : (literals : List Lit) (condition : ℕ) → OnlyGrows st (with_disjunction st literals condition)
    keeps_disjunction literals condition =
        keeps_lists st (with_disjunction st literals condition) refl refl same_origins same_loaded
        (begins_more st.disjunctions (record { literals = literals; condition = condition })) same_learnt
        same_clauses same_requires

    pub keeps_load : (r : Requirement) (o : Option (List (List ℕ))) → OnlyGrows st (load st r o).store
    keeps_load r (Some lists) = OnlyGrows-same st
    keeps_load r None =
        keeps_lists st (load st r None).store refl refl (begins_variables st.provider.same_solvable st.origins
        (all_candidates st r))
        (begins_more st.loaded (r, variables_loaded st r)) same_disjunctions same_learnt same_clauses same_requires

    keeps_next : (o : Option Entry) → OnlyGrows st (hands_next st o).store
    keeps_next None = OnlyGrows-same st
    keeps_next (Some e) = keeps_else st.trail (st.place + 1) st.scores st.watches st.watchers

  keeps_bits : (name : N) (st : Store N S) (cs : List (BitClause ℕ)) → OnlyGrows st (with_bits name st cs)
  keeps_bits name st [] = OnlyGrows-same st
  keeps_bits name st (c ∷ cs) = OnlyGrows-trans (keeps_added st (forbidding name c))
      (keeps_bits name (adds_clause st (forbidding name c)).store cs)

  module _ (st : Store N S) (lawful : IsLawful st.provider) where
    -- with one variable more under a name, and its helper
    keeps_trackers : (name : N) (v : ℕ) (h : Option ℕ)
        → OnlyGrows st (record st {
          origins = origins_with st.origins name h;
          trackers =
              trackers_with st.provider.same_name name v h st.trackers;
        })
    keeps_trackers name v h = record {
      provider = refl;
      origins = begins_origins st.origins name h;
      loaded = begins_same st.loaded;
      disjunctions = begins_same st.disjunctions;
      learnt = begins_same st.learnt;
      clauses = begins_same st.clauses;
      requires = begins_same st.requires;
      tracked = λ (n : N). of_name n (λ (t : Tracker ℕ). t.variables) (begins_same (st.trackers n).variables)
          (begins_tracked (st.trackers name) h v);
      helpers = λ (n : N). of_name n (λ (t : Tracker ℕ). t.helpers) (begins_same (st.trackers n).helpers)
          (begins_helpers (st.trackers name) h v);
    }
      where
        of_name : (n : N) (part : Tracker ℕ → List ℕ) → BeginsWith (part (st.trackers n)) (part (st.trackers n))
            → BeginsWith (part (st.trackers name)) (part (with_variable nat_eq (st.trackers name) h v))
            → BeginsWith (part (st.trackers n)) (part (trackers_with st.provider.same_name name v h st.trackers n))
        of_name n part other own = by_name (st.provider.same_name n name) refl
          where
            by_name : (b : Bool) → st.provider.same_name n name ≡ b
                → BeginsWith (part (st.trackers n))
                (part (cond b (with_variable nat_eq (st.trackers name) h v) (st.trackers n)))
            by_name true e = subst (λ (m : N). BeginsWith (part (st.trackers m))
                (part (with_variable nat_eq (st.trackers name) h v))) (sym (lawful.same_names n name e)) own
            by_name false e = other

    keeps_tracking : (name : N) (v : ℕ) (b : Bool)
        → OnlyGrows st (cond {A = Outcome N S} b (record { reply = TrackedAs false 0; store = st })
        (record { reply = TrackedAs true (length (tracking st name v)); store = with_tracked st name v })).store
    keeps_tracking name v true = OnlyGrows-same st
    keeps_tracking name v false = OnlyGrows-trans (keeps_trackers name v (helper_for st name v))
        (keeps_bits name _ (tracking st name v))

    -- what a command does that nothing refuses
    pub OnlyGrows-outcome : (c : Command N S) → OnlyGrows st (outcome st c).store
    OnlyGrows-outcome (Variable s) = keeps_origins st _ (begins_variables st.provider.same_solvable st.origins (s ∷ []))
    OnlyGrows-outcome (Helper origin) = keeps_origins st _ (begins_more st.origins (helper_origin origin))
    OnlyGrows-outcome (Load r) = keeps_load st r (lists_of st r)
    OnlyGrows-outcome (Requires parent r disjunction) =
        OnlyGrows-trans (keeps_registered st parent r disjunction)
        (keeps_added (with_registered st parent r disjunction) (Kind.Requires parent disjunction r))
    OnlyGrows-outcome Root = keeps_added st Kind.InstallRoot
    OnlyGrows-outcome (Constrains parent forbidden v) = keeps_added st (Kind.Constrains parent forbidden v)
    OnlyGrows-outcome (ConstrainsExcluded candidate aux v) = keeps_added st (Kind.ConstrainsExcluded candidate aux v)
    OnlyGrows-outcome (ConstrainsParent parent aux v) = keeps_added st (Kind.ConstrainsParent parent aux v)
    OnlyGrows-outcome (Lock locked other) = keeps_added st (Kind.Lock locked other)
    OnlyGrows-outcome (Exclude v reason) = keeps_added st (Kind.Excluded v reason)
    OnlyGrows-outcome (AnyOf selected other) = keeps_added st (Kind.AnyOf selected other)
    OnlyGrows-outcome (Learnt ls) =
        OnlyGrows-trans (keeps_learnt st ls) (keeps_added (with_learnt st ls) (Kind.Learnt (length st.learnt)))
    OnlyGrows-outcome (Assign v value clause level) = keeps_else st _ st.place st.scores st.watches st.watchers
    OnlyGrows-outcome UndoLast = keeps_else st _ _ st.scores st.watches st.watchers
    OnlyGrows-outcome (UndoUntil level) = keeps_else st _ _ st.scores st.watches st.watchers
    OnlyGrows-outcome Unpropagated = keeps_next st (slice_get st.trail st.place)
    OnlyGrows-outcome (Rewatch c from to) = keeps_else st st.trail st.place st.scores _ _
    OnlyGrows-outcome (Watchers l) = OnlyGrows-same st
    OnlyGrows-outcome (Saturate level) = OnlyGrows-same st
    OnlyGrows-outcome Decide = OnlyGrows-same st
    OnlyGrows-outcome (Disjunction ls condition) = keeps_disjunction st ls condition
    OnlyGrows-outcome (AtMostOnce name v) = keeps_tracking name v (is_tracked nat_eq (st.trackers name) v)
    OnlyGrows-outcome (Bump name amount) = keeps_else st st.trail st.place _ st.watches st.watchers
    OnlyGrows-outcome (Decay numerator denominator) = keeps_else st st.trail st.place _ st.watches st.watchers
    OnlyGrows-outcome (Standard standard) = OnlyGrows-same st

  -- ---- steps and runs

  -- whatever a command is answered, the store keeps what it has
  pub OnlyGrows-step : (old new : Store N S) (c : Command N S) (reply : Reply) → IsLawful old.provider →
      Step old c reply new → OnlyGrows old new
  OnlyGrows-step old new c reply lawful step = by_command c step
    where
      same : new ≡ old → OnlyGrows old new
      same e = subst (λ (st : Store N S). OnlyGrows old st) (sym e) (OnlyGrows-same old)

      plainly : (d : Command N S) → is_saturate d ≡ false → Step old d reply new → OnlyGrows old new
      plainly d plain s = elim (step_store old new d reply plain s) [
        | inl left ↦ same left
        | inr done ↦ subst (λ (st : Store N S). OnlyGrows old st) (sym done.1) (OnlyGrows-outcome old lawful d)
      ]

      by_command : (d : Command N S) → Step old d reply new → OnlyGrows old new
      by_command (Saturate level) s = elim (step_saturated old new level reply s) [
        | inl left ↦ same left
        | inr done ↦ subst (λ (st : Store N S). OnlyGrows old st) (sym done.1.rest)
            (keeps_else old (old.trail ++ done.1.added) old.place old.scores done.1.watches done.1.watchers)
      ]
      by_command d s = plainly d refl s

  -- so it does whatever commands are answered in turn
  pub OnlyGrows-run : (old new : Store N S) (cs : List (Command N S)) (replies : List Reply) →
      IsLawful old.provider → Run old cs replies new → OnlyGrows old new
  OnlyGrows-run old new [] [] lawful ran = subst (λ (st : Store N S). OnlyGrows old st) (sym ran) (OnlyGrows-same old)
  OnlyGrows-run old new (c ∷ cs) (reply ∷ replies) lawful ran =
      let first = OnlyGrows-step old ran.0 c reply lawful ran.1 in
      OnlyGrows-trans first (OnlyGrows-run ran.0 new cs replies
      (subst (λ (p : Provider N S). IsLawful p) (sym first.provider) lawful) ran.2)
  OnlyGrows-run old new [] (reply ∷ replies) lawful ran = absurd ran
  OnlyGrows-run old new (c ∷ cs) [] lawful ran = absurd ran

  -- ---- what follows of what is kept

  module _ {old new : Store N S} (kept : OnlyGrows old new) where
    -- a clause is there under its id
    pub clause_stays : (clause : ℕ) (c : Clause N) → slice_get old.clauses clause ≡ Some c →
        slice_get new.clauses clause ≡ Some c
    clause_stays = begins_get old.clauses new.clauses kept.clauses

    -- a variable stands for what it stood for
    pub origin_stays : (variable : ℕ) (o : VariableOrigin N S) → slice_get old.origins variable ≡ Some o →
        slice_get new.origins variable ≡ Some o
    origin_stays = begins_get old.origins new.origins kept.origins

    -- a loaded requirement has the lists that it had
    pub lists_stay : (r : Requirement) (lists : List (List ℕ)) → lists_of old r ≡ Some lists →
        lists_of new r ≡ Some lists
    lists_stay r = begins_lookup (same_requirement r) old.loaded new.loaded kept.loaded

    -- what is tracked under a name stays tracked
    pub tracked_stays : (name : N) (v : ℕ) → is_tracked nat_eq (old.trackers name) v ≡ true →
        is_tracked nat_eq (new.trackers name) v ≡ true
    tracked_stays name v = begins_any (nat_eq v) (old.trackers name).variables (new.trackers name).variables
        (kept.tracked name)
