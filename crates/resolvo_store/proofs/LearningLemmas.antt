-- Learnt clauses, and what is kept where the list of clauses answers.
use Rattle.std.proofs.Common.{[], ◌≡◌, ℕ, ◌<◌, ◌-◌, Bool, true, false, cond, List, ◌∷◌, ◌++◌, length}
use Rattle.std.proofs.Common.{Option, None, Some, Result, Ok, Err, refl, arith, sym, ◌∙◌, ap, subst}
use Rattle.std.specs.Prelude.{slice_get}
use Rattle.watch_map.specs.ClauseList.{with_clause as pushed, with_learnt as learnt_one}
use Rattle.resolvo_store.proofs.Words.{adding, adds_clause, are_clauses_out, Clause, ClauseIs, Clauses, Command}
use Rattle.resolvo_store.proofs.Words.{first_refusal, first_watches, IdSpace, IfErr, IfOk, is_bad_learnt, is_conflict}
use Rattle.resolvo_store.proofs.Words.{is_direct, is_learnt_out, is_saturate, IsGrowthRefusal, IsTrue, lacks_ids}
use Rattle.resolvo_store.proofs.Words.{Learnt, Lit, names_known, OnErr, OnOk, outcome, replied, Reply, Requirement}
use Rattle.resolvo_store.proofs.Words.{Requires, RequiresClause, Step, Store, store_of, stored_of, StoreError}
use Rattle.resolvo_store.proofs.Words.{StoreState, takes_no_memory, two_or_none, unwrap_or, values, watch_ends}
use Rattle.resolvo_store.proofs.Words.{with_registered}
use Rattle.resolvo_store.specs.Store.{Provider}
use Rattle.resolvo_store.specs.Outcome.{with_clause, with_learnt}
use Rattle.resolvo_store.proofs.AddingLemmas.{growth_fits, growth_refusal, first_of_direct, direct_adds}
use Rattle.resolvo_store.proofs.AddingLemmas.{step_clause, step_refused, with_made}
use Rattle.clauses.specs.declared.clause.Clause.TheVariants as Kind

-- where nothing is wrong with them, there are some
pub not_empty : (ls : List Lit) → is_bad_learnt ls ≡ false → 0 < length ls
not_empty [] h = (let no : true ≡ false = h in cc)
not_empty (l ∷ ls) h = omega arith

-- the last of a list is at its end
last_at_end : {X : Type 0} (xs : List X) (x : X) → slice_get (xs ++ x ∷ []) (length xs) ≡ Some x
last_at_end [] x = refl
last_at_end (y ∷ xs) x = last_at_end xs x

-- a learnt clause watches the ends of its literals
pub learnt_watches : {N S : Type 0} (st : Store N S) (ls : List Lit)
    → watch_ends ls ≡ (let c : Clause N = Kind.Learnt (length st.learnt) in
    first_watches (stored_of (with_learnt st ls)) (values (with_learnt st ls)) c)
learnt_watches st ls = ap (λ o. watch_ends (unwrap_or o [])) (sym (last_at_end st.learnt ls))

-- what is true is true of each success, and of each failure
always : {T E P : Type 0} (result : Result T E) → P → OnOk result P
always (Ok x) p = p
always (Err e) p = tt

always_err : {T E P : Type 0} (result : Result T E) → P → OnErr result P
always_err (Ok x) p = tt
always_err (Err e) p = p

-- the same of what is kept, where the list of clauses answers
module _ {D N S C : Type 0} (provided : D → Provider N S) (scored : C → N → ℕ) where
  abbrev store : StoreState D N S C → Store N S
  store = store_of provided scored

  -- the store of what is kept, with another list of clauses and another queue
  abbrev with_both : StoreState D N S C → Clauses N → List RequiresClause → Store N S
  with_both kept cs requires = record (store kept) {
    clauses = cs.clauses;
    watches = cs.watches;
    watchers =
        cs.watchers;
    learnt = cs.learnt;
    requires = requires;
  }

  -- the list of clauses in what is kept
  abbrev clauses_kept : StoreState D N S C → Clauses N
  clauses_kept kept = record {
    clauses = kept.clauses;
    watches = (store kept).watches;
    learnt =
        kept.learnt;
    watchers = (store kept).watchers;
  }

  answered : {T : Type 0} (says : T → Reply) (c : Command N S) (conflict out : Bool) (result : Result T StoreError)
      (kept : StoreState D N S C)
      (cs more : Clauses N) (requires registered : List RequiresClause)
      → is_saturate c ≡ false → first_refusal (store kept) c ≡ cond out (Some IdSpace) None →
      lacks_ids (store kept) c ≡ false → takes_no_memory (store kept) c ≡ false
      → ClauseIs (length kept.clauses) conflict ≡ (outcome (store kept) c).reply →
      with_both kept more registered ≡ (outcome (store kept) c).store
      → IfOk result (λ reply. says reply ≡ ClauseIs (length kept.clauses) conflict) → OnOk result (cs ≡ more) →
      OnOk result (requires ≡ registered)
      → OnErr result (cs ≡ clauses_kept kept) → OnErr result (requires ≡ kept.requires)
      → IfErr result (IsGrowthRefusal out) → (IsTrue out → result ≡ Err IdSpace)
      → Step (store kept) c (replied says result) (with_both kept cs requires)
  answered says c conflict out (Ok reply) kept cs more requires registered plain first lacks memory spoken makes said
      ok queued err left refused ids_out =
      let none : first_refusal (store kept) c ≡ None = first
      ∙ ap (λ b. cond b (Some IdSpace) None) (growth_fits out (Ok reply) ids_out) in
      subst (λ r. Step (store kept) c r (with_both kept cs requires)) (sym said)
      (step_clause (store kept) c (length kept.clauses) conflict plain none lacks spoken
      (ap (λ l. with_both kept l requires) ok ∙ ap (with_both kept more) queued ∙ makes))
  answered says c conflict out (Err e) kept cs more requires registered plain first lacks memory spoken makes said ok
      queued err left refused ids_out =
      step_refused (store kept) c out e plain first memory (growth_refusal out e refused (λ h. cc (ids_out h)))
      (ap (λ l. with_both kept l requires) err ∙ ap (with_both kept (clauses_kept kept)) left)

  -- where the list is asked to add a clause that the command names whole
  pub step_added : {T : Type 0} (says : T → Reply) (clause : Clause N) (watch : Option (List Lit)) (conflict : Bool)
      (result : Result T StoreError)
      (cs : Clauses N) {kept old : StoreState D N S C} (is : kept ≡ old) → is_direct clause ≡ true
      → names_known (provided kept.provider).universe (length kept.origins) clause ≡ true
      → watch ≡ first_watches (stored_of (store kept)) (values (store kept)) clause →
      conflict ≡ is_conflict (stored_of (store kept)) (values (store kept)) clause
      → IfOk result (λ reply. says reply ≡ ClauseIs (length kept.clauses) conflict)
      → OnOk result (cs ≡ pushed (clauses_kept kept) clause watch)
      → OnErr result (cs ≡ clauses_kept kept)
      → IfErr result (IsGrowthRefusal (are_clauses_out (store kept))) →
      (IsTrue (are_clauses_out (store kept)) → result ≡ Err IdSpace)
      → Step (store old) (adding clause) (replied says result) (with_both kept cs kept.requires)
  step_added says clause watch conflict result cs {kept} {old} is direct known w k said ok err refused ids_out =
      let c : Command N S = adding clause in
      let more : Clauses N = pushed (clauses_kept kept) clause watch in
      let adds = direct_adds (store kept) clause direct in
      subst (λ o. Step (store o) c (replied says result) (with_both kept cs kept.requires)) is
      (answered says c conflict (are_clauses_out (store kept)) result kept cs more kept.requires kept.requires adds.3
      (first_of_direct (store kept) clause direct known) adds.0 adds.1
      (ap (ClauseIs (length kept.clauses)) k ∙ ap (λ o. o.reply) adds.2)
      (with_made (store kept) clause w ∙ ap (λ o. o.store) adds.2) said ok (always result refl) err
      (always_err result refl) refused ids_out)

  -- where it is asked to add a learnt one
  pub step_learnt : {T : Type 0} (says : T → Reply) (ls : List Lit) (result : Result T StoreError)
      (cs : Clauses N) {kept old : StoreState D N S C} (is : kept ≡ old)
      → first_refusal (store kept) (Learnt ls) ≡ cond (is_learnt_out (store kept)) (Some IdSpace) None
      → IfOk result (λ reply. says reply ≡ ClauseIs (length kept.clauses) false)
      → OnOk result (cs ≡ learnt_one (clauses_kept kept) ls)
      → OnErr result (cs ≡ clauses_kept kept)
      → IfErr result (IsGrowthRefusal (is_learnt_out (store kept))) →
      (IsTrue (is_learnt_out (store kept)) → result ≡ Err IdSpace)
      → Step (store old) (Learnt ls) (replied says result) (with_both kept cs kept.requires)
  step_learnt says ls result cs {kept} {old} is first said ok err refused ids_out =
      let more : Clauses N = learnt_one (clauses_kept kept) ls in
      subst (λ o. Step (store o) (Learnt ls) (replied says result) (with_both kept cs kept.requires)) is
      (answered says (Learnt ls) false (is_learnt_out (store kept)) result kept cs more kept.requires kept.requires
      refl first refl refl
      refl (ap (λ x. with_clause (with_learnt (store kept) ls) (Kind.Learnt (length kept.learnt)) (two_or_none x))
      (learnt_watches (store kept) ls))
      said ok (always result refl) err (always_err result refl) refused ids_out)

  -- where it is asked to add a requires clause, and the queue to register it
  pub step_registered : {T : Type 0} (says : T → Reply) (parent : ℕ) (r : Requirement)
      (disjunction : Option ℕ) {clause : Clause N} (watch : Option (List Lit)) (conflict : Bool)
      (result : Result T StoreError) (cs : Clauses N) (requires : List RequiresClause)
      {kept old : StoreState D N S C} (is : kept ≡ old)
      → clause ≡ Kind.Requires parent disjunction r
      → first_refusal (store kept) (Requires parent r disjunction)
      ≡ cond (are_clauses_out (store kept)) (Some IdSpace) None
      → watch ≡ first_watches (stored_of (store kept)) (values (store kept)) clause →
      conflict ≡ is_conflict (stored_of (store kept)) (values (store kept)) clause
      → IfOk result (λ reply. says reply ≡ ClauseIs (length kept.clauses) conflict)
      → OnOk result (cs ≡ pushed (clauses_kept kept) clause watch)
      → OnOk result (requires ≡ kept.requires ++ record {
        parent = parent;
        requirement = r;
        condition =
            disjunction;
        clause_id = length kept.clauses;
      } ∷ [])
      → OnErr result (cs ≡ clauses_kept kept) → OnErr result (requires ≡ kept.requires)
      → IfErr result (IsGrowthRefusal (are_clauses_out (store kept))) →
      (IsTrue (are_clauses_out (store kept)) → result ≡ Err IdSpace)
      → Step (store old) (Requires parent r disjunction) (replied says result) (with_both kept cs requires)
  step_registered says parent r disjunction {clause} watch conflict result cs requires {kept} {old} is kind first w k
      said ok queued err left refused ids_out =
      let c : Command N S = Requires parent r disjunction in
      let st : Store N S = with_registered (store kept) parent r disjunction in
      let more : Clauses N = pushed (clauses_kept kept) clause watch in
      subst (λ o. Step (store o) c (replied says result) (with_both kept cs requires)) is
      (answered says c conflict (are_clauses_out (store kept)) result kept cs more requires
      (kept.requires ++ record {
        parent = parent;
        requirement = r;
        condition = disjunction;
        clause_id =
            length kept.clauses;
      } ∷ [])
      refl first refl refl
      (ap (ClauseIs (length kept.clauses)) k ∙ ap (λ x. (adds_clause st x).reply) kind)
      (with_made st clause w ∙ ap (λ x. (adds_clause st x).store) kind) said ok queued err left refused ids_out)
