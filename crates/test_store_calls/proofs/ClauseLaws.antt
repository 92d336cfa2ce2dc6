-- What a command tells that is answered by a clause.
use Rattle.std.proofs.Common.{◌≡◌, ℕ, ◌<◌, ◌+◌, Bool, true, false, cond, arith, List, [], ◌∷◌, Option, None, Some}
use Rattle.std.proofs.Common.{length, length-append, ap, sym, ◌∙◌, subst}
use Rattle.std.specs.Prelude.{◌++◌, refl}
use Rattle.std.proofs.lemmas.Result.{IfOk-weaker}
use Rattle.resolvo_store.proofs.CallerLaws.{answered_by_outcome}
use Rattle.test_store_calls.proofs.Words.{adds_clause, Already, AnyOf, Assign, assign_reply, AtMostOnce, beq, Clash}
use Rattle.test_store_calls.proofs.Words.{Clause, ClauseIs, Command, Constrains, ConstrainsExcluded, ConstrainsParent}
use Rattle.test_store_calls.proofs.Words.{Decide, decision, Entry, Exclude, falsified_clause, first_refusal, hands_next}
use Rattle.test_store_calls.proofs.Words.{Helper, helper_origin, HelperOrigin, IfOk, IfSome, is_tracked, IsAnswered}
use Rattle.test_store_calls.proofs.Words.{IsSome, Learnt, lists_of, Lit, literals_of, Load, load, Lock, MatchOption}
use Rattle.test_store_calls.proofs.Words.{nat_eq, Neg, Offer, option_map, Outcome, outcome, picked, Refused, Reply}
use Rattle.test_store_calls.proofs.Words.{Requires, RequiresClause, Result, Root, Saturate, slice_get, Step, Store}
use Rattle.test_store_calls.proofs.Words.{stored_of, StoreError, StringId, TrackedAs, tracking, Unpropagated, values}
use Rattle.test_store_calls.proofs.Words.{VariableIs, with_learnt, with_registered, with_tracked}
use Rattle.resolvo_clauses.specs.Types.Clause.TheVariants as Kind

-- what is found, where something is there
module _ {X E : Type 0} (r : Result (Option X) E) (f : X → List Lit) (there : Option (List Lit)) (ls : List Lit) where
  pub found_some : IfOk r (λ found. option_map f found ≡ there) → there ≡ Some ls → IfOk r (λ found. IsSome found)
  found_some reads is = IfOk-weaker r (λ found. option_map f found ≡ there) (λ found. IsSome found) by_found reads
    where
      by_found : (o : Option X) → option_map f o ≡ there → IsSome o
      by_found (Some x) h = refl
      by_found None h = let no : None ≡ Some ls = h ∙ is in cc

  pub found_same : IfOk r (λ found. option_map f found ≡ there) → there ≡ Some ls →
      IfOk r (λ found. IfSome found (λ x. f x ≡ ls))
  found_same reads is = IfOk-weaker r (λ found. option_map f found ≡ there)
      (λ found. IfSome found (λ x. f x ≡ ls)) by_found reads
    where
      by_found : (o : Option X) → option_map f o ≡ there → IfSome o (λ x. f x ≡ ls)
      by_found (Some x) h = let same : Some (f x) ≡ Some ls = h ∙ is in cc
      by_found None h = tt

-- what stands at the end of a list
last_at : {X : Type 0} (xs : List X) (x : X) → slice_get (xs ++ x ∷ []) (length xs) ≡ Some x
last_at [] x = refl
last_at (y ∷ xs) x = last_at xs x

module _ {N S : Type 0} where
  -- the id is the next one, and there is one clause more
  abbrev IsNext : Store N S → Store N S → ℕ → Type 0
  IsNext old new clause = (clause ≡ length old.clauses) × (length new.clauses ≡ length old.clauses + 1)

  -- a clause that is added gets the next id
  added_last : (st new : Store N S) (c : Clause N) (clause : ℕ) (conflict : Bool) →
      ClauseIs clause conflict ≡ (adds_clause st c).reply
      → new ≡ (adds_clause st c).store → IsNext st new clause
  added_last st new c clause conflict answer is =
      let same : clause ≡ length st.clauses = cc in
      (same, ap (λ (s : Store N S). length s.clauses) is ∙ length-append st.clauses (c ∷ []))

  -- no other command is answered by a clause
  by_outcome : (old new : Store N S) (c : Command N S) (clause : ℕ) (conflict : Bool) →
      ClauseIs clause conflict ≡ (outcome old c).reply
      → new ≡ (outcome old c).store → IsNext old new clause
  by_outcome old new (Requires parent r d) clause conflict a b =
      added_last (with_registered old parent r d) new (Kind.Requires parent d r) clause conflict a b
  by_outcome old new Root clause conflict a b = added_last old new Kind.InstallRoot clause conflict a b
  by_outcome old new (Constrains p f v) clause conflict a b =
      added_last old new (Kind.Constrains p f v) clause conflict a b
  by_outcome old new (ConstrainsExcluded x aux v) clause conflict a b =
      added_last old new (Kind.ConstrainsExcluded x aux v) clause conflict a b
  by_outcome old new (ConstrainsParent p aux v) clause conflict a b =
      added_last old new (Kind.ConstrainsParent p aux v) clause conflict a b
  by_outcome old new (Lock locked other) clause conflict a b =
      added_last old new (Kind.Lock locked other) clause conflict a b
  by_outcome old new (Exclude v reason) clause conflict a b =
      added_last old new (Kind.Excluded v reason) clause conflict a b
  by_outcome old new (AnyOf selected other) clause conflict a b =
      added_last old new (Kind.AnyOf selected other) clause conflict a b
  by_outcome old new (Learnt ls) clause conflict a b =
      added_last (with_learnt old ls) new (Kind.Learnt (length old.learnt)) clause conflict a b
  by_outcome old new (Load r) clause conflict a b = absurd (by_lists (lists_of old r) a)
    where
      by_lists : (o : Option (List (List ℕ))) → ClauseIs clause conflict ≡ (load old r o).reply → ⊥
      by_lists (Some lists) h = cc
      by_lists None h = cc
  by_outcome old new (Assign v value reason level) clause conflict a b = absurd (by_value (values old v) a)
    where
      by_test : (t : Bool) → ClauseIs clause conflict ≡ cond t Already Clash → ⊥
      by_test true h = cc
      by_test false h = cc

      by_value : (o : Option Bool) → ClauseIs clause conflict ≡ assign_reply o value → ⊥
      by_value None h = cc
      by_value (Some known) h = by_test (beq known value) h
  by_outcome old new Unpropagated clause conflict a b = absurd (by_entry (slice_get old.trail old.place) a)
    where
      by_entry : (o : Option Entry) → ClauseIs clause conflict ≡ (hands_next old o).reply → ⊥
      by_entry (Some e) h = cc
      by_entry None h = cc
  by_outcome old new (AtMostOnce name v) clause conflict a b =
      absurd (by_test (is_tracked nat_eq (old.trackers name) v) a)
    where
      by_test : (t : Bool)
          → ClauseIs clause conflict ≡
          (cond {A = Outcome N S} t (record { reply = TrackedAs false 0; store = old })
          (record {
            reply = TrackedAs true (length (tracking old name v));
            store = with_tracked old name v;
          })).reply → ⊥
      by_test true h = cc
      by_test false h = cc
  by_outcome old new Decide clause conflict a b = absurd (by_answer (falsified_clause old) (picked old) a)
    where
      by_answer : (f : Option RequiresClause) (o : Option Offer) → ClauseIs clause conflict ≡ decision f o → ⊥
      by_answer (Some c) o h = cc
      by_answer None (Some o) h = cc
      by_answer None None h = cc
  by_outcome old new _ clause conflict a b = cc

  -- a clause that is added gets the next id
  pub added_next : (old new : Store N S) (c : Command N S) (reply : Reply) → Step old c reply new
      → (clause : ℕ) (conflict : Bool) → reply ≡ ClauseIs clause conflict → IsNext old new clause
  added_next old new c reply step clause conflict is =
      by_refusal (first_refusal old c) (subst (λ x. Step old c x new) is step)
    where
      by_command : (d : Command N S) → IsAnswered old d (ClauseIs clause conflict) new → IsNext old new clause
      by_command (Saturate level) h = absurd h
      by_command d h = by_outcome old new d clause conflict h.1 h.2

      by_refusal : (e : Option StoreError) → MatchOption e
          (IsAnswered old c (ClauseIs clause conflict) new) (λ x. (ClauseIs clause conflict ≡ Refused x) × (new ≡ old))
          → IsNext old new clause
      by_refusal None h = by_command c h
      by_refusal (Some x) h = let no : ClauseIs clause conflict ≡ Refused x = h.0 in cc

  -- so it is known from then on
  pub added_known : (old new : Store N S) (c : Command N S) (reply : Reply) → Step old c reply new
      → (clause : ℕ) (conflict : Bool) → reply ≡ ClauseIs clause conflict → clause < length new.clauses
  added_known old new c reply step clause conflict is =
      let next = added_next old new c reply step clause conflict is in
      omega (arith, next.0, next.1)

  -- a clause that excludes a variable is there under its id, where it was added
  pub excluded_there : (old new : Store N S) (v : ℕ) (reason : StringId) (clause : ℕ) (conflict : Bool)
      → Step old (Exclude v reason) (ClauseIs clause conflict) new →
      slice_get new.clauses clause ≡ Some (Kind.Excluded v reason)
  excluded_there old new v reason clause conflict step =
      let answer = answered_by_outcome old new (Exclude v reason) (ClauseIs clause conflict) refl step (λ h. h) in
      let id : clause ≡ length old.clauses = let same : ClauseIs clause conflict
      ≡ (adds_clause old (Kind.Excluded v reason)).reply = answer.0 in cc in
      let clauses : new.clauses ≡ old.clauses ++ Kind.Excluded v reason ∷ [] =
      ap (λ (s : Store N S). s.clauses) answer.1 in
      rw (clauses, id) (last_at old.clauses (Kind.Excluded v reason))

  -- the literals of a clause that excludes a variable, where it was added
  pub excluded_literals : (old new : Store N S) (v : ℕ) (reason : StringId) (clause : ℕ) (conflict : Bool)
      → Step old (Exclude v reason) (ClauseIs clause conflict) new
      → option_map (literals_of (stored_of new)) (slice_get new.clauses clause) ≡ Some (Neg v ∷ [])
  excluded_literals old new v reason clause conflict step = by_refusal (first_refusal old (Exclude v reason)) step
    where
      goes : Type 0
      goes = option_map (literals_of (stored_of new)) (slice_get new.clauses clause) ≡ Some (Neg v ∷ [])

      by_refusal : (e : Option StoreError) →
          MatchOption e (IsAnswered old (Exclude v reason) (ClauseIs clause conflict) new) (λ x.
          (ClauseIs clause conflict ≡ Refused x) × (new ≡ old)) → goes
      by_refusal None h =
          let id : clause ≡ length old.clauses = let same : ClauseIs clause conflict
          ≡ (adds_clause old (Kind.Excluded v reason)).reply = h.1 in cc in
          let clauses : new.clauses ≡ old.clauses ++ Kind.Excluded v reason ∷ [] =
          ap (λ (s : Store N S). s.clauses) h.2 in
          rw (clauses, id, last_at old.clauses (Kind.Excluded v reason)) refl
      by_refusal (Some x) h = let no : ClauseIs clause conflict ≡ Refused x = h.0 in cc

  -- what a new helper variable stands for
  pub helper_stands : (old new : Store N S) (origin : HelperOrigin N) (variable : ℕ) →
      Step old (Helper origin) (VariableIs variable) new
      → slice_get new.origins variable ≡ Some (helper_origin origin)
  helper_stands old new origin variable step = by_refusal (first_refusal old (Helper origin)) step
    where
      goes : Type 0
      goes = slice_get new.origins variable ≡ Some (helper_origin origin)

      by_refusal : (e : Option StoreError) →
          MatchOption e (IsAnswered old (Helper origin) (VariableIs variable) new) (λ x.
          (VariableIs variable ≡ Refused x) × (new ≡ old)) → goes
      by_refusal None h =
          let id : variable ≡ length old.origins = let same : VariableIs variable ≡ VariableIs (length old.origins) =
          h.1 in cc in
          let origins : new.origins ≡ old.origins ++ helper_origin origin ∷ [] =
          ap (λ (s : Store N S). s.origins) h.2 in
          rw (origins, id, last_at old.origins (helper_origin origin)) refl
      by_refusal (Some x) h = let no : VariableIs variable ≡ Refused x = h.0 in cc
