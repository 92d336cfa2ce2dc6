-- What a typed call tells: an assignment, a load, a clause that is registered, a decision; and that what is refused
-- changes nothing.
use Rattle.std.proofs.Common.{◌≡◌, ℕ, Bool, true, false, cond, not, List, [], ◌∷◌, ◌++◌, Option, None, Some, length}
use Rattle.std.proofs.Common.{refl, sym, subst, ap, ◌∙◌}
use Rattle.resolvo_store.proofs.CallerLaws.{answered_by_outcome, load_adds_no_clause, assigned_value, clashing_value}
use Rattle.resolvo_store.proofs.RunLemmas.{has_outcome}
use Rattle.test_store_calls.proofs.Words.{adds_clause, Already, Assign, assign_reply, assigned, Assignment, assignment}
use Rattle.test_store_calls.proofs.Words.{beq, Clash, ClauseIs, Command, Decide, decision, Entry, Err, Falsified}
use Rattle.test_store_calls.proofs.Words.{falsified_clause, first_refusal, IfErr, is_saturate, IsAnswered, lists_of}
use Rattle.test_store_calls.proofs.Words.{Load, LoadedAs, MatchOption, Offer, Ok, OnErr, OnOk, option_map, picked}
use Rattle.test_store_calls.proofs.Words.{Refused, Requirement, Requires, RequiresClause, Result, Step, Store}
use Rattle.test_store_calls.proofs.Words.{StoreError, val, values, with_registered}
use Rattle.resolvo_store.specs.declared.answers.Assignment.TheVariants as Made

-- whether the variable has the value that was given
abbrev pub is_given : Assignment → Bool
is_given Made.Clash = false
is_given _ = true

-- what is true in any case is true of an error
pub on_error : {T E : Type 0} (P : Type 0) (r : Result T E) → P → OnErr r P
on_error P (Ok x) p = tt
on_error P (Err e) p = p

module _ {N S : Type 0} where
  -- a command but Saturate that is refused changes nothing
  pub refused_stays : (old new : Store N S) (c : Command N S) (e : StoreError) → is_saturate c ≡ false →
      Step old c (Refused e) new → new ≡ old
  refused_stays old new c e plain step = by_refusal (first_refusal old c) step
    where
      by_refusal : (x : Option StoreError) →
          MatchOption x (IsAnswered old c (Refused e) new) (λ y. (Refused e ≡ Refused y) × (new ≡ old)) → new ≡ old
      by_refusal None h = (has_outcome old new c (Refused e) plain h).1
      by_refusal (Some y) h = h.1

  -- after `Already` the variable has the value, as it had before
  known_value : (old new : Store N S) (v : ℕ) (value : Bool) (clause level : ℕ) →
      Step old (Assign v value clause level) Already new
      → values new v ≡ Some value
  known_value old new v value clause level step =
      let answer = answered_by_outcome old new (Assign v value clause level) Already refl step (λ h. h) in
      subst (λ st. values st v ≡ Some value) (sym answer.1) (by_value (values old v) refl answer.0)
    where
      entry : Entry
      entry = record { decision = record { variable = v; value = value; derived_from = clause }; level = level }

      same : (known : Bool) → Already ≡ cond (beq known value) Already Clash → known ≡ value
      same known = by_both known value
        where
          by_both : (a b : Bool) → Already ≡ cond (beq a b) Already Clash → a ≡ b
          by_both true true h = refl
          by_both true false h = cc
          by_both false true h = cc
          by_both false false h = refl

      by_value : (o : Option Bool) → values old v ≡ o → Already ≡ assign_reply o value →
          val (assigned o old.trail entry) v ≡ Some value
      by_value None h e = cc
      by_value (Some known) h e = h ∙ ap Some (same known e)

  -- what is answered tells the variable's value: it is the one that was given, or else the other one
  pub given_value : (old new : Store N S) (v : ℕ) (value : Bool) (clause level : ℕ) (made : Assignment)
      → Step old (Assign v value clause level) (assignment made) new →
      values new v ≡ Some (cond (is_given made) value (not value))
  given_value old new v value clause level Made.New step = assigned_value old new v value clause level step
  given_value old new v value clause level Made.Already step = known_value old new v value clause level step
  given_value old new v value clause level Made.Clash step = clashing_value old new v value clause level step

  -- ---- loads

  -- one that was accepted adds no clause, whatever its lists are
  loaded_adds_no_clause : (old new : Store N S) (r : Requirement) →
      MatchOption (lists_of new r) ⊥ (λ lists. Step old (Load r) (LoadedAs lists) new)
      → new.requires ≡ old.requires
  loaded_adds_no_clause old new r kept = by_lists (lists_of new r) kept
    where
      by_lists : (o : Option (List (List ℕ))) → MatchOption o ⊥ (λ lists. Step old (Load r) (LoadedAs lists) new) →
          new.requires ≡ old.requires
      by_lists None h = absurd h
      by_lists (Some lists) h = load_adds_no_clause old new r (LoadedAs lists) h

  -- nor does one that was refused
  pub load_keeps_clauses : {T : Type 0} (old new : Store N S) (r : Requirement) (result : Result T StoreError)
      → OnOk result (MatchOption (lists_of new r) ⊥ (λ lists. Step old (Load r) (LoadedAs lists) new))
      → IfErr result (λ e. Step old (Load r) (Refused e) new) → new.requires ≡ old.requires
  load_keeps_clauses old new r (Ok x) kept refused = loaded_adds_no_clause old new r kept
  load_keeps_clauses old new r (Err e) kept refused = load_adds_no_clause old new r (Refused e) refused

  -- ---- clauses and decisions

  -- a clause that requires is registered under the id that it was added under
  pub registered : (old new : Store N S) (parent : ℕ) (r : Requirement) (clause : ℕ) (conflict : Bool)
      → Step old (Requires parent r None) (ClauseIs clause conflict) new
      → new.requires ≡ old.requires ++ (record {
        parent = parent;
        requirement = r;
        condition = None;
        clause_id =
            clause;
      }) ∷ []
  registered old new parent r clause conflict step =
      let answer = answered_by_outcome old new (Requires parent r None) (ClauseIs clause conflict) refl step (λ h. h) in
      let id : clause ≡ length old.clauses = let same : ClauseIs clause conflict ≡ ClauseIs (length old.clauses) _ =
      answer.0 in cc in
      rw id (ap (λ (st : Store N S). st.requires) answer.1)

  -- where a Decide answers `Falsified`, that is the first falsified clause
  pub falsified_told : (old new : Store N S) (clause : ℕ) → Step old Decide (Falsified clause) new
      → option_map (λ c. c.clause_id) (falsified_clause new) ≡ Some clause
  falsified_told old new clause step =
      let answer = answered_by_outcome old new Decide (Falsified clause) refl step (λ h. h) in
      subst (λ (st : Store N S). option_map (λ c. c.clause_id) (falsified_clause st) ≡ Some clause) (sym answer.1)
      (by_answer (falsified_clause old) (picked old) answer.0)
    where
      by_answer : (f : Option RequiresClause) (o : Option Offer) → Falsified clause ≡ decision f o →
          option_map (λ c. c.clause_id) f ≡ Some clause
      by_answer (Some c) o h = (let same : Falsified clause ≡ Falsified c.clause_id = h in cc)
      by_answer None (Some o) h = cc
      by_answer None None h = cc
