-- Tracking a variable: what its parts answer makes a step. N are the names, S the solvables.
use Rattle.std.proofs.Common.{◌≡◌, ℕ, Bool, true, false, cond, not, length, None, Result, Ok, Err, refl, sym, subst}
use Rattle.std.proofs.Common.{ap, ◌∙◌}
use Rattle.std.specs.Prelude.{[], ◌&&◌, ◌||◌, ◌==◌, nat_eq}
use Rattle.resolvo_store.proofs.Words.{AtMostOnce, Command, first_refusal, helper_for, IdSpace, IfErr, IfOk}
use Rattle.resolvo_store.proofs.Words.{is_helper_among, is_tracked, IsAnswered, IsGrowthRefusal, knows_variable}
use Rattle.resolvo_store.proofs.Words.{lacks_more, lacks_tracker, MatchOption, may_be_refused, OnErr, OnOk, Outcome}
use Rattle.resolvo_store.proofs.Words.{outcome, OutOfMemory, Refused, replied, Reply, Step, Store, StoreError, Tracked}
use Rattle.resolvo_store.proofs.Words.{TrackedAs, tracking, UnknownId, with_tracked}
use Rattle.resolvo_store.specs.Answers.{tracked as told}
use Rattle.resolvo_store.proofs.AddingLemmas.{none_yet}

-- of three tests one holds, in whatever order they are asked
one_holds : (l x y : Bool) → ((l || x) || y) ≡ true → ((l || y) || x) ≡ true
one_holds true x y h = refl
one_holds false true true h = refl
one_holds false true false h = refl
one_holds false false true h = refl
one_holds false false false h = h

module _ {N S : Type 0} (st : Store N S) (name : N) (v : ℕ) where
  abbrev command : Command N S
  command = AtMostOnce name v

  abbrev tracked : Bool
  tracked = is_tracked nat_eq (st.trackers name) v

  -- no id is left for a helper that is needed, or for the clauses
  abbrev pub lacks_others : Bool
  lacks_others = lacks_more st.origins (helper_for st name v) (length st.clauses) (length (tracking st name v))

  -- no id is left for something of these, or for the name's tracker
  abbrev pub lacks_any : Bool
  lacks_any = lacks_tracker (st.provider.is_large_name name) st.provider.are_names_many
      (st.trackers name) || lacks_others

  first_of_tracking : (st.provider.universe.knows_name name
      && (knows_variable st v && not (is_helper_among st.origins v))) ≡ true → first_refusal st command ≡ None
  first_of_tracking known = none_yet
      (not (st.provider.universe.knows_name name && (knows_variable st v && not (is_helper_among st.origins v))))
      UnknownId [] (ap not known)

  answered : (known : (st.provider.universe.knows_name name
      && (knows_variable st v && not (is_helper_among st.origins v))) ≡ true) (reply : Reply) (after : Store N S)
      → IsAnswered st command reply after → Step st command reply after
  answered known reply after is =
      subst (λ o. MatchOption o (IsAnswered st command reply after) (λ e. (reply ≡ Refused e) × (after ≡ st)))
      (sym (first_of_tracking known)) is

  -- it is tracked from now on, or that was refused
  pub step_tracked : (result : Result Tracked StoreError) (after : Store N S)
      → (st.provider.universe.knows_name name && (knows_variable st v && not (is_helper_among st.origins v)))
      ≡ true → tracked ≡ false
      → IfOk result (λ t. (t.is_new ≡ true) × (t.clauses ≡ length (tracking st name v)))
      → OnOk result (after ≡ with_tracked st name v) → OnErr result (after ≡ st)
      → OnOk result ((st.provider.is_large_name name || lacks_others) ≡ false) →
      IfErr result (IsGrowthRefusal lacks_any)
      → Step st command (replied told result) after
  step_tracked (Ok t) after known new said made left fits refused =
      let same : outcome st command ≡ record {
        reply = TrackedAs true (length (tracking st name v));
        store =
            with_tracked st name v;
      } =
      ap (λ b. cond b (let o : Outcome N S = record { reply = TrackedAs false 0; store = st } in
      o) (record { reply = TrackedAs true (length (tracking st name v)); store = with_tracked st name v })) new in
      subst (λ r. Step st command r after) (sym (ap (λ b. TrackedAs b t.clauses) said.0 ∙ ap (TrackedAs true) said.1))
      (answered known (TrackedAs true (length (tracking st name v))) after (
        ap (λ b. not b && (st.provider.is_large_name name || lacks_others)) new ∙ fits,
        sym (ap (λ o. o.reply) same),
        made ∙ sym (ap (λ o. o.store) same),
      ))
  step_tracked (Err e) after known new said made left fits refused =
      answered known (Refused e) after (may e refused, left)
    where
      may : (x : StoreError) → IsGrowthRefusal lacks_any x → may_be_refused st command x ≡ true
      may OutOfMemory h = ap not new
      may IdSpace h =
          ap (λ b. (not b && (st.provider.is_large_name name || lacks_others))
          || (st.provider.are_names_many && (length (st.trackers name).variables == 0))) new
          ∙ one_holds (st.provider.is_large_name name)
          (st.provider.are_names_many && (length (st.trackers name).variables == 0)) lacks_others h
      may _ h = absurd h
