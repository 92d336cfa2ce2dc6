-- What is computed is a run.
use Rattle.std.proofs.Common.{◌≡◌, ℕ, Bool, true, false, cond, ◌||◌, List, [], ◌∷◌, length, Option, Some, None, refl}
use Rattle.std.proofs.Common.{ap}
use Rattle.std.proofs.lemmas.List.Elements.{All-head, All-tail}
use Rattle.resolvo_store.proofs.RunLemmas.{is_answered}
use Rattle.test_store_calls.proofs.Words.{Already, answer, answered, Assign, assign_reply, AtMostOnce, beq, Clash}
use Rattle.test_store_calls.proofs.Words.{Command, Decide, decision, Entry, falsified_clause, first_refusal, hands_next}
use Rattle.test_store_calls.proofs.Words.{HasOutcome, IdSpace, is_saturate, is_tracked, IsAnswered, IsRefused}
use Rattle.test_store_calls.proofs.Words.{lacks_ids, lists_of, Load, load, MatchOption, may_use_up_answers, nat_eq}
use Rattle.test_store_calls.proofs.Words.{Offer, Outcome, outcome, picked, PlayIsRun, Refused, Reply, RequiresClause}
use Rattle.test_store_calls.proofs.Words.{slice_get, Step, Store, StoreError, TrackedAs, tracking, Unpropagated, values}
use Rattle.test_store_calls.proofs.Words.{with_tracked}

module _ {N S : Type 0} where
  -- no outcome is a refusal
  not_refused : (st : Store N S) (c : Command N S) → IsRefused (outcome st c).reply → ⊥
  not_refused st (Load r) h = by_lists (lists_of st r) h
    where
      by_lists : (o : Option (List (List ℕ))) → IsRefused (load st r o).reply → ⊥
      by_lists (Some lists) h = h
      by_lists None h = h
  not_refused st (Assign v value clause level) h = by_value (values st v) h
    where
      by_test : (b : Bool) → IsRefused (cond b Already Clash) → ⊥
      by_test true h = h
      by_test false h = h

      by_value : (o : Option Bool) → IsRefused (assign_reply o value) → ⊥
      by_value None h = h
      by_value (Some known) h = by_test (beq known value) h
  not_refused st Unpropagated h = by_entry (slice_get st.trail st.place) h
    where
      by_entry : (o : Option Entry) → IsRefused (hands_next st o).reply → ⊥
      by_entry (Some e) h = h
      by_entry None h = h
  not_refused st Decide h = by_answer (falsified_clause st) (picked st) h
    where
      by_answer : (f : Option RequiresClause) (o : Option Offer) → IsRefused (decision f o) → ⊥
      by_answer (Some c) o h = h
      by_answer None (Some o) h = h
      by_answer None None h = h
  not_refused st (AtMostOnce name v) h = by_test (is_tracked nat_eq (st.trackers name) v) h
    where
      by_test : (b : Bool) → IsRefused (cond {A = Outcome N S} b (record { reply = TrackedAs false 0; store = st })
          (record { reply = TrackedAs true (length (tracking st name v)); store = with_tracked st name v })).reply → ⊥
      by_test true h = h
      by_test false h = h
  not_refused st _ h = h

  -- where no ids are lacking, a command but Saturate is answered by its outcome
  outcome_answers : (st : Store N S) (c : Command N S) → is_saturate c ≡ false → lacks_ids st c ≡ false →
      IsAnswered st c (outcome st c).reply (outcome st c).store
  outcome_answers st c plain few =
      is_answered st (outcome st c).store c (outcome st c).reply plain
      (by_reply (outcome st c).reply (not_refused st c) refl)
    where
      by_reply : (reply : Reply) → (IsRefused reply → ⊥) → reply ≡ (outcome st c).reply →
          HasOutcome st c reply (outcome st c).store
      by_reply (Refused e) n is = absurd (n tt)
      by_reply _ n is = (few, is, refl)

  answer_is_step : (st : Store N S) (c : Command N S) → is_saturate c ≡ false →
      Step st c (answer st c).reply (answer st c).store
  answer_is_step st c plain = go (first_refusal st c)
    where
      by_ids : (b : Bool) → lacks_ids st c ≡ b →
          IsAnswered st c (cond b (record { reply = Refused IdSpace; store = st }) (outcome st c)).reply
          (cond b (record { reply = Refused IdSpace; store = st }) (outcome st c)).store
      by_ids true lacks = is_answered st st c (Refused IdSpace) plain (
        ap (λ b. b || may_use_up_answers st c) lacks,
        refl,
      )
      by_ids false few = outcome_answers st c plain few

      go : (e : Option StoreError) →
          MatchOption e (IsAnswered st c (answered st c e).reply (answered st c e).store) (λ x.
          ((answered st c e).reply ≡ Refused x) × ((answered st c e).store ≡ st))
      go (Some e) = (refl, refl)
      go None = by_ids (lacks_ids st c) refl

pub play_is_run : (N S : Type 0) → PlayIsRun N S
play_is_run N S st [] plain = refl
play_is_run N S st (c ∷ cs) plain = (
  (answer st c).store,
  answer_is_step st c (All-head (λ d. is_saturate d ≡ false) c cs plain),
  play_is_run N S (answer st c).store cs (All-tail (λ d. is_saturate d ≡ false) c cs plain),
)
