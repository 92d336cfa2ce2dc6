-- What a Saturate answers, and that it leaves a sound store sound. N are the names, S the solvables.
use Rattle.std.proofs.Common.{◌≡◌, ℕ, ◌<◌, ◌≤◌, ◌^◌, Bool, true, false, not, List, [], ◌∷◌, ◌++◌, length, refl, sym}
use Rattle.std.proofs.Common.{subst, ◌∙◌, ap, ◌⊎◌, inl, inr, Option, None, Some}
use Rattle.std.proofs.lemmas.List.{append-nil, append_assoc}
use Rattle.std.proofs.lemmas.List.Elements.{All-weaker}
use Rattle.watch_map.proofs.ImplicationLaws.{forced_was_open, forced_is_own}
use Rattle.watch_map.proofs.ValueLaws.{decided_variable}
use Rattle.resolvo_store.proofs.Words.{AreImplied, clause_literals, Command, Conflict, decided_literal, Done, Entry}
use Rattle.resolvo_store.proofs.Words.{first_refusal, HasLevel, is_level, is_saturate, IsAnswered, IsAssigned, IsExact}
use Rattle.resolvo_store.proofs.Words.{IsImplied, IsLoaded, IsRearranged, IsRefused, IsSaturated, IsSound, IsVariable}
use Rattle.resolvo_store.proofs.Words.{LevelOutOfRange, Lit, MatchOption, OutOfMemory, RefusalLeaves, Refused, Reply}
use Rattle.resolvo_store.proofs.Words.{Saturate, Saturates, Step, Store, StoreError}
use Rattle.resolvo_store.specs.Store.{watched_by}
use Rattle.resolvo_store.specs.Sound.{IsRegistered}
use Rattle.resolvo_store.proofs.AddingLemmas.{first_of}
use Rattle.resolvo_store.proofs.LiteralLaws.{clause_there, literal_known}
use Rattle.resolvo_store.proofs.RunLemmas.{has_outcome}
use Rattle.resolvo_store.proofs.SoundLaws.{IsSound-pushed}

module _ {N S : Type 0} where
  -- what a Saturate leaves, whatever it replies
  pub saturated_so_far : (level : ℕ) (old new : Store N S) (reply : Reply) → Saturates level old reply new →
      IsSaturated level old new
  saturated_so_far level old new Done is = is.0
  saturated_so_far level old new (Conflict c) is = is.0
  saturated_so_far level old new (Refused OutOfMemory) is = is
  saturated_so_far level old new (Refused e) is = absurd is
  saturated_so_far level old new reply is = absurd is

  -- it is refused for its level, or saturates the store
  pub saturate_answered : (old new : Store N S) (level : ℕ) (reply : Reply) → Step old (Saturate level) reply new
      → ((reply ≡ Refused LevelOutOfRange) × (new ≡ old)) ⊎ ((is_level level ≡ true) × Saturates level old reply new)
  saturate_answered old new level reply step = by_level (is_level level) refl step
    where
      by_level : (b : Bool) → is_level level ≡ b →
          MatchOption (first_of ((not b, LevelOutOfRange) ∷ [])) (Saturates level old reply new)
          (λ e. (reply ≡ Refused e) × (new ≡ old))
          → ((reply ≡ Refused LevelOutOfRange) × (new ≡ old)) ⊎ ((is_level level ≡ true)
          × Saturates level old reply new)
      by_level true e h = inr (e, h)
      by_level false e h = inl h

  module _ (level : ℕ) (in_range : (1 ≤ level) × (level < 2 ^ 31)) where
    -- a forced entry has its level, and is of a variable and a clause of the store
    has_level : (st : Store N S) (e : Entry) → IsImplied (clause_literals st) level st.trail e → HasLevel e
    has_level st e implied = subst (λ n. (1 ≤ n) × (n < 2 ^ 31)) (sym implied.at_level) in_range

    is_assigned : (st : Store N S) → IsSound st → (e : Entry) → IsImplied (clause_literals st) level st.trail e →
        IsAssigned st e
    is_assigned st sound e implied =
        let own = forced_is_own (clause_literals st) level st.trail e implied in
        let known = literal_known st sound e.decision.derived_from (decided_literal e.decision) own in
        record {
          variable = subst (IsVariable st) (decided_variable e.decision) known;
          clause =
              clause_there st e.decision.derived_from (decided_literal e.decision) own;
        }

    -- entries that clauses force, one after another
    IsSound-implied : (st : Store N S) (added : List Entry) → IsSound st →
        AreImplied (clause_literals st) level st.trail added → IsSound (record st { trail = st.trail ++ added })
    IsSound-implied st [] sound implied =
        subst (λ es. IsSound (record st { trail = es })) (sym (append-nil st.trail)) sound
    IsSound-implied st (e ∷ added) sound implied =
        subst (λ es. IsSound (record st { trail = es })) (append_assoc st.trail (e ∷ []) added)
        (IsSound-implied (record st { trail = st.trail ++ e ∷ [] }) added
        (IsSound-pushed st sound e (forced_was_open (clause_literals st) level st.trail e implied.0)
        (is_assigned st sound e implied.0) (has_level st e implied.0)) implied.1)

  -- other watches of their clauses' own literals, in exact lists
  IsSound-rearranged : (st : Store N S) (watches : List (List Lit)) (watchers : Lit → List ℕ) (new : Store N S) →
      new ≡ record st { watches = watches; watchers = watchers }
      → IsSound st → IsRearranged (clause_literals st) (watched_by st) (watched_by new) →
      length new.watches ≡ length st.watches → IsExact (watched_by new) new.watchers → IsSound new
  IsSound-rearranged st watches watchers new is sound rearranged watched exact =
      let own = subst (λ (s : Store N S). IsRearranged (clause_literals st) (watched_by st) (watched_by s)) is
      rearranged in
      let made : Store N S = record st { watches = watches; watchers = watchers } in
      subst (λ s. IsSound s) (sym is) (record {
        root_first = sound.root_first;
        origins_known = sound.origins_known;
        one_variable_each = sound.one_variable_each;
        loaded_once = sound.loaded_once;
        loaded = All-weaker (IsLoaded st) (IsLoaded made) (λ e k. record {
          one_a_set = k.one_a_set;
          variables =
              k.variables;
        }) st.loaded sound.loaded;
        registered = sound.registered;
        clauses = All-weaker (IsRegistered st) (IsRegistered made)
            (λ d k. record { parent = k.parent; loaded = k.loaded; condition = k.condition }) st.requires sound.clauses;
        clauses_known = sound.clauses_known;
        learnt_known = sound.learnt_known;
        disjunctions_known = sound.disjunctions_known;
        watched = subst (λ (s : Store N S). length s.watches ≡ length st.watches) is watched ∙ sound.watched;
        own = own.own;
        exact = subst (λ (s : Store N S). IsExact (watched_by s) s.watchers) is exact;
        tracked = sound.tracked;
        place = sound.place;
        trail = sound.trail;
        assigned = All-weaker (IsAssigned st) (IsAssigned made)
            (λ e k. record { variable = k.variable; clause = k.clause }) st.trail sound.assigned;
      })

  pub IsSound-saturated : (level : ℕ) (old new : Store N S) → (1 ≤ level) × (level < 2 ^ 31) → IsSound old →
      IsSaturated level old new → IsSound new
  IsSound-saturated level old new in_range sound is =
      IsSound-rearranged (record old { trail = old.trail ++ is.added }) is.watches is.watchers new is.rest
      (IsSound-implied level in_range old is.added sound is.implied) is.rearranged is.watched is.exact

  -- ---- refusals

  -- where nothing changes a sound store is saturated so far
  unchanged : (st : Store N S) (level : ℕ) → IsSound st → IsSaturated level st st
  unchanged st level sound = record {
    added = [];
    implied = tt;
    watches = st.watches;
    watchers = st.watchers;
    rest = ap (λ es. record st { trail = es }) (sym (append-nil st.trail));
    watched = refl;
    rearranged = record { own = sound.own; as_many = λ c. refl };
    exact = sound.exact;
  }

  -- what a refused command leaves
  pub refusal_leaves : (old new : Store N S) (c : Command N S) (reply : Reply) → IsSound old → Step old c reply new →
      IsRefused reply → RefusalLeaves c old new
  refusal_leaves old new c (Refused e) sound step refused = by_command c step
    where
      plainly : (d : Command N S) → is_saturate d ≡ false → Step old d (Refused e) new → new ≡ old
      plainly d plain s = by_refusal (first_refusal old d) s
        where
          by_refusal : (x : Option StoreError) →
              MatchOption x (IsAnswered old d (Refused e) new) (λ y. (Refused e ≡ Refused y) × (new ≡ old)) → new ≡ old
          by_refusal None h = (has_outcome old new d (Refused e) plain h).1
          by_refusal (Some y) h = h.1

      by_command : (d : Command N S) → Step old d (Refused e) new → RefusalLeaves d old new
      by_command (Saturate level) s = elim (saturate_answered old new level (Refused e) s) [
        | inl same ↦ subst (λ st. IsSaturated level old st) (sym same.1) (unchanged old level sound)
        | inr is ↦ saturated_so_far level old new (Refused e) is.1
      ]
      by_command d s = plainly d refl s
  refusal_leaves old new c _ sound step refused = absurd refused
