-- The lists of each loaded requirement are its candidates' variables, in whatever store commands make.
use Rattle.std.proofs.Common.{◌≡◌, ℕ, Bool, true, false, cond, List, [], ◌∷◌, ◌++◌, length, Option, None}
use Rattle.std.proofs.Common.{Some, refl, sym, ◌∙◌, ap, subst, inl, inr}
use Rattle.std.specs.Prelude.{All, drop, slice_get, nat_eq}
use Rattle.std.proofs.lemmas.List.Elements.{All-nil, All-push, All-weaker}
use Rattle.resolvo_store.proofs.Words.{adds_clause, all_candidates, AreCandidates, AtMostOnce, BitClause}
use Rattle.resolvo_store.proofs.Words.{candidate_variables, Command, Entry, forbidding, hands_next}
use Rattle.resolvo_store.proofs.Words.{is_saturate, is_tracked, IsOfCandidates}
use Rattle.resolvo_store.proofs.Words.{IsRefused, lists_of, Load, load, LoadedAs, lookup, new_store, OnlyGrows, Outcome}
use Rattle.resolvo_store.proofs.Words.{outcome, Reply, Requirement, Run, same_requirement, Saturate}
use Rattle.resolvo_store.proofs.Words.{Step, Store, TrackedAs, tracking, Unpropagated}
use Rattle.resolvo_store.proofs.Words.{VariableOrigin, variables_loaded, with_bits}
use Rattle.resolvo_store.proofs.Words.{with_tracked}
use Rattle.resolvo_store.specs.Store.{Provider}
use Rattle.resolvo_store.proofs.CallerLaws.{answered_by_outcome}
use Rattle.resolvo_store.proofs.CandidateLists.{all_have, begun, found_entry, of_candidates-more}
use Rattle.resolvo_store.proofs.KeepingLaws.{keeps_load, OnlyGrows-outcome, OnlyGrows-step}
use Rattle.resolvo_store.proofs.KnownLemmas.{IsLawful}
use Rattle.resolvo_store.proofs.PartLaws.{same_requirement-equivalence}
use Rattle.resolvo_store.proofs.SoundSteps.{step_store, step_saturated}

-- what wasn't found is found once it stands at the end
pub found_last : {X : Type 0} (r : Requirement) (es : List (Requirement × X)) (x : X) →
    lookup (same_requirement r) es ≡ None → lookup (same_requirement r) (es ++ (r, x) ∷ []) ≡ Some x
found_last r [] x none = ap (λ b. cond b (Some x) None) (same_requirement-equivalence.refl r)
found_last r (e ∷ es) x none =
    (elim (same_requirement r e.0) as (λ b. cond b (Some e.1) (lookup (same_requirement r) es) ≡ None →
    cond b (Some e.1) (lookup (same_requirement r) (es ++ (r, x) ∷ [])) ≡ Some x)
    [ true ↦ λ k. cc | false ↦ λ k. found_last r es x k ]) none

-- the one command that loads
abbrev is_load : {N S : Type 0} → Command N S → Bool
is_load (Load r) = true
is_load _ = false

module _ {N S : Type 0} where
  -- ---- what was loaded stays of candidates

  entry_among_more : (old new : Store N S) (more : List (VariableOrigin N S)) → new.provider ≡ old.provider →
      new.origins ≡ old.origins ++ more → (entry : Requirement × List (List ℕ))
      → IsOfCandidates old.provider old.origins entry → IsOfCandidates new.provider new.origins entry
  entry_among_more old new more provider origins entry is =
      subst (λ (p : Provider N S). IsOfCandidates p new.origins entry) (sym provider)
      (subst (λ (os : List (VariableOrigin N S)). IsOfCandidates old.provider os entry) (sym origins)
      (of_candidates-more old.provider old.origins more entry is))

  entry_kept : (old new : Store N S) → OnlyGrows old new → (entry : Requirement × List (List ℕ)) →
      IsOfCandidates old.provider old.origins entry → IsOfCandidates new.provider new.origins entry
  entry_kept old new kept = entry_among_more old new (drop (length old.origins) new.origins) kept.provider
      (begun old.origins new.origins kept.origins)

  candidates_kept : (old new : Store N S) → OnlyGrows old new → new.loaded ≡ old.loaded → AreCandidates old →
      AreCandidates new
  candidates_kept old new kept same are =
      subst (λ (es : List (Requirement × List (List ℕ))). All (IsOfCandidates new.provider new.origins) es) (sym same)
      (All-weaker (IsOfCandidates old.provider old.origins) (IsOfCandidates new.provider new.origins)
      (entry_kept old new kept) old.loaded are)

  -- ---- commands

  -- no other command loads
  outcome_loaded : (st : Store N S) (c : Command N S) → is_load c ≡ false → (outcome st c).store.loaded ≡ st.loaded
  outcome_loaded st (Load r) h = (let no : true ≡ false = h in cc)
  outcome_loaded st Unpropagated h = by_entry (slice_get st.trail st.place)
    where
      by_entry : (o : Option Entry) → (hands_next st o).store.loaded ≡ st.loaded
      by_entry None = refl
      by_entry (Some e) = refl
  outcome_loaded st (AtMostOnce name v) h = by_tracked (is_tracked nat_eq (st.trackers name) v)
    where
      by_bits : (s : Store N S) (cs : List (BitClause ℕ)) → (with_bits name s cs).loaded ≡ s.loaded
      by_bits s [] = refl
      by_bits s (c ∷ cs) = by_bits (adds_clause s (forbidding name c)).store cs

      by_tracked : (b : Bool) → (cond {A = Outcome N S} b (record { reply = TrackedAs false 0; store = st })
          (record {
            reply = TrackedAs true (length (tracking st name v));
            store =
                with_tracked st name v;
          })).store.loaded ≡ st.loaded
      by_tracked true = refl
      by_tracked false = by_bits _ (tracking st name v)
  outcome_loaded st _ h = refl

  candidates_outcome : (st : Store N S) → IsLawful st.provider → (c : Command N S) → AreCandidates st →
      AreCandidates (outcome st c).store
  candidates_outcome st lawful (Load r) are = by_lists (lists_of st r)
    where
      new : Store N S
      new = (load st r None).store

      by_lists : (o : Option (List (List ℕ))) → AreCandidates (load st r o).store
      by_lists (Some lists) = are
      by_lists None =
          All-push (IsOfCandidates new.provider new.origins) st.loaded (r, variables_loaded st r)
          (All-weaker (IsOfCandidates st.provider st.origins) (IsOfCandidates new.provider new.origins)
          (entry_kept st new (keeps_load st r None)) st.loaded are)
          (record {
            have = all_have st.provider.same_solvable lawful.reflexive st.origins (all_candidates st r);
            lists = refl;
          })
  candidates_outcome st lawful d are =
      candidates_kept st (outcome st d).store (OnlyGrows-outcome st lawful d) (outcome_loaded st d refl) are

  -- ---- new stores, steps and runs

  -- of a new store, which has loaded nothing
  pub AreCandidates-new_store : (p : Provider N S) → AreCandidates (new_store p)
  AreCandidates-new_store p = All-nil (IsOfCandidates p (new_store p).origins)

  -- a step keeps it
  pub AreCandidates-step : (old new : Store N S) (c : Command N S) (reply : Reply) → IsLawful old.provider →
      AreCandidates old → Step old c reply new → AreCandidates new
  AreCandidates-step old new c reply lawful are step = by_command c step
    where
      same : new ≡ old → AreCandidates new
      same e = subst (λ (st : Store N S). AreCandidates st) (sym e) are

      plainly : (d : Command N S) → is_saturate d ≡ false → Step old d reply new → AreCandidates new
      plainly d plain s = elim (step_store old new d reply plain s) [
        | inl left ↦ same left
        | inr done ↦ subst (λ (st : Store N S). AreCandidates st) (sym done.1) (candidates_outcome old lawful d are)
      ]

      by_command : (d : Command N S) → Step old d reply new → AreCandidates new
      by_command (Saturate level) s = elim (step_saturated old new level reply s) [
        | inl left ↦ same left
        | inr done ↦ candidates_kept old new (OnlyGrows-step old new (Saturate level) reply lawful s)
            (ap (λ (st : Store N S). st.loaded) done.1.rest) are
      ]
      by_command d s = plainly d refl s

  -- and so does a run: it is true of every store that commands make of a new one
  pub AreCandidates-run : (old new : Store N S) (cs : List (Command N S)) (replies : List Reply) →
      IsLawful old.provider → AreCandidates old → Run old cs replies new → AreCandidates new
  AreCandidates-run old new [] [] lawful are ran = subst (λ (st : Store N S). AreCandidates st) (sym ran) are
  AreCandidates-run old new (c ∷ cs) (reply ∷ replies) lawful are ran =
      let first = OnlyGrows-step old ran.0 c reply lawful ran.1 in
      AreCandidates-run ran.0 new cs replies (subst (λ (p : Provider N S). IsLawful p) (sym first.provider) lawful)
      (AreCandidates-step old ran.0 c reply lawful are ran.1) ran.2
  AreCandidates-run old new [] (reply ∷ replies) lawful are ran = absurd ran
  AreCandidates-run old new (c ∷ cs) [] lawful are ran = absurd ran

  -- ---- what a Load answers

  module _ (old new : Store N S) (r : Requirement) (reply : Reply) (step : Step old (Load r) reply new)
      (answered : IsRefused reply → ⊥) where
    -- the lists of the requirement, from then on
    pub load_answers : (lists : List (List ℕ)) × (reply ≡ LoadedAs lists) × (lists_of new r ≡ Some lists)
    load_answers =
        let answer = answered_by_outcome old new (Load r) reply refl step answered in
        by_lists (lists_of old r) refl answer.0 answer.1
      where
        by_lists : (o : Option (List (List ℕ))) → lists_of old r ≡ o → reply ≡ (load old r o).reply →
            new ≡ (load old r o).store
            → (lists : List (List ℕ)) × (reply ≡ LoadedAs lists) × (lists_of new r ≡ Some lists)
        by_lists (Some lists) e a b = (lists, a, ap (λ (st : Store N S). lists_of st r) b ∙ e)
        by_lists None e a b = (
          variables_loaded old r,
          a,
          ap (λ (st : Store N S). lists_of st r) b
              ∙ found_last r old.loaded (variables_loaded old r) e,
        )

    -- those that were loaded before
    pub load_again : (lists : List (List ℕ)) → lists_of old r ≡ Some lists → reply ≡ LoadedAs lists
    load_again lists before =
        (answered_by_outcome old new (Load r) reply refl step answered).0
        ∙ ap (λ (o : Option (List (List ℕ))). (load old r o).reply) before

    -- they are of the candidates' variables
    pub load_candidates : IsLawful old.provider → AreCandidates old → reply ≡ LoadedAs (candidate_variables new r)
    load_candidates lawful are =
        let answer = load_answers in
        let after = AreCandidates-step old new (Load r) reply lawful are step in
        answer.1 ∙ ap LoadedAs
        (found_entry (IsOfCandidates new.provider new.origins) r new.loaded answer.0 after answer.2).lists
