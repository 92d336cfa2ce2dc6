-- A sound store stays sound where it has more in it, or less.
use Rattle.std.proofs.Common.{◌≡◌, ℕ, true, List, [], ◌∷◌, ◌++◌, length, map, Option, None, Some, IsSome, false, refl}
use Rattle.std.specs.Prelude.{◌<◌, slice_get, All}
use Rattle.variables.specs.Variables.{with_variable}
use Rattle.resolvo_store.proofs.Words.{adds_clause, AreLiterals, assigned, Clause, clause_literals, cut_back}
use Rattle.resolvo_store.proofs.Words.{entries_until, Entry, flat_map, hands_next, HasLevel, helper_origin}
use Rattle.resolvo_store.proofs.Words.{HelperOrigin, IfSome, interned_variable, is_literal_in, IsAssigned}
use Rattle.resolvo_store.proofs.Words.{IsKnownClause, IsPlain, IsSound, IsVariable, knows_helper, knows_requirement}
use Rattle.resolvo_store.proofs.Words.{lists_of, Lit, propagated, Requirement, sets_of, Store, values, with_disjunction}
use Rattle.resolvo_store.proofs.Words.{with_registered, with_variables, without_newest}
use Rattle.resolvo_store.specs.Store.{watched_by}
use Rattle.resolvo_store.specs.Outcome.{with_learnt, with_rewatched}
use Rattle.resolvo_store.proofs.KnownLemmas.{IsKnownSolvable, IsLawful}
use Rattle.resolvo_store.proofs.StoredStores.{IsStored, IsStored-sound, IsSound-stored}
use Rattle.resolvo_store.proofs.TrackingLaws.{AreTracked-clause, AreTracked-origin, AreTracked-variables}
use Rattle.clauses.specs.declared.clause.Clause.TheVariants as Kind
use Rattle.resolvo_store.proofs.StoredLaws as stored
use Rattle.resolvo_store.proofs.InternedLaws as interned

module _ {N S : Type 0} (st : Store N S) (sound : IsSound st) where
  pub IsSound-scored : (scores : N → ℕ) → IsSound (record st { scores = scores })
  IsSound-scored scores = IsSound-stored (stored.IsStored-scored st (IsStored-sound sound) scores) sound.tracked

  pub IsSound-disjunction : (ls : List Lit) (condition : ℕ) → AreLiterals st ls →
      IsSound (with_disjunction st ls condition)
  IsSound-disjunction ls condition known =
      IsSound-stored (stored.IsStored-disjunction st (IsStored-sound sound) ls condition known) sound.tracked

  pub IsSound-added : (c : Clause N) → IsKnownClause st.provider.universe st.origins c → IsPlain c →
      IsSound (adds_clause st c).store
  IsSound-added c known plain = IsSound-stored (stored.IsStored-added st
      (IsStored-sound sound) c known plain.unregistered) (AreTracked-clause st c plain.untracked sound.tracked)

  pub IsSound-learnt : (ls : List Lit) → AreLiterals st ls →
      IsSound (adds_clause (with_learnt st ls) (Kind.Learnt (length st.learnt))).store
  IsSound-learnt ls known = IsSound-stored (stored.IsStored-learnt st (IsStored-sound sound) ls known)
      (AreTracked-clause st (Kind.Learnt (length st.learnt)) (λ named. refl) sound.tracked)

  pub IsSound-requires : (parent : ℕ) (disjunction : Option ℕ) (r : Requirement) →
      knows_requirement st.provider.universe r ≡ true
      → IsVariable st parent → IsSome (lists_of st r) → IfSome disjunction (λ d. d < length st.disjunctions)
      → IsSound (adds_clause (with_registered st parent r disjunction) (Kind.Requires parent disjunction r)).store
  IsSound-requires parent disjunction r requirement known found kept =
      IsSound-stored (stored.IsStored-requires st (IsStored-sound sound) parent disjunction r requirement known found
      kept)
      (AreTracked-clause st (Kind.Requires parent disjunction r) (λ named. refl) sound.tracked)

  pub IsSound-rewatched : (c : ℕ) (from to : Lit) → is_literal_in from (watched_by st c) ≡ true →
      is_literal_in to (watched_by st c) ≡ false
      → is_literal_in to (clause_literals st c) ≡ true → IsSound (with_rewatched st c from to)
  IsSound-rewatched c from to watches other has =
      IsSound-stored (stored.IsStored-rewatched st (IsStored-sound sound) c from to watches other has) sound.tracked

  pub IsSound-pushed : (e : Entry) → values st e.decision.variable ≡ None → IsAssigned st e → HasLevel e →
      IsSound (record st { trail = st.trail ++ e ∷ [] })
  IsSound-pushed e free is level =
      IsSound-stored (stored.IsStored-pushed st (IsStored-sound sound) e free is level) sound.tracked

  pub IsSound-assigned : (e : Entry) → IsAssigned st e → HasLevel e →
      IsSound (record st { trail = assigned (values st e.decision.variable) st.trail e })
  IsSound-assigned e is level = IsSound-stored (stored.IsStored-assigned st (IsStored-sound sound) e is level)
      sound.tracked

  pub IsSound-entries_until : (l : ℕ) → IsSound (cut_back st (entries_until l st.trail))
  IsSound-entries_until l = IsSound-stored (stored.IsStored-entries_until st (IsStored-sound sound) l) sound.tracked

  pub IsSound-without_newest : IsSound (cut_back st (without_newest st.trail))
  IsSound-without_newest = IsSound-stored (stored.IsStored-without_newest st (IsStored-sound sound)) sound.tracked

  pub IsSound-hands_next : IsSound (hands_next st (slice_get st.trail st.place)).store
  IsSound-hands_next = by_entry (slice_get st.trail st.place) (stored.IsStored-hands_next st (IsStored-sound sound))
    where
      by_entry : (o : Option Entry) → IsStored (hands_next st o).store → IsSound (hands_next st o).store
      by_entry None h = sound
      by_entry (Some e) h = IsSound-stored h sound.tracked

  pub IsSound-propagated : (floor : ℕ) → let t =
      propagated (record { entries = st.trail; place = st.place; floor = floor }) in
      IsSound (record st { trail = t.entries; place = t.place })
  IsSound-propagated floor = IsSound-stored (stored.IsStored-propagated st (IsStored-sound sound) floor) sound.tracked

  pub IsSound-helper : (origin : HelperOrigin N) → knows_helper st origin ≡ true →
      IsSound (record st { origins = st.origins ++ helper_origin origin ∷ [] })
  IsSound-helper origin known =
      IsSound-stored (stored.IsStored-helper st (IsStored-sound sound) origin known)
      (AreTracked-origin st (helper_origin origin) sound.tracked)

module _ {N S : Type 0} (st : Store N S) (sound : IsSound st) (lawful : IsLawful st.provider) where
  pub IsSound-with_variables : (ss : List S) → All (IsKnownSolvable st.provider.universe) ss
      → IsSound (record st { origins = with_variables st.provider.same_solvable st.origins ss })
  IsSound-with_variables ss known =
      IsSound-stored (interned.IsStored-with_variables st (IsStored-sound sound) lawful ss known)
      (AreTracked-variables st ss sound.tracked)

  pub IsSound-with_variable : (s : S) → IsKnownSolvable st.provider.universe s →
      IsSound (record st { origins = with_variable st.provider.same_solvable st.origins s })
  IsSound-with_variable s known =
      IsSound-stored (interned.IsStored-with_variable st (IsStored-sound sound) lawful s known)
      (AreTracked-variables st (s ∷ []) sound.tracked)

  pub IsSound-interned : (r : Requirement) {C : Type 0} (members : C → List S) (cs : List C) →
      All (IsKnownSolvable st.provider.universe) (flat_map members cs)
      → lists_of st r ≡ None → length cs ≡ length (sets_of st.provider.universe r)
      → IsSound (record st {
        origins = with_variables st.provider.same_solvable st.origins (flat_map members cs);
        loaded = st.loaded ++ (
          r,
          map (λ c. map (interned_variable st.provider.same_solvable
              (with_variables st.provider.same_solvable st.origins (flat_map members cs))) (members c)) cs,
        ) ∷ [];
      })
  IsSound-interned r members cs known fresh one_each =
      IsSound-stored (interned.IsStored-interned st (IsStored-sound sound) lawful r members cs known fresh one_each)
      (AreTracked-variables st (flat_map members cs) sound.tracked)
