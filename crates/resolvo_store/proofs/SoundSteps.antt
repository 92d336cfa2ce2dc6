-- Steps and runs lead from sound stores to sound ones, and a new store is sound.
use Rattle.std.proofs.Common.{◌≡◌, ℕ, ◌<◌, ◌≤◌, Bool, true, false, cond, List, [], ◌∷◌, length, Option, None, Some}
use Rattle.std.proofs.Common.{IsSome, refl, arith, sym, ◌∙◌, ap, subst, zero, suc, ◌⊎◌, inl, inr}
use Rattle.std.specs.Prelude.{◌^◌, nat_eq, slice_get, option_map, ◌&&◌, not}
use Rattle.std.proofs.lemmas.Bool.Decides.{nat_tests}
use Rattle.std.proofs.lemmas.List.Elements.{All-nil, All-cons}
use Rattle.variables.specs.declared.variable_origin.VariableOrigin.TheVariants.{Root as RootOrigin}
use Rattle.resolvo_store.proofs.Words.{adds_clause, AnyOf, AreLiterals, Assign, AtMostOnce, BitClause, Bump, bumped}
use Rattle.resolvo_store.proofs.Words.{candidates_of, clause_literals, Command, Constrains, ConstrainsExcluded}
use Rattle.resolvo_store.proofs.Words.{ConstrainsParent, Decay, decayed, Decide, Entry, Exclude, find, first_refusal}
use Rattle.resolvo_store.proofs.Words.{forbidding, hands_next, HasLevel, HasOneVariableEach, HasOutcome, Helper}
use Rattle.resolvo_store.proofs.Words.{is_helper_among, is_level, is_literal_in, is_none, is_saturate, is_tracked}
use Rattle.resolvo_store.proofs.Words.{IsAnswered, IsAssigned, IsDistinct, IsKnownClause, IsLoaded, IsSaturated}
use Rattle.resolvo_store.proofs.Words.{IsSound, knows_disjunction, knows_literal, knows_requirement, knows_variable}
use Rattle.resolvo_store.proofs.Words.{Learnt, list_all, lists_of, Load, load, Lock, MatchOption, may_rewatch}
use Rattle.resolvo_store.proofs.Words.{new_store, Outcome, outcome, refusals, Refused, Reply, Requires, Rewatch, Run}
use Rattle.resolvo_store.proofs.Words.{same_requirement, Saturate, sets_of, Standard, Step, Store, StoredDisjunction}
use Rattle.resolvo_store.proofs.Words.{StoreError, TrackedAs, tracking, UndoLast, UndoUntil, Universe, Unpropagated}
use Rattle.resolvo_store.proofs.Words.{Variable, Watchers, with_bits, with_tracked, ⊤}
use Rattle.resolvo_store.specs.Command.{Root, Disjunction}
use Rattle.resolvo_store.specs.Store.{Provider, watched_by}
use Rattle.resolvo_store.specs.Sound.{IsRegistered}
use Rattle.resolvo_store.proofs.AddingLemmas.{both, failed, disjunction_known}
use Rattle.resolvo_store.proofs.RunLemmas.{has_outcome}
use Rattle.resolvo_store.proofs.SaturatedLaws.{saturated_so_far, saturate_answered, IsSound-saturated}
use Rattle.resolvo_store.proofs.SoundLaws.{IsSound-with_variable, IsSound-interned, IsSound-added, IsSound-helper}
use Rattle.resolvo_store.proofs.SoundLaws.{IsSound-requires, IsSound-disjunction, IsSound-learnt, IsSound-scored}
use Rattle.resolvo_store.proofs.SoundLaws.{IsSound-rewatched, IsSound-assigned, IsSound-without_newest}
use Rattle.resolvo_store.proofs.SoundLaws.{IsSound-entries_until, IsSound-hands_next}
use Rattle.resolvo_store.proofs.TrackedLaws.{IsSound-tracked}
use Rattle.resolvo_store.proofs.KnownLemmas.{IsKnownOrigin, IsLawful, known_direct, literals_below, all_known}
use Rattle.clauses.specs.declared.clause.Clause.TheVariants as Kind
use Rattle.at_most_once.specs.AtMostOne as tracking_of

-- ---- refusals

-- no test of a refusal holds
abbrev NoneApplies : List (Bool × StoreError) → Type 0
NoneApplies [] = ⊤
NoneApplies (r ∷ rs) = (r.0 ≡ false) × NoneApplies rs

none_applies : (rs : List (Bool × StoreError)) →
    option_map (λ (r : Bool × StoreError). r.1) (find (λ (r : Bool × StoreError). r.0) rs) ≡ None → NoneApplies rs
none_applies [] none = tt
none_applies (r ∷ rs) none =
    let split = by_test r.0 (find (λ (x : Bool × StoreError). x.0) rs) none in
    (split.0, none_applies rs split.1)
  where
    by_test : (b : Bool) (o : Option (Bool × StoreError)) →
        option_map (λ (x : Bool × StoreError). x.1) (cond b (Some r) o) ≡ None
        → (b ≡ false) × (option_map (λ (x : Bool × StoreError). x.1) o ≡ None)
    by_test true o h = cc
    by_test false o h = (refl, h)

-- a test whose failure is refused holds
passed : (b : Bool) → not b ≡ false → b ≡ true
passed true h = refl
passed false h = (let no : true ≡ false = h in cc)

is_there : {X : Type 0} (o : Option X) → is_none o ≡ false → IsSome o
is_there None h = let no : true ≡ false = h in cc
is_there (Some x) h = refl

module _ {N S : Type 0} (st : Store N S) (sound : IsSound st) (lawful : IsLawful st.provider) where
  -- ---- a command that nothing refuses

  -- its first test holds, by which all that it names is known
  abbrev test_of : (c : Command N S) → first_refusal st c ≡ None → NoneApplies (refusals st c)
  test_of c none = none_applies (refusals st c) none

  abbrev universe : Universe N S
  universe = st.provider.universe

  pub IsSound-outcome : (c : Command N S) → first_refusal st c ≡ None → IsSound (outcome st c).store
  IsSound-outcome (Variable s) none = IsSound-with_variable st sound lawful s (passed _ (test_of (Variable s) none).0)
  IsSound-outcome (Helper origin) none = IsSound-helper st sound origin (passed _ (test_of (Helper origin) none).0)
  IsSound-outcome (Load r) none = by_lists (lists_of st r) refl
    where
      by_lists : (o : Option (List (List ℕ))) → lists_of st r ≡ o → IsSound (load st r o).store
      by_lists (Some lists) h = sound
      by_lists None h = IsSound-interned st sound lawful r (candidates_of st) (sets_of universe r)
          (all_known st.provider lawful (sets_of universe r)) h refl
  IsSound-outcome (Requires parent r disjunction) none =
      let tests = test_of (Requires parent r disjunction) none in
      let known : parent < length st.origins = grind (arith, nat_tests, tests.0) in
      let named = both (knows_variable st parent) (knows_requirement universe r && knows_disjunction st disjunction)
      (passed _ tests.0) in
      let requirement = both (knows_requirement universe r) (knows_disjunction st disjunction) named.1 in
      IsSound-requires st sound parent disjunction r requirement.0 known (is_there (lists_of st r) tests.1.0)
      (disjunction_known st disjunction requirement.1)
  IsSound-outcome Root none = IsSound-added st sound Kind.InstallRoot tt
      (record { unregistered = λ id. refl; untracked = λ named. refl })
  IsSound-outcome (Constrains parent forbidden v) none =
      let known = known_direct universe st.origins sound.origins_known (Kind.Constrains parent forbidden v)
      (passed _ (test_of (Constrains parent forbidden v) none).0) in
      IsSound-added st sound (Kind.Constrains parent forbidden v) known
      (record { unregistered = λ id. refl; untracked = λ named. refl })
  IsSound-outcome (ConstrainsExcluded candidate aux v) none =
      let known = known_direct universe st.origins sound.origins_known (Kind.ConstrainsExcluded candidate aux v)
      (passed _ (test_of (ConstrainsExcluded candidate aux v) none).0) in
      IsSound-added st sound (Kind.ConstrainsExcluded candidate aux v) known
      (record { unregistered = λ id. refl; untracked = λ named. refl })
  IsSound-outcome (ConstrainsParent parent aux v) none =
      let known = known_direct universe st.origins sound.origins_known (Kind.ConstrainsParent parent aux v)
      (passed _ (test_of (ConstrainsParent parent aux v) none).0) in
      IsSound-added st sound (Kind.ConstrainsParent parent aux v) known
      (record { unregistered = λ id. refl; untracked = λ named. refl })
  IsSound-outcome (Lock locked other) none =
      let known = known_direct universe st.origins sound.origins_known (Kind.Lock locked other)
      (passed _ (test_of (Lock locked other) none).0) in
      IsSound-added st sound (Kind.Lock locked other) known (record {
        unregistered = λ id. refl;
        untracked =
            λ named. refl;
      })
  IsSound-outcome (Exclude v reason) none =
      let known = known_direct universe st.origins sound.origins_known (Kind.Excluded v reason)
      (passed _ (test_of (Exclude v reason) none).0) in
      IsSound-added st sound (Kind.Excluded v reason) known (record {
        unregistered = λ id. refl;
        untracked =
            λ named. refl;
      })
  IsSound-outcome (AnyOf selected other) none =
      let known = known_direct universe st.origins sound.origins_known (Kind.AnyOf selected other)
      (passed _ (test_of (AnyOf selected other) none).0) in
      IsSound-added st sound (Kind.AnyOf selected other) known
      (record { unregistered = λ id. refl; untracked = λ named. refl })
  IsSound-outcome (Learnt ls) none =
      IsSound-learnt st sound ls (literals_below (length st.origins) ls
      (passed (list_all (knows_literal st) ls) (test_of (Learnt ls) none).0))
  IsSound-outcome (Assign v value clause level) none =
      let tests = test_of (Assign v value clause level) none in
      let known : v < length st.origins = grind (arith, nat_tests, tests.0) in
      let registered : clause < length st.clauses = grind (arith, nat_tests, tests.0) in
      let low : 1 ≤ level = grind (arith, nat_tests, tests.1.0) in
      let high : level < 2 ^ 31 = grind (arith, nat_tests, tests.1.0) in
      IsSound-assigned st sound (record {
        decision = record { variable = v; value = value; derived_from = clause };
        level = level;
      })
      (record { variable = known; clause = registered }) (low, high)
  IsSound-outcome UndoLast none = IsSound-without_newest st sound
  IsSound-outcome (UndoUntil level) none = IsSound-entries_until st sound level
  IsSound-outcome Unpropagated none = IsSound-hands_next st sound
  IsSound-outcome (Rewatch c from to) none =
      let tests = test_of (Rewatch c from to) none in
      let may = passed (may_rewatch st c from to) tests.1.0 in
      let watches = both (is_literal_in from (watched_by st c))
      (not (is_literal_in to (watched_by st c)) && is_literal_in to (clause_literals st c)) may in
      let other = both (not (is_literal_in to (watched_by st c))) (is_literal_in to (clause_literals st c)) watches.1 in
      IsSound-rewatched st sound c from to watches.0 (failed (is_literal_in to (watched_by st c)) other.0) other.1
  IsSound-outcome (Watchers l) none = sound
  IsSound-outcome (Saturate level) none = sound
  IsSound-outcome Decide none = sound
  IsSound-outcome (Disjunction ls condition) none =
      let tests = both (list_all (knows_literal st) ls) (universe.knows_condition condition)
      (passed _ (test_of (Disjunction ls condition) none).0) in
      IsSound-disjunction st sound ls condition (literals_below (length st.origins) ls tests.0)
  IsSound-outcome (AtMostOnce name v) none = by_tracked (is_tracked nat_eq (st.trackers name) v) refl
    where
      tests : (universe.knows_name name ≡ true) × ((knows_variable st v && not (is_helper_among st.origins v)) ≡ true)
      tests = both (universe.knows_name name) (knows_variable st v && not (is_helper_among st.origins v))
          (passed _ (test_of (AtMostOnce name v) none).0)

      by_tracked : (b : Bool) → is_tracked nat_eq (st.trackers name) v ≡ b
          → IsSound (cond {A = Outcome N S} b (record { reply = TrackedAs false 0; store = st })
          (record { reply = TrackedAs true (length (tracking st name v)); store = with_tracked st name v })).store
      by_tracked true e = sound
      by_tracked false e =
          let variable = both (knows_variable st v) (not (is_helper_among st.origins v)) tests.1 in
          let known : v < length st.origins = (let test = variable.0 in grind (arith, nat_tests, test)) in
          IsSound-tracked st sound lawful name v tests.0 known (failed (is_helper_among st.origins v) variable.1) e
  IsSound-outcome (Bump name amount) none = IsSound-scored st sound (bumped st.provider.same_name name amount st.scores)
  IsSound-outcome (Decay numerator denominator) none = IsSound-scored st sound (decayed numerator denominator st.scores)
  IsSound-outcome (Standard standard) none = sound

-- ---- new stores, steps and runs

none_watch : IsDistinct nat_eq []
unfolding IsDistinct
none_watch = tt

none_loaded : IsDistinct same_requirement []
unfolding IsDistinct
none_loaded = tt

module _ {N S : Type 0} where
  one_variable : (p : Provider N S) → HasOneVariableEach (new_store p)
  one_variable p zero s e = cc
  one_variable p (suc v) s e = cc

  pub IsSound-new_store : (p : Provider N S) → IsSound (new_store p)
  IsSound-new_store p = record {
    root_first = refl;
    origins_known = All-cons (IsKnownOrigin p.universe) RootOrigin [] refl (All-nil (IsKnownOrigin p.universe));
    clauses_known = All-nil (IsKnownClause p.universe (RootOrigin ∷ []));
    learnt_known = All-nil (AreLiterals (new_store p));
    disjunctions_known = All-nil (λ (d : StoredDisjunction). AreLiterals (new_store p) d.literals);
    one_variable_each = one_variable p;
    loaded_once = none_loaded;
    loaded = All-nil (IsLoaded (new_store p));
    registered = refl;
    watched = refl;
    own = λ c l h. (let no : false ≡ true = h in cc);
    exact = record { two = λ c. tt; once = λ l. none_watch; stands = λ l c. refl };
    tracked = λ name. record {
      adds = tracking_of.none;
      variables = All-nil (λ v. v < 1);
      helpers =
          All-nil (λ h. is_helper_among {N = N} {S = S} (RootOrigin ∷ []) h ≡ true);
    };
    clauses = All-nil (IsRegistered (new_store p));
    place = omega arith;
    trail = record { once = tt; levels = All-nil HasLevel };
    assigned = All-nil (IsAssigned (new_store p));
  }

  -- a step of a command but Saturate leaves the store, or leads to the outcome of a command that nothing refuses
  pub step_store : (old new : Store N S) (c : Command N S) (reply : Reply) → is_saturate c ≡ false →
      Step old c reply new
      → (new ≡ old) ⊎ ((first_refusal old c ≡ None) × (new ≡ (outcome old c).store))
  step_store old new c reply plain step = by_refusal (first_refusal old c) step
    where
      by_reply : (r : Reply) → HasOutcome old c r new → (new ≡ old) ⊎ (new ≡ (outcome old c).store)
      by_reply (Refused e) h = inl h.1
      by_reply _ h = inr h.2

      by_refusal : (x : Option StoreError) → MatchOption x (IsAnswered old c reply new) (λ e. (reply ≡ Refused e)
          × (new ≡ old))
          → (new ≡ old) ⊎ ((x ≡ None) × (new ≡ (outcome old c).store))
      by_refusal None h = elim (by_reply reply (has_outcome old new c reply plain h)) [
        | inl same ↦
            inl same
        | inr done ↦ inr (refl, done)
      ]
      by_refusal (Some e) h = inl h.1

  -- a Saturate leaves it, or its level is in range and the store is saturated
  pub step_saturated : (old new : Store N S) (level : ℕ) (reply : Reply) → Step old (Saturate level) reply new
      → (new ≡ old) ⊎ ((is_level level ≡ true) × IsSaturated level old new)
  step_saturated old new level reply step = elim (saturate_answered old new level reply step) [
    | inl refused ↦ inl refused.1
    | inr is ↦ inr (is.0, saturated_so_far level old new reply is.1)
  ]

  pub IsSound-step : {old new : Store N S} (c : Command N S) (reply : Reply) → IsLawful old.provider → IsSound old →
      Step old c reply new → IsSound new
  IsSound-step {old} {new} c reply lawful sound step = by_command c step
    where
      same : new ≡ old → IsSound new
      same e = subst (λ st. IsSound st) (sym e) sound

      plainly : (d : Command N S) → is_saturate d ≡ false → Step old d reply new → IsSound new
      plainly d plain s = elim (step_store old new d reply plain s) [
        | inl left ↦ same left
        | inr done ↦ subst (λ st. IsSound st) (sym done.1) (IsSound-outcome old sound lawful d done.0)
      ]

      saturating : (level : ℕ) → Step old (Saturate level) reply new → IsSound new
      saturating level s = elim (step_saturated old new level reply s) [
        | inl left ↦ same left
        | inr done ↦ (let test = done.0 in let low : 1 ≤ level = grind (arith, nat_tests, test) in
            let high : level < 2 ^ 31 = grind (arith, nat_tests, test) in
            IsSound-saturated level old new (low, high) sound done.1)
      ]

      by_command : (d : Command N S) → Step old d reply new → IsSound new
      by_command (Saturate level) s = saturating level s
      by_command d s = plainly d refl s

  outcome_provider : (st : Store N S) (c : Command N S) → (outcome st c).store.provider ≡ st.provider
  outcome_provider st (Load r) = by_lists (lists_of st r)
    where
      by_lists : (o : Option (List (List ℕ))) → (load st r o).store.provider ≡ st.provider
      by_lists (Some lists) = refl
      by_lists None = refl
  outcome_provider st Unpropagated = by_entry (slice_get st.trail st.place)
    where
      by_entry : (o : Option Entry) → (hands_next st o).store.provider ≡ st.provider
      by_entry None = refl
      by_entry (Some e) = refl
  outcome_provider st (AtMostOnce name v) = by_tracked (is_tracked nat_eq (st.trackers name) v)
    where
      by_bits : (s : Store N S) (cs : List (BitClause ℕ)) → (with_bits name s cs).provider ≡ s.provider
      by_bits s [] = refl
      by_bits s (c ∷ cs) = by_bits (adds_clause s (forbidding name c)).store cs

      by_tracked : (b : Bool) → (cond {A = Outcome N S} b (record { reply = TrackedAs false 0; store = st })
          (record {
            reply = TrackedAs true (length (tracking st name v));
            store =
                with_tracked st name v;
          })).store.provider ≡ st.provider
      by_tracked true = refl
      by_tracked false = by_bits _ (tracking st name v)
  outcome_provider st _ = refl

  -- a step leaves the provider
  pub step_provider : (old new : Store N S) (c : Command N S) (reply : Reply) → Step old c reply new →
      new.provider ≡ old.provider
  step_provider old new c reply step = by_command c step
    where
      plainly : (d : Command N S) → is_saturate d ≡ false → Step old d reply new → new.provider ≡ old.provider
      plainly d plain s = elim (step_store old new d reply plain s) [
        | inl same ↦ ap (λ st. st.provider) same
        | inr done ↦ ap (λ st. st.provider) done.1 ∙ outcome_provider old d
      ]

      by_command : (d : Command N S) → Step old d reply new → new.provider ≡ old.provider
      by_command (Saturate level) s = elim (step_saturated old new level reply s) [
        | inl same ↦ ap (λ st. st.provider) same
        | inr done ↦ ap (λ st. st.provider) done.1.rest
      ]
      by_command d s = plainly d refl s

  run_sound : (old new : Store N S) (cs : List (Command N S)) (replies : List Reply) → IsLawful old.provider →
      IsSound old → Run old cs replies new → IsSound new
  run_sound old new [] [] lawful sound ran = subst (λ st. IsSound st) (sym ran) sound
  run_sound old new (c ∷ cs) (reply ∷ replies) lawful sound ran =
      run_sound ran.0 new cs replies (subst (λ p. IsLawful p) (sym (step_provider old ran.0 c reply ran.1)) lawful)
      (IsSound-step c reply lawful sound ran.1) ran.2
  run_sound old new [] (reply ∷ replies) lawful sound ran = absurd ran
  run_sound old new (c ∷ cs) [] lawful sound ran = absurd ran

  pub IsSound-run : {old new : Store N S} (cs : List (Command N S)) (replies : List Reply) → IsLawful old.provider →
      IsSound old → Run old cs replies new → IsSound new
  IsSound-run {old} {new} cs replies lawful sound ran = run_sound old new cs replies lawful sound ran
