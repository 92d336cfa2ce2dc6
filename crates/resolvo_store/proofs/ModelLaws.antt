-- What clauses force is so in each of their models, and where one is false there is none. N are the names, S the
-- solvables.
use Rattle.std.proofs.Common.{◌≡◌, ℕ, zero, suc, ◌<◌, Bool, true, false, cond, not, List, [], ◌∷◌, ◌++◌, length}
use Rattle.std.proofs.Common.{Option, Some, None, refl, sym, ap, subst, ◌∙◌, inl, inr, arith}
use Rattle.std.specs.Prelude.{All, ◌&&◌, ◌||◌, slice_get, option_map}
use Rattle.std.proofs.lemmas.List.{append-nil, append_assoc}
use Rattle.std.proofs.lemmas.List.Elements.{All-head, All-tail}
use Rattle.watch_map.proofs.ImplicationLaws.{forced_is_own}
use Rattle.watch_map.proofs.ValueLaws.{val_of_more}
use Rattle.watch_map.proofs.WatchingLaws.{same_is}
use Rattle.resolvo_store.proofs.Words.{Agrees, are_others_false, AreImplied, Clause, clause_literals, decided_literal}
use Rattle.resolvo_store.proofs.Words.{Decision, Entry, HasConflict, is_false, is_false_literal, is_literal_in}
use Rattle.resolvo_store.proofs.Words.{is_satisfied, is_true_literal, IsImplied, IsModel, IsModelNow, IsSaturated}
use Rattle.resolvo_store.proofs.Words.{known_false, list_any, Lit, literals_of, Neg, Pos, same_literal, Store}
use Rattle.resolvo_store.proofs.Words.{stored_of, truth, undecided, unwrap_or, val, Values, values}
use Rattle.resolvo_store.proofs.AddingLemmas.{both}
use Rattle.resolvo_store.proofs.LiteralLaws.{clause_there}

-- ---- literals, by truth values a that agree with what is known

module _ (now : Values) (a : ℕ → Bool) (agrees : Agrees now a) where
  -- the literal isn't true where it is known to be false
  false_is_untrue : (l : Lit) → is_false_literal now l ≡ true → is_true_literal a l ≡ false
  false_is_untrue (Pos v) h = by_value (now v) refl h
    where
      by_value : (o : Option Bool) → now v ≡ o → known_false o ≡ true → a v ≡ false
      by_value None e k = (let no : false ≡ true = k in cc)
      by_value (Some true) e k = (let no : false ≡ true = k in cc)
      by_value (Some false) e k = agrees v false e
  false_is_untrue (Neg v) h = by_value (now v) refl h
    where
      by_value : (o : Option Bool) → now v ≡ o → known_false (option_map not o) ≡ true → not (a v) ≡ false
      by_value None e k = (let no : false ≡ true = k in cc)
      by_value (Some true) e k = ap not (agrees v true e)
      by_value (Some false) e k = (let no : false ≡ true = k in cc)

  -- none of a false clause is
  none_true : (ls : List Lit) → is_false now ls ≡ true → list_any (is_true_literal a) ls ≡ false
  none_true [] h = refl
  none_true (l ∷ ls) h =
      let parts = both (is_false_literal now l) (is_false now ls) h in
      ap (λ b. b || list_any (is_true_literal a) ls) (false_is_untrue l parts.0) ∙ none_true ls parts.1

  -- where all others are false, the one that is left is true
  left_is_true : (l : Lit) (ls : List Lit) → are_others_false now ls l ≡ true →
      list_any (is_true_literal a) ls ≡ true → is_true_literal a l ≡ true
  left_is_true l [] others met = (let no : false ≡ true = met in cc)
  left_is_true l (m ∷ ls) others met =
      let parts = both (same_literal m l || is_false_literal now m) (are_others_false now ls l) others in
      by_literal (same_literal m l) refl parts.0 (λ f. left_is_true l ls parts.1
      (subst (λ b. (b || list_any (is_true_literal a) ls) ≡ true) f met))
    where
      -- this one is true, or one of those behind it is
      own : (b : Bool) → is_true_literal a m ≡ b → same_literal m l ≡ true →
          (is_true_literal a m ≡ false → is_true_literal a l ≡ true) → is_true_literal a l ≡ true
      own true t same later = subst (λ x. is_true_literal a x ≡ true) (same_is m l same) t
      own false t same later = later t

      by_literal : (b : Bool) → same_literal m l ≡ b → (b || is_false_literal now m) ≡ true →
          (is_true_literal a m ≡ false → is_true_literal a l ≡ true) → is_true_literal a l ≡ true
      by_literal true same f later = own (is_true_literal a m) refl same later
      by_literal false same f later = later (false_is_untrue m f)

-- the value that makes a decision's literal true is the decision's
decided_value : (a : ℕ → Bool) (d : Decision) → is_true_literal a (decided_literal d) ≡ true → a d.variable ≡ d.value
decided_value a d h = by_value d.value h
  where
    turned : (b : Bool) → not b ≡ true → b ≡ false
    turned true k = (let no : false ≡ true = k in cc)
    turned false k = refl

    by_value : (b : Bool) → is_true_literal a (cond b (Pos d.variable) (Neg d.variable)) ≡ true → a d.variable ≡ b
    by_value true k = k
    by_value false k = turned (a d.variable) k

-- ---- entries

module _ (literals : ℕ → List Lit) (level : ℕ) (a : ℕ → Bool) (met : (c : ℕ) (l : Lit) →
    is_literal_in l (literals c) ≡ true → list_any (is_true_literal a) (literals c) ≡ true) where
  one_agrees : (es : List Entry) (e : Entry) → IsImplied literals level es e → Agrees (val es) a →
      Agrees (val (es ++ e ∷ [])) a
  one_agrees es e implied agrees v value h = elim (val_of_more es e v value h) [
    | inl old ↦ agrees v value old
    | inr new ↦ subst (λ x. a x ≡ value) new.0 (own ∙ new.1)
  ]
    where
      l : Lit
      l = decided_literal e.decision

      ls : List Lit
      ls = literals e.decision.derived_from

      own : a e.decision.variable ≡ e.decision.value
      own =
          let is_own = forced_is_own literals level es e implied in
          let rest = both (undecided (truth (val es) l)) (are_others_false (val es) ls l)
          (both (is_literal_in l ls) (undecided (truth (val es) l) && are_others_false (val es) ls l)
          implied.implied).1 in
          decided_value a e.decision (left_is_true (val es) a agrees l ls rest.1 (met e.decision.derived_from l is_own))

  -- truth values that agree with a trail agree with what clauses force behind it, if they meet these clauses
  all_agree : (es added : List Entry) → AreImplied literals level es added → Agrees (val es) a →
      Agrees (val (es ++ added)) a
  all_agree es [] implied agrees = subst (λ fs. Agrees (val fs) a) (sym (append-nil es)) agrees
  all_agree es (e ∷ added) implied agrees =
      subst (λ fs. Agrees (val fs) a) (append_assoc es (e ∷ []) added)
      (all_agree (es ++ e ∷ []) added implied.1 (one_agrees es e implied.0 agrees))

-- ---- stores

module _ {N S : Type 0} where
  -- a clause that is there has a true literal in each model
  clause_met : (st : Store N S) (a : ℕ → Bool) → IsModel st a → (c : ℕ) → c < length st.clauses →
      list_any (is_true_literal a) (clause_literals st c) ≡ true
  clause_met st a model c within = go st.clauses c model within
    where
      go : (cs : List (Clause N)) (i : ℕ) → All (λ d. is_satisfied st a d ≡ true) cs → i < length cs
          → list_any (is_true_literal a) (unwrap_or (option_map (literals_of (stored_of st)) (slice_get cs i)) [])
          ≡ true
      go [] i all below = absurd (omega (arith, below))
      go (d ∷ cs) zero all below = All-head (λ x. is_satisfied st a x ≡ true) d cs all
      go (d ∷ cs) (suc i) all below =
          go cs i (All-tail (λ x. is_satisfied st a x ≡ true) d cs all) (omega (arith, below))

  -- a saturation rules out no model
  pub models_kept : (level : ℕ) (old new : Store N S) → IsSaturated level old new → (a : ℕ → Bool) →
      IsModelNow old a → IsModelNow new a
  models_kept level old new is a model = subst (λ st. IsModelNow st a) (sym is.rest) (record {
    satisfies = model.satisfies;
    agrees = all_agree (clause_literals old) level a (λ c l h. clause_met old a model.satisfies c
        (clause_there old c l h)) old.trail is.added is.implied model.agrees;
  })

  -- and a conflict leaves none
  pub conflict_rules_out : (st : Store N S) (c : ℕ) → HasConflict st c → (a : ℕ → Bool) → IsModelNow st a → ⊥
  conflict_rules_out st c conflict a model =
      let met = clause_met st a model.satisfies c conflict.0 in
      let untrue = none_true (values st) a model.agrees (clause_literals st c) conflict.1 in
      (let no : true ≡ false = sym met ∙ untrue in cc)
