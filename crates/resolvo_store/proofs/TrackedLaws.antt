-- A store that tracks one variable more is sound. N are the names, S the solvables.
use Rattle.std.proofs.Common.{◌≡◌, ℕ, zero, suc, ◌+◌, ◌<◌, Bool, true, false, not, List, [], ◌∷◌, ◌++◌, length}
use Rattle.std.proofs.Common.{length-append, map, Option, Some, None, refl, arith, sym, subst, ap, ◌∙◌}
use Rattle.std.specs.Prelude.{nat_eq, All, if◌then◌else◌, ◌&&◌, ◌||◌}
use Rattle.std.proofs.lemmas.Bool.{eqb-true}
use Rattle.std.proofs.lemmas.Grind.{flat_map-append}
use Rattle.std.proofs.lemmas.List.{append-nil, append_assoc}
use Rattle.std.proofs.lemmas.List.Elements.{All-nil, All-cons, All-head, All-tail, All-push, All-append, All-weaker}
use Rattle.at_most_once.specs.AtMostOne.{with_variable}
use Rattle.at_most_once.specs.NameTrackers.{with_tracked as trackers_with}
use Rattle.at_most_once.proofs.CallerLaws.{adds_new}
use Rattle.resolvo_store.proofs.Words.{adds_clause, BitClause, bits, bits_of, enumerate_from, flat_map, forbidding}
use Rattle.resolvo_store.proofs.Words.{ForbidMultiple, has_bit, helper_clauses, helper_for, IfSome, is_full}
use Rattle.resolvo_store.proofs.Words.{is_helper_among, is_some, is_tracked, IsAllowed, IsFresh, IsKnownClause, IsSound}
use Rattle.resolvo_store.proofs.Words.{IsTracking, list_any, needs_helper, new_clauses, origins_with, Store, Tracker}
use Rattle.resolvo_store.proofs.Words.{variable_clauses, VariableOrigin, with_bits, with_new, with_tracked}
use Rattle.resolvo_store.proofs.KnownLemmas.{IsLawful, variable_known}
use Rattle.resolvo_store.proofs.StoredStores.{IsStored, IsStored-sound, IsSound-stored}
use Rattle.resolvo_store.proofs.TrackingLaws.{AreTracked, IsTracking-origin}
use Rattle.resolvo_store.proofs.StoredLaws as stored

-- ---- the clauses of one variable more

-- both variables of a clause are below a number
abbrev pub IsBelow : ℕ → BitClause ℕ → Type 0
IsBelow n c = (c.0 < n) × (c.1 < n)

helper_below : (n b i : ℕ) (h : ℕ) (xs : List ℕ) → h < n → All (λ v. v < n) xs →
    All (IsBelow n) (map (λ (x : ℕ × ℕ). (x.1, h, has_bit x.0 b)) (enumerate_from i xs))
helper_below n b i h [] below all = All-nil (IsBelow n)
helper_below n b i h (x ∷ xs) below all =
    All-cons (IsBelow n) (x, h, has_bit i b) (map (λ (y : ℕ × ℕ). (y.1, h, has_bit y.0 b)) (enumerate_from (i + 1) xs))
    (All-head (λ v. v < n) x xs all, below) (helper_below n b (i + 1) h xs below (All-tail (λ v. v < n) x xs all))

variable_below : (n i b : ℕ) (v : ℕ) (hs : List ℕ) → v < n → All (λ h. h < n) hs →
    All (IsBelow n) (map (λ (h : ℕ × ℕ). (v, h.1, has_bit i h.0)) (enumerate_from b hs))
variable_below n i b v [] below all = All-nil (IsBelow n)
variable_below n i b v (h ∷ hs) below all =
    All-cons (IsBelow n) (v, h, has_bit i b) (map (λ (x : ℕ × ℕ). (v, x.1, has_bit i x.0)) (enumerate_from (b + 1) hs))
    (below, All-head (λ x. x < n) h hs all) (variable_below n i (b + 1) v hs below (All-tail (λ x. x < n) h hs all))

-- all variables of the clauses are known, if the tracker's, the new one and its helper are
new_below : (n : ℕ) (t : Tracker ℕ) (h : Option ℕ) (v : ℕ) → All (λ x. x < n) t.variables →
    All (λ x. x < n) t.helpers → IfSome h (λ x. x < n) → v < n
    → All (IsBelow n) (new_clauses t h v)
new_below n t None v variables helpers given below =
    variable_below n (length t.variables) 0 v t.helpers below helpers
new_below n t (Some h) v variables helpers given below =
    All-append (IsBelow n) (helper_clauses (length t.helpers) h t.variables)
    (variable_clauses (length t.variables) v (t.helpers ++ h ∷ []))
    (helper_below n (length t.helpers) 0 h t.variables given variables)
    (variable_below n (length t.variables) 0 v (t.helpers ++ h ∷ []) below
    (All-push (λ x. x < n) t.helpers h helpers given))

-- ---- what is allowed

-- a number that is different from each of a list isn't in it
not_any : (n : ℕ) (xs : List ℕ) → All (λ x. n ≡ x → ⊥) xs → list_any (nat_eq n) xs ≡ false
not_any n [] all = refl
not_any n (x ∷ xs) all = by_same (nat_eq n x) refl (not_any n xs (All-tail (λ y. n ≡ y → ⊥) x xs all))
  where
    by_same : (b : Bool) → nat_eq n x ≡ b → list_any (nat_eq n) xs ≡ false → (b || list_any (nat_eq n) xs) ≡ false
    by_same true e others = absurd (All-head (λ y. n ≡ y → ⊥) x xs all (eqb-true n x e))
    by_same false e others = others

different : (n m : ℕ) → (n ≡ m → ⊥) → nat_eq n m ≡ false
different n m apart = by_same (nat_eq n m) refl
  where
    by_same : (b : Bool) → nat_eq n m ≡ b → b ≡ false
    by_same true e = absurd (apart (eqb-true n m e))
    by_same false e = refl

-- what is read back of a clause under a name
bits_back : {N : Type 0} (named : N → Bool) (name : N) (c : BitClause ℕ) →
    bits_of named (forbidding name c) ≡ (if named name then c ∷ [] else [])
bits_back named name (x, h, true) = refl
bits_back named name (x, h, false) = refl

more_bits : (b : Bool) (before : List (BitClause ℕ)) (c : BitClause ℕ) (cs : List (BitClause ℕ))
    → (before ++ ((if b then c ∷ [] else []) ++ [])) ++ (if b then cs else []) ≡ before ++ (if b then c ∷ cs else [])
more_bits true before c cs = append_assoc before (c ∷ []) cs
more_bits false before c cs = append-nil (before ++ []) ∙ ap (λ x. before ++ x) refl

module _ {N S : Type 0} where
  -- a helper is a variable
  helper_within : (os : List (VariableOrigin N S)) (h : ℕ) → is_helper_among os h ≡ true → h < length os
  helper_within [] h is = (let no : false ≡ true = is in cc)
  helper_within (o ∷ os) zero is = omega arith
  helper_within (o ∷ os) (suc h) is = omega (arith, helper_within os h is)

  -- the variable that comes next among these is a helper, if it is made as one
  new_is_helper : (os : List (VariableOrigin N S)) (name : N) →
      is_helper_among (os ++ ForbidMultiple name ∷ []) (length os) ≡ true
  new_is_helper [] name = refl
  new_is_helper (o ∷ os) name = new_is_helper os name

  module _ (os : List (VariableOrigin N S)) (t : Tracker ℕ) {cs : List (BitClause ℕ)} (is : IsTracking os t cs)
      (v : ℕ) (known : v < length os)
      (none : is_helper_among os v ≡ false) (new : is_tracked nat_eq t v ≡ false) where
    not_helper : list_any (nat_eq v) t.helpers ≡ false
    not_helper =
        not_any v t.helpers (All-weaker (λ h. is_helper_among os h ≡ true) (λ h. v ≡ h → ⊥)
        (λ h k e. (let no : false ≡ true = sym none ∙ ap (is_helper_among os) e ∙ k in cc)) t.helpers is.helpers)

    next_fresh : IsFresh nat_eq t (length os)
    next_fresh = (
      not_any (length os) t.variables (All-weaker (λ x. x < length os) (λ x. length os ≡ x →
          ⊥) (λ x k e. omega (arith, k, e)) t.variables is.variables),
      not_any (length os) t.helpers (All-weaker (λ h. is_helper_among os h ≡ true) (λ h. length os ≡ h →
          ⊥) (λ h k e. omega (arith, helper_within os h k, e)) t.helpers is.helpers),
    )

    -- a helper is needed where the numbers are used up
    needed : (full : Bool) → is_full t ≡ full → is_some (if full then Some (length os) else None)
        ≡ needs_helper nat_eq t v
    needed full e = is_given full ∙ sym (ap (λ b. not b && is_full t) new ∙ e)
      where
        is_given : (b : Bool) → is_some (if b then Some (length os) else None) ≡ b
        is_given true = refl
        is_given false = refl

    pub allowed : (full : Bool) → is_full t ≡ full → IsAllowed nat_eq t (if full then Some (length os) else None) v
    allowed true e = record {
      no_helper = not_helper;
      needed = needed true e;
      fresh = (next_fresh, different (length os) v (λ k. omega (arith, known, k)));
    }
    allowed false e = record { no_helper = not_helper; needed = needed false e; fresh = tt }

    -- the tracker with it is in order, with its clauses behind the others
    pub tracking_more : (full : Bool) (name : N) → is_full t ≡ full
        → (let h = if full then Some (length os) else None in
        IsTracking (origins_with os name h) (with_new t h v) (cs ++ new_clauses t h v))
    tracking_more true name e =
        let grown = IsTracking-origin os (ForbidMultiple name) is in
        let longer = length-append os (ForbidMultiple name ∷ []) in
        record {
          adds = adds_new nat_eq t (Some (length os)) v new is.adds (allowed true e);
          variables = All-push (λ x. x < length (os ++ ForbidMultiple name ∷ [])) t.variables v grown.variables
              (omega (arith, known, longer));
          helpers = All-push (λ h. is_helper_among (os ++ ForbidMultiple name ∷ []) h ≡ true) t.helpers
              (length os) grown.helpers (new_is_helper os name);
        }
    tracking_more false name e = record {
      adds = adds_new nat_eq t None v new is.adds (allowed false e);
      variables = All-push (λ x. x < length os) t.variables v is.variables known;
      helpers = is.helpers;
    }

    -- the variables of its clauses are among those that there are then
    pub tracking_below : (full : Bool) (name : N) → (let h = if full then Some (length os) else None in
        All (IsBelow (length (origins_with os name h))) (new_clauses t h v))
    tracking_below true name =
        let grown = IsTracking-origin os (ForbidMultiple name) is in
        let n = length (os ++ ForbidMultiple name ∷ []) in
        let longer = length-append os (ForbidMultiple name ∷ []) in
        new_below n t (Some (length os)) v grown.variables
        (All-weaker (λ h. is_helper_among (os ++ ForbidMultiple name ∷ []) h ≡ true) (λ h. h < n)
        (helper_within (os ++ ForbidMultiple name ∷ [])) t.helpers grown.helpers)
        (omega (arith, longer)) (omega (arith, known, longer))
    tracking_below false name =
        new_below (length os) t None v is.variables (All-weaker (λ h. is_helper_among os h ≡ true)
        (λ h. h < length os) (helper_within os) t.helpers is.helpers) tt known

  -- ---- a store with more clauses under a name

  pub tracked_bits : (name : N) (st : Store N S) (cs : List (BitClause ℕ))
      → ((n : N) → IsTracking st.origins (st.trackers n)
      (bits st n ++ (if st.provider.same_name n name then cs else []))) → AreTracked (with_bits name st cs)
  tracked_bits name st [] each = λ n. subst (IsTracking st.origins (st.trackers n))
      (none n (st.provider.same_name n name)) (each n)
    where
      none : (n : N) (b : Bool) → bits st n ++ (if b then [] else []) ≡ bits st n
      none n true = append-nil (bits st n)
      none n false = append-nil (bits st n)
  tracked_bits name st (c ∷ cs) each =
      tracked_bits name (adds_clause st (forbidding name c)).store cs
      (λ n. subst (IsTracking st.origins (st.trackers n)) (sym (same n)) (each n))
    where
      same : (n : N) → flat_map (bits_of (st.provider.same_name n))
          (st.clauses ++ forbidding name c ∷ []) ++ (if st.provider.same_name n name then cs else [])
          ≡ bits st n ++ (if st.provider.same_name n name then c ∷ cs else [])
      same n =
          ap (λ x. x ++ (if st.provider.same_name n name then cs else []))
          (flat_map-append (bits_of (st.provider.same_name n)) st.clauses (forbidding name c ∷ [])
          ∙ ap (λ x. bits st n ++ (x ++ [])) (bits_back (st.provider.same_name n) name c))
          ∙ more_bits (st.provider.same_name n name) (bits st n) c cs

  pub IsStored-bits : (name : N) (st : Store N S) (cs : List (BitClause ℕ)) →
      st.provider.universe.knows_name name ≡ true → All (IsBelow (length st.origins)) cs
      → IsStored st → IsStored (with_bits name st cs)
  IsStored-bits name st [] known below is = is
  IsStored-bits name st (c ∷ cs) known below is =
      let own = All-head (IsBelow (length st.origins)) c cs below in
      IsStored-bits name (adds_clause st (forbidding name c)).store cs known
      (All-tail (IsBelow (length st.origins)) c cs below)
      (stored.IsStored-added st is (forbidding name c) (known_clause c own) (λ id. refl))
    where
      known_clause : (d : BitClause ℕ) → IsBelow (length st.origins) d →
          IsKnownClause st.provider.universe st.origins (forbidding name d)
      known_clause (x, h, true) (first, second) = (
        variable_known st.provider.universe st.origins is.origins_known x first,
        variable_known st.provider.universe st.origins is.origins_known h second,
        known,
      )
      known_clause (x, h, false) (first, second) = (
        variable_known st.provider.universe st.origins is.origins_known x first,
        variable_known st.provider.universe st.origins is.origins_known h second,
        known,
      )

module _ {N S : Type 0} (st : Store N S) (sound : IsSound st) (lawful : IsLawful st.provider) (name : N) (v : ℕ)
    (named : st.provider.universe.knows_name name ≡ true) (known : v < length st.origins)
    (none : is_helper_among st.origins v ≡ false)
    (new : is_tracked nat_eq (st.trackers name) v ≡ false) where
  own : Tracker ℕ
  own = st.trackers name

  abbrev helper : Bool → Option ℕ
  helper full = if full then Some (length st.origins) else None

  abbrev trackers : Option ℕ → N → Tracker ℕ
  trackers h = trackers_with st.provider.same_name name v h st.trackers

  abbrev grown : Option ℕ → Store N S
  grown h = record st { origins = origins_with st.origins name h; trackers = trackers h }

  stored_grown : (full : Bool) → IsStored (grown (helper full))
  stored_grown true = stored.IsStored-origin st (IsStored-sound sound) (trackers (helper true)) (ForbidMultiple name)
      (λ t e. cc) named
  stored_grown false =
      stored.IsStored-tracking st (IsStored-sound sound) (trackers (helper false)) st.origins (omega arith)
      (record { root_first = sound.root_first; one_each = sound.one_variable_each }) sound.origins_known

  -- what is tracked under another name stays as it is
  others : (full : Bool) (n : N) → IsTracking (origins_with st.origins name (helper full)) (st.trackers n) (bits st n)
  others true n = IsTracking-origin st.origins (ForbidMultiple name) (sound.tracked n)
  others false n = sound.tracked n

  each : (full : Bool) → is_full (st.trackers name) ≡ full → (n : N)
      → IsTracking (origins_with st.origins name (helper full)) (trackers (helper full) n)
      (bits st n ++ (if st.provider.same_name n name then new_clauses (st.trackers name) (helper full) v else []))
  each full e n = by_name (st.provider.same_name n name) refl
    where
      cs : List (BitClause ℕ)
      cs = new_clauses (st.trackers name) (helper full) v

      os : List (VariableOrigin N S)
      os = origins_with st.origins name (helper full)

      -- the name's own tracker has the variable more
      its : IsTracking os (with_variable nat_eq (st.trackers name) (helper full) v) (bits st name ++ cs)
      its =
          subst (λ b. IsTracking os (if b then st.trackers name else with_new (st.trackers name) (helper full) v)
          (bits st name ++ cs)) (sym new)
          (tracking_more st.origins (st.trackers name) (sound.tracked name) v known none new full name e)

      by_name : (b : Bool) → st.provider.same_name n name ≡ b
          → IsTracking os (if b then with_variable nat_eq (st.trackers name) (helper full) v else st.trackers n)
          (bits st n ++ (if b then cs else []))
      by_name true same = subst (λ m. IsTracking os (with_variable nat_eq (st.trackers name) (helper full) v)
          (bits st m ++ cs)) (sym (lawful.same_names n name same)) its
      by_name false differ = subst (IsTracking os (st.trackers n)) (sym (append-nil (bits st n))) (others full n)

  pub IsSound-tracked : IsSound (with_tracked st name v)
  IsSound-tracked =
      subst (λ h. IsSound (with_bits name (grown h) (new_clauses (st.trackers name) h v))) (sym helper_is)
      (by_full (is_full (st.trackers name)) refl)
    where
      helper_is : helper_for st name v ≡ helper (is_full (st.trackers name))
      helper_is = ap (λ b. if (not b && is_full (st.trackers name)) then Some (length st.origins) else None) new

      by_full : (full : Bool) → is_full (st.trackers name) ≡ full →
          IsSound (with_bits name (grown (helper full)) (new_clauses (st.trackers name) (helper full) v))
      by_full full e =
          let cs : List (BitClause ℕ) = new_clauses (st.trackers name) (helper full) v in
          IsSound-stored
          (IsStored-bits name (grown (helper full)) cs named (tracking_below st.origins (st.trackers name)
          (sound.tracked name) v known none new full name) (stored_grown full))
          (tracked_bits name (grown (helper full)) cs (each full e))
