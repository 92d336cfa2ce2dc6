-- What a forced literal is, and what entries that clauses force leave.
use Rattle.std.proofs.Common.{◌≡◌, ℕ, ◌+◌, ◌<◌, ◌≤◌, Bool, true, false, ◌&&◌, ◌||◌, cond, List, [], ◌∷◌, ◌++◌}
use Rattle.std.proofs.Common.{length, take, drop, Some, None, refl, sym, ap, subst, ◌∙◌, arith, nat_eq}
use Rattle.std.proofs.Common.{append_assoc, append-nil, length-append}
use Rattle.std.proofs.lemmas.Bool.{and_parts, and_from, or_left, or_right, false_from_ne_true}
use Rattle.std.proofs.lemmas.List.{take-append-le}
use Rattle.std.proofs.Math.Seq.{drop-append_seam}
use Rattle.watch_map.proofs.Words.{are_others_false, AreImplied, decided_literal, Decision, Entry, Extends, HasImplied}
use Rattle.watch_map.proofs.Words.{is_false_literal, is_literal_in, is_true, is_true_literal, is_unit, IsImplied}
use Rattle.watch_map.proofs.Words.{level_of, Lit, same_literal, satisfying_value, Trail, truth, undecided, val}
use Rattle.watch_map.proofs.Words.{val_before, Values, variable_of}
use Rattle.watch_map.proofs.WatchingLaws.{same_is}
use Rattle.watch_map.proofs.LiteralLists.{by_test, all_at, all_from, any_at, passes_of}
use Rattle.watch_map.proofs.OpenClauses.{count_open, count_less}
use Rattle.watch_map.proofs.ValueLaws.{true_is_not_false, true_is_decided, open_variable, val_kept, val_added}
use Rattle.watch_map.proofs.ValueLaws.{decided_is_true, decided_variable, true_of}

-- ---- a literal that a clause forces

pub record Unit (now : Values) (ls : List Lit) (l : Lit) : Type 0 where
  pub own : is_literal_in l ls ≡ true
  pub is_open : undecided (truth now l) ≡ true
  pub others : (m : Lit) → is_literal_in m ls ≡ true → same_literal m l ≡ false → is_false_literal now m ≡ true

-- each literal is the one or false, and so each other one is false
pub others_at : (now : Values) (ls : List Lit) (l : Lit) → are_others_false now ls l ≡ true
    → (m : Lit) → is_literal_in m ls ≡ true → same_literal m l ≡ false → is_false_literal now m ≡ true
others_at now ls l others m there apart =
    subst (λ b. (b || is_false_literal now m) ≡ true) apart
    (all_at (λ x. same_literal x l || is_false_literal now x) ls m others there)

pub others_from : (now : Values) (ls : List Lit) (l : Lit)
    → ((m : Lit) → is_literal_in m ls ≡ true → same_literal m l ≡ false → is_false_literal now m ≡ true)
    → are_others_false now ls l ≡ true
others_from now ls l each = all_from (λ x. same_literal x l || is_false_literal now x) ls
    (λ m there. by_test ((same_literal m l || is_false_literal now m) ≡ true) (same_literal m l)
    (λ same. or_left (same_literal m l) (is_false_literal now m) same)
    (λ apart. or_right (same_literal m l) (is_false_literal now m) (each m there apart)))

pub forces_parts : (now : Values) (ls : List Lit) (l : Lit) → is_unit now ls l ≡ true → Unit now ls l
forces_parts now ls l f =
    let own = and_parts (is_literal_in l ls) (undecided (truth now l) && are_others_false now ls l) f in
    let rest = and_parts (undecided (truth now l)) (are_others_false now ls l) own.1 in
    record { own = own.0; is_open = rest.0; others = others_at now ls l rest.1 }

pub forces_from : (now : Values) (ls : List Lit) (l : Lit) → Unit now ls l → is_unit now ls l ≡ true
forces_from now ls l f =
    and_from (is_literal_in l ls) (undecided (truth now l) && are_others_false now ls l) f.own
    (and_from (undecided (truth now l)) (are_others_false now ls l) f.is_open (others_from now ls l f.others))

-- no literal of the clause is true
pub forces_untrue : (now : Values) (ls : List Lit) (l : Lit) → Unit now ls l
    → (m : Lit) → is_literal_in m ls ≡ true → is_true_literal now m ≡ true → ⊥
forces_untrue now ls l f m there t =
    by_test ⊥ (same_literal m l)
    (λ same. true_is_decided now l (subst (λ x. is_true_literal now x ≡ true) (same_is m l same) t) f.is_open)
    (λ apart. true_is_not_false now m t (f.others m there apart))

-- the variable of an undecided literal has no value, and an entry that is added for it makes the literal true
module _ (es : List Entry) (l : Lit) (d : Decision) (variable : d.variable ≡ variable_of l)
    (is_open : undecided (truth (val es) l) ≡ true) where
  pub deciding_open : val es d.variable ≡ None
  deciding_open = ap (val es) variable ∙ open_variable (val es) l is_open

  pub deciding_true : (level : ℕ) → d.value ≡ satisfying_value l
      → is_true_literal (val (es ++ record { decision = d; level = level } ∷ [])) l ≡ true
  deciding_true level value =
      let e : Entry = record { decision = d; level = level } in
      true_of (val (es ++ e ∷ [])) l
      (ap (val (es ++ e ∷ [])) (sym variable) ∙ val_added es e deciding_open ∙ ap Some value)

-- ---- a forced entry

module _ (literals : ℕ → List Lit) (level : ℕ) where
  module _ (es : List Entry) (e : Entry) (f : IsImplied literals level es e) where
    forced_parts : Unit (val es) (literals e.decision.derived_from) (decided_literal e.decision)
    forced_parts = forces_parts (val es) (literals e.decision.derived_from) (decided_literal e.decision) f.implied

    -- its variable had no value
    pub forced_was_open : val es e.decision.variable ≡ None
    forced_was_open =
        subst (λ x. val es x ≡ None) (decided_variable e.decision)
        (open_variable (val es) (decided_literal e.decision) forced_parts.is_open)

    -- and what it makes true is a literal of its clause
    pub forced_is_own : is_literal_in (decided_literal e.decision) (literals e.decision.derived_from) ≡ true
    forced_is_own = forced_parts.own

    -- which wasn't true, and is
    pub forced_is_true : is_true (val (es ++ e ∷ [])) (literals e.decision.derived_from) ≡ true
    forced_is_true =
        any_at (is_true_literal (val (es ++ e ∷ []))) (literals e.decision.derived_from) (decided_literal e.decision)
        forced_is_own (decided_is_true (val (es ++ e ∷ [])) e.decision (val_added es e forced_was_open))

    pub forced_was_untrue : is_true (val es) (literals e.decision.derived_from) ≡ false
    forced_was_untrue =
        let ls = literals e.decision.derived_from in
        false_from_ne_true (is_true (val es) ls) (λ t.
        let p = passes_of (is_true_literal (val es)) ls t in
        forces_untrue (val es) ls (decided_literal e.decision) forced_parts p.literal p.within p.passes)

  -- forced entries behind forced entries
  pub forced_on : (es fs gs : List Entry) → AreImplied literals level es fs → AreImplied literals level (es ++ fs) gs
      → AreImplied literals level es (fs ++ gs)
  forced_on es [] gs f g = subst (λ xs. AreImplied literals level xs gs) (append-nil es) g
  forced_on es (e ∷ fs) gs f g = (
    f.0,
    forced_on (es ++ e ∷ []) fs gs f.1
        (subst (λ xs. AreImplied literals level xs gs) (sym (append_assoc es (e ∷ []) fs)) g),
  )

  -- none is above the level
  pub forced_levels : (es fs : List Entry) (x : ℕ) → AreImplied literals level es fs → level_of fs x ≤ level
  forced_levels es [] x f = omega arith
  forced_levels es (e ∷ fs) x f =
      by_head (nat_eq e.decision.variable x) f.0.at_level (forced_levels (es ++ e ∷ []) fs x f.1)
    where
      by_head : (t : Bool) → e.level ≡ level → level_of fs x ≤ level → cond t e.level (level_of fs x) ≤ level
      by_head true same rest = omega (arith, same)
      by_head false same rest = rest

  -- each forced entry makes one clause more true
  module _ (clauses : ℕ) (within : (c : ℕ) (l : Lit) → is_literal_in l (literals c) ≡ true → c < clauses) where
    pub forced_counts : (es fs : List Entry) → AreImplied literals level es fs
        → count_open literals clauses (val (es ++ fs)) + length fs ≤ count_open literals clauses (val es)
    forced_counts es [] f = rw (append-nil es) (omega arith)
    forced_counts es (e ∷ fs) f =
        let c = e.decision.derived_from in
        let one = count_less literals clauses (val es) (val (es ++ e ∷ [])) (val_kept es (e ∷ [])) c
        (within c (decided_literal e.decision) (forced_is_own es e f.0))
        (forced_was_untrue es e f.0) (forced_is_true es e f.0) in
        let more = subst (λ xs. count_open literals clauses (val xs) + length fs
        ≤ count_open literals clauses (val (es ++ e ∷ [])))
        (append_assoc es (e ∷ []) fs) (forced_counts (es ++ e ∷ []) fs f.1) in
        omega (arith, one, more)

-- ---- trails to which forced entries were added

module _ (literals : ℕ → List Lit) (level : ℕ) where
  pub forced_none : (t : Trail) → HasImplied literals level t t
  forced_none t = record { added = []; implied = tt; entries = sym (append-nil t.entries); place = refl; floor = refl }

  pub forced_then : (a b c : Trail) → HasImplied literals level a b → HasImplied literals level b c
      → HasImplied literals level a c
  forced_then a b c ab bc = record {
    added = ab.added ++ bc.added;
    implied = forced_on literals level a.entries ab.added bc.added ab.implied
        (subst (λ es. AreImplied literals level es bc.added) ab.entries bc.implied);
    entries = bc.entries ∙ ap (λ es. es ++ bc.added) ab.entries ∙ append_assoc a.entries ab.added bc.added;
    place = bc.place ∙ ab.place;
    floor = bc.floor ∙ ab.floor;
  }

  module _ (a b : Trail) (f : HasImplied literals level a b) where
    pub forced_extends : Extends (val a.entries) (val b.entries)
    forced_extends = subst (λ es. Extends (val a.entries) (val es)) (sym f.entries) (val_kept a.entries f.added)

    pub forced_longer : length a.entries ≤ length b.entries
    forced_longer = let e = ap length f.entries ∙ length-append a.entries f.added in omega (arith, e)

    -- where nothing was added they are the same
    pub forced_same : length b.entries ≡ length a.entries → b.entries ≡ a.entries
    forced_same h =
        let e = ap length f.entries ∙ length-append a.entries f.added in
        f.entries ∙ ap (λ es. a.entries ++ es) (none f.added (omega (arith, e, h))) ∙ append-nil a.entries
      where
        none : (es : List Entry) → length es ≡ 0 → es ≡ []
        none [] h = refl
        none (e ∷ es) h = absurd (omega (arith, h))

    -- what was added isn't above the level
    pub added_levels : (x : ℕ) → level_of (drop (length a.entries) b.entries) x ≤ level
    added_levels x =
        subst (λ es. level_of es x ≤ level)
        (sym (ap (drop (length a.entries)) f.entries ∙ drop-append_seam a.entries f.added))
        (forced_levels literals level a.entries f.added x f.implied)

    -- what stood before a place stands there
    pub forced_take : (place : ℕ) → place ≤ length a.entries → take place b.entries ≡ take place a.entries
    forced_take place h = ap (take place) f.entries ∙ take-append-le place a.entries f.added h

    pub forced_before : (place : ℕ) → place ≤ length a.entries → val_before place b.entries ≡ val_before place a.entries
    forced_before place h = ap val (forced_take place h)

    -- an entry more is a clause fewer that isn't true
    pub forced_fewer : (clauses : ℕ) → ((c : ℕ) (l : Lit) → is_literal_in l (literals c) ≡ true → c < clauses)
        → count_open literals clauses (val b.entries) + length b.entries
        ≤ count_open literals clauses (val a.entries) + length a.entries
    forced_fewer clauses within =
        let counts = forced_counts literals level clauses within a.entries f.added f.implied in
        let moved = subst (λ es. count_open literals clauses (val es) + length f.added
        ≤ count_open literals clauses (val a.entries))
        (sym f.entries) counts in
        let e = ap length f.entries ∙ length-append a.entries f.added in
        omega (arith, moved, e)
