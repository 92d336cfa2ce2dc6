-- The invariant of watched literals: what keeps it, and what is true of a clause where all that is false is met.
use Rattle.std.proofs.Common.{◌≡◌, ℕ, ◌+◌, ◌<◌, true, false, not, ◌&&◌, inl, inr, List, [], ◌∷◌, ◌++◌, length}
use Rattle.std.proofs.Common.{take, slice_index_or, set, Some, refl, sym, ap, subst, ◌∙◌, nat_eq, eqb-true}
use Rattle.std.proofs.lemmas.Bool.{true≢false, eqb-false, and_parts, and_from, not-true, not_from_false}
use Rattle.std.proofs.lemmas.Bool.{false_from_ne_true}
use Rattle.std.proofs.lemmas.List.{take_more}
use Rattle.std.proofs.lemmas.Option.{slice_get_within, get_or_from_slice_get}
use Rattle.watch_map.proofs.Words.{AreTwoOrNone, AreWatchesSatisfied, AreWatchesSatisfiedBut, Entry, Extends}
use Rattle.watch_map.proofs.Words.{has_true_beside, is_false, is_false_literal, is_literal_in, is_true_literal, is_unit}
use Rattle.watch_map.proofs.Words.{IsUpdate, Lit, Neg, Pos, refuted_literal, same_literal, slice_get, val, val_before}
use Rattle.watch_map.proofs.Words.{Values, WatchOwn}
use Rattle.watch_map.proofs.WatchingLaws.{same_swap}
use Rattle.watch_map.proofs.LiteralLists.{by_test, all_at, any_at, passes_of, another, only_two, moved_two, not_ahead}
use Rattle.watch_map.proofs.ValueLaws.{true_kept, false_kept, true_is_not_false, false_of_more}
use Rattle.watch_map.proofs.ImplicationLaws.{forces_parts, forces_untrue}

-- ---- the true literal beside a watch

pub record Beside (now : Values) (ws : List Lit) (w : Lit) : Type 0 where
  pub literal : Lit
  pub within : is_literal_in literal ws ≡ true
  pub differs : same_literal literal w ≡ false
  pub is_true : is_true_literal now literal ≡ true

pub beside_parts : (now : Values) (ws : List Lit) (w : Lit) → has_true_beside now ws w ≡ true → Beside now ws w
beside_parts now ws w h =
    let p = passes_of (λ m. not (same_literal m w) && is_true_literal now m) ws h in
    let both = and_parts (not (same_literal p.literal w)) (is_true_literal now p.literal) p.passes in
    record {
      literal = p.literal;
      within = p.within;
      differs = not-true (same_literal p.literal w) both.0;
      is_true = both.1;
    }

pub beside_from : (now : Values) (ws : List Lit) (w : Lit) → Beside now ws w → has_true_beside now ws w ≡ true
beside_from now ws w b =
    any_at (λ m. not (same_literal m w) && is_true_literal now m) ws b.literal b.within
    (and_from (not (same_literal b.literal w)) (is_true_literal now b.literal)
    (not_from_false (same_literal b.literal w) b.differs) b.is_true)

-- true literals stay true
beside_kept : (a b : Values) → Extends a b → (ws : List Lit) (w : Lit) → has_true_beside a ws w ≡ true
    → has_true_beside b ws w ≡ true
beside_kept a b ex ws w h =
    let old = beside_parts a ws w h in
    beside_from b ws w (record {
      literal = old.literal;
      within = old.within;
      differs = old.differs;
      is_true = true_kept a b ex old.literal old.is_true;
    })

-- ---- more entries

pub met_kept : (before a b : Values) (watched : ℕ → List Lit) → Extends a b → AreWatchesSatisfied before a watched
    → AreWatchesSatisfied before b watched
met_kept before a b watched ex satisfied c w there f = beside_kept a b ex (watched c) w (satisfied c w there f)

pub met_but_kept : (ahead : List ℕ) (l : Lit) (a b : Values) (watched : ℕ → List Lit) → Extends a b
    → AreWatchesSatisfiedBut ahead l a watched → AreWatchesSatisfiedBut ahead l b watched
met_but_kept ahead l a b watched ex satisfied c there gone = beside_kept a b ex (watched c) l (satisfied c there gone)

-- ---- a walk

-- it goes on past a clause that is met
pub met_but_next : (c : ℕ) (rest : List ℕ) (l : Lit) (now : Values) (watched : ℕ → List Lit)
    → has_true_beside now (watched c) l ≡ true → AreWatchesSatisfiedBut (c ∷ rest) l now watched →
    AreWatchesSatisfiedBut rest l now watched
met_but_next c rest l now watched here satisfied d there gone =
    by_test (has_true_beside now (watched d) l ≡ true) (nat_eq d c)
    (λ e. subst (λ x. has_true_beside now (watched x) l ≡ true) (sym (eqb-true d c e)) here)
    (λ e. satisfied d there (not_ahead d c rest (eqb-false d c e) gone))

-- ---- a watch that moves: the clause watches `to` in the place of `from`

module _ (watched watched' : ℕ → List Lit) (c index : ℕ) (from to : Lit) (two : (d : ℕ) → AreTwoOrNone (watched d))
    (within : index < length (watched c)) (read : slice_index_or (watched c) index from ≡ from)
    (new : is_literal_in to (watched c) ≡ false) (update : IsUpdate watched c (set (watched c) index to) watched') where
  -- what the clause watches now
  in_moved : (d : ℕ) (w : Lit) → nat_eq d c ≡ true → is_literal_in w (watched' d) ≡ true
      → is_literal_in w (set (watched c) index to) ≡ true
  in_moved d w e there =
      subst (λ ws. is_literal_in w ws ≡ true) update.0
      (subst (λ x. is_literal_in w (watched' x) ≡ true) (eqb-true d c e) there)

  pub moved_own : (literals : ℕ → List Lit) → is_literal_in to (literals c) ≡ true → WatchOwn literals watched
      → WatchOwn literals watched'
  moved_own literals own_to own d w there =
      by_test (is_literal_in w (literals d) ≡ true) (nat_eq d c)
      (λ e. subst (λ x. is_literal_in w (literals x) ≡ true) (sym (eqb-true d c e))
      (elim ((moved_two (watched c) index from to (two c) within read new).others w (in_moved d w e there)) [
        | inl is ↦ subst (λ x. is_literal_in x (literals c) ≡ true) (sym is) own_to
        | inr was ↦ own c w was.0
      ]))
      (λ e. own d w (subst (λ ws. is_literal_in w ws ≡ true) (update.1 d (eqb-false d c e)) there))

  pub moved_as_many : (d : ℕ) → length (watched' d) ≡ length (watched d)
  moved_as_many d =
      by_test (length (watched' d) ≡ length (watched d)) (nat_eq d c)
      (λ e. subst (λ x. length (watched' x) ≡ length (watched x)) (sym (eqb-true d c e))
      (ap length update.0 ∙ (moved_two (watched c) index from to (two c) within read new).as_many))
      (λ e. ap length (update.1 d (eqb-false d c e)))

  module _ (now : Values) (from_false : is_false_literal now from ≡ true)
      (to_open : is_false_literal now to ≡ false) where
    -- What is met stays met, by whatever earlier values it was false and is met. For `to` isn't false; and the clause's
    -- other watch isn't either, since beside it there was no true one.
    pub moved_met : (before seen : Values) → Extends before now → Extends seen now
        → is_literal_in from (watched c) ≡ true
        → AreWatchesSatisfied before seen watched → AreWatchesSatisfied before seen watched'
    moved_met before seen ex ex_seen watched_from satisfied d w there f =
        by_test (has_true_beside seen (watched' d) w ≡ true) (nat_eq d c)
        (λ e. absurd (at_c w (in_moved d w e there) f))
        (λ e. let same = update.1 d (eqb-false d c e) in
        subst (λ ws. has_true_beside seen ws w ≡ true) (sym same)
        (satisfied d w (subst (λ ws. is_literal_in w ws ≡ true) same there) f))
      where
        at_c : (w : Lit) → is_literal_in w (set (watched c) index to) ≡ true → is_false_literal before w ≡ true → ⊥
        at_c w there f =
            elim ((moved_two (watched c) index from to (two c) within read new).others w there) [
              | inl is ↦ true≢false
                  (sym (subst (λ x. is_false_literal now x ≡ true) is (false_kept before now ex w f)) ∙ to_open)
              | inr was ↦
                  let b = beside_parts seen (watched c) w (satisfied c w was.0 f) in
                  let it : b.literal ≡ from = only_two (watched c) (two c) b.literal from w b.within watched_from was.0
                  b.differs (same_swap from w ∙ was.1) in
                  true_is_not_false now from
                  (subst (λ x. is_true_literal now x ≡ true) it
                  (true_kept seen now ex_seen b.literal b.is_true)) from_false
            ]

    -- and the walk of `from` goes on behind the clause
    pub moved_met_but : (rest : List ℕ) → AreWatchesSatisfiedBut (c ∷ rest) from now watched →
        AreWatchesSatisfiedBut rest from now watched'
    moved_met_but rest satisfied d there gone =
        by_test (has_true_beside now (watched' d) from ≡ true) (nat_eq d c)
        (λ e. absurd (true≢false (sym (in_moved d from e there)
        ∙ (moved_two (watched c) index from to (two c) within read new).gone)))
        (λ e. let same = update.1 d (eqb-false d c e) in
        subst (λ ws. has_true_beside now ws from ≡ true) (sym same)
        (satisfied d (subst (λ ws. is_literal_in from ws ≡ true) same there)
        (not_ahead d c rest (eqb-false d c e) gone)))

-- ---- places

-- before the first place nothing is false
pub met_at_start : (es : List Entry) (now : Values) (watched : ℕ → List Lit) →
    AreWatchesSatisfied (val_before 0 es) now watched
met_at_start es now watched c w there f = absurd (nothing w f)
  where
    nothing : (l : Lit) → is_false_literal (val_before 0 es) l ≡ true → ⊥
    nothing (Pos x) h = (let z : false ≡ true = h in cc)
    nothing (Neg x) h = (let z : false ≡ true = h in cc)

-- once the literal that an entry refutes is met, so is all that is false up to the entry
pub met_one_more : (es : List Entry) (place : ℕ) (e : Entry) (now : Values) (watched : ℕ → List Lit)
    → slice_get es place ≡ Some e → AreWatchesSatisfied (val_before place es) now watched
    → AreWatchesSatisfiedBut [] (refuted_literal e.decision) now watched →
    AreWatchesSatisfied (val_before (place + 1) es) now watched
met_one_more es place e now watched at satisfied one c w there f =
    let more : take (place + 1) es ≡ take place es ++ e ∷ [] = take_more es place e (slice_get_within es place e at)
    ∙ ap (λ x. take place es ++ x ∷ []) (get_or_from_slice_get es place e e at) in
    elim (false_of_more (take place es) e w (subst (λ xs. is_false_literal (val xs) w ≡ true) more f)) [
      | inl old ↦ satisfied c w there old
      | inr is ↦ subst (λ x. has_true_beside now (watched c) x ≡ true) (sym is)
          (one c (subst (λ x. is_literal_in x (watched c) ≡ true) is there) refl)
    ]

-- ---- the end: a clause that watches something is settled once each false watch is met

module _ (literals watched : ℕ → List Lit) (now : Values) (two : (c : ℕ) → AreTwoOrNone (watched c))
    (own : WatchOwn literals watched) (satisfied : AreWatchesSatisfied now now watched) where
  -- a false watch stands beside a literal of the clause that is true
  met_has_true : (c : ℕ) (w : Lit) → is_literal_in w (watched c) ≡ true → is_false_literal now w ≡ true
      → ((m : Lit) → is_literal_in m (literals c) ≡ true → is_true_literal now m ≡ true → ⊥) → ⊥
  met_has_true c w there f untrue =
      let b = beside_parts now (watched c) w (satisfied c w there f) in
      untrue b.literal (own c b.literal b.within) b.is_true

  pub met_not_false : (c : ℕ) (w : Lit) → is_literal_in w (watched c) ≡ true → is_false now (literals c) ≡ false
  met_not_false c w there =
      false_from_ne_true (is_false now (literals c))
      (λ all. met_has_true c w there (all_at (is_false_literal now) (literals c) w all (own c w there))
      (λ m h t. true_is_not_false now m t (all_at (is_false_literal now) (literals c) m all h)))

  -- of two watches one isn't the literal that is forced, and so is false
  pub met_not_forcing : (c : ℕ) (w : Lit) → is_literal_in w (watched c) ≡ true → (l : Lit)
      → is_unit now (literals c) l ≡ false
  met_not_forcing c w there l =
      false_from_ne_true (is_unit now (literals c) l)
      (λ implied.
      let f = forces_parts now (literals c) l implied in
      let v = another (watched c) (two c) w l there in
      met_has_true c v.literal v.within (f.others v.literal (own c v.literal v.within) v.differs)
      (λ m h t. forces_untrue now (literals c) l f m h t))
