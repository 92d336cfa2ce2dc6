-- What a look at one clause tells.
use Rattle.std.proofs.Common.{◌≡◌, ℕ, zero, suc, ◌<◌, ◌-◌, Bool, true, false, not, ◌&&◌, ◌||◌, inl, inr, List, []}
use Rattle.std.proofs.Common.{◌∷◌, length, slice_index_or, get_or, Some, None, refl, sym, subst, ◌∙◌, arith}
use Rattle.std.proofs.lemmas.Bool.{true≢false, and_parts, or_left, or_right, not-true, not-false, false_from_ne_true}
use Rattle.std.proofs.lemmas.Option.{slice_get_read}
use Rattle.watch_map.proofs.Words.{AreTwoOrNone, find, has_true_beside, ImpliesOther, is_false, is_false_literal}
use Rattle.watch_map.proofs.Words.{is_literal_in, is_true_literal, is_unit, IsSettled, IsWatching, Lit, may_watch}
use Rattle.watch_map.proofs.Words.{MayWatch, same_literal, slice_get, truth, Values}
use Rattle.watch_map.proofs.WatchingLaws.{same_is, same_self, same_swap}
use Rattle.watch_map.proofs.LiteralLists.{by_test, all_at, all_from, found_is, none_found, in_two, apart}
use Rattle.watch_map.proofs.ValueLaws.{open_if, true_is_decided}
use Rattle.watch_map.proofs.ImplicationLaws.{forces_parts, forces_from}
use Rattle.watch_map.proofs.SatisfiedLaws.{beside_from}

-- what neither of two tests refuses
not_and : (a b : Bool) → (not a && not b) ≡ false → a ≡ false → b ≡ true
not_and true b h n = absurd (true≢false n)
not_and false b h n = not-false b h

-- ---- the two watches of a clause

-- two different watches, and no more
pub record Pair (ws : List Lit) (l other : Lit) : Type 0 where
  pub here : is_literal_in l ws ≡ true
  pub there : is_literal_in other ws ≡ true
  pub differs : same_literal other l ≡ false
  pub absent : (m : Lit) → same_literal m l ≡ false → same_literal m other ≡ false → is_literal_in m ws ≡ false

pub pair_at : (ws : List Lit) (index : ℕ) (l other : Lit) → AreTwoOrNone ws → index < length ws
    → slice_index_or ws index l ≡ l → slice_get ws (1 - index) ≡ Some other → Pair ws l other
pair_at [] index l other two within read at = absurd (omega (arith, within))
pair_at (a ∷ []) index l other two within read at = absurd two
pair_at (a ∷ b ∷ c ∷ ws) index l other two within read at = absurd two
pair_at (a ∷ b ∷ []) zero l other two within read at =
    let o : b ≡ other = cc in
    subst (λ y. Pair (a ∷ b ∷ []) l y) o (subst (λ x. Pair (a ∷ b ∷ []) x b) read (record {
      here = or_left (same_literal a a) (same_literal a b || false) (same_self a);
      there = or_right (same_literal b a) (same_literal b b || false) (or_left (same_literal b b) false (same_self b));
      differs = same_swap b a ∙ two;
      absent = λ m na nb. rw (na, nb) refl;
    }))
pair_at (a ∷ b ∷ []) (suc zero) l other two within read at =
    let o : a ≡ other = cc in
    subst (λ y. Pair (a ∷ b ∷ []) l y) o (subst (λ x. Pair (a ∷ b ∷ []) x a) read (record {
      here = or_right (same_literal b a) (same_literal b b || false) (or_left (same_literal b b) false (same_self b));
      there = or_left (same_literal a a) (same_literal a b || false) (same_self a);
      differs = two;
      absent = λ m nb na. rw (na, nb) refl;
    }))
pair_at (a ∷ b ∷ []) (suc (suc index)) l other two within read at = absurd (omega (arith, within))

-- the same by what was read of a record: its watches `ws`, and the other of them
pub pair_read : (literals watched ws : List Lit) (index i : ℕ) (l other : Lit) → watched ≡ ws → i ≡ index
    → IsWatching literals watched → index < length watched → slice_index_or watched index l ≡ l
    → 2 ≡ length ws → other ≡ get_or ws (1 - i) other → Pair watched l other
pair_read literals watched ws index i l other e_ws e_i watching within read two is =
    let at : slice_get ws (1 - i) ≡ Some other = slice_get_read ws 2 (1 - i) other two (omega arith) is in
    pair_at watched index l other watching.two within read
    (subst (λ j. slice_get watched (1 - j) ≡ Some other) e_i
    (subst (λ xs. slice_get xs (1 - i) ≡ Some other) (sym e_ws) at))

-- ---- a clause of two literals

-- one of two that isn't the other is the one
of_two : (x y l other m : Lit) → is_literal_in l (x ∷ y ∷ []) ≡ true → is_literal_in other (x ∷ y ∷ []) ≡ true
    → is_literal_in m (x ∷ y ∷ []) ≡ true → same_literal other l ≡ false → same_literal m other ≡ false → m ≡ l
of_two x y l other m hl ho hm ne mo =
    elim (in_two x y l hl) [
      | inl lx ↦ elim (in_two x y other ho) [
        | inl ox ↦ absurd (apart other l ne (ox ∙ sym lx))
        | inr oy ↦ elim (in_two x y m hm) [ inl mx ↦ mx ∙ sym lx | inr my ↦ absurd (apart m other mo (my ∙ sym oy)) ]
      ]
      | inr ly ↦ elim (in_two x y other ho) [
        | inl ox ↦ elim (in_two x y m hm) [ inl mx ↦ absurd (apart m other mo (mx ∙ sym ox)) | inr my ↦ my ∙ sym ly ]
        | inr oy ↦ absurd (apart other l ne (oy ∙ sym ly))
      ]
    ]

-- where a clause of two literals watches these, none is left
pub none_left : (now : Values) (ls : List Lit) (l other : Lit) → length ls ≡ 2 → IsWatching ls (l ∷ other ∷ [])
    → find (may_watch now l other) ls ≡ None
none_left now [] l other two watching = absurd (omega (arith, two))
none_left now (x ∷ []) l other two watching = absurd (omega (arith, two))
none_left now (x ∷ y ∷ z ∷ ls) l other two watching = absurd (omega (arith, two))
none_left now (x ∷ y ∷ []) l other two watching =
    let hl = watching.own l (or_left (same_literal l l) (same_literal l other || false) (same_self l)) in
    let ho = watching.own other
    (or_right (same_literal other l) (same_literal other other || false)
    (or_left (same_literal other other) false (same_self other))) in
    let differs : same_literal other l ≡ false = same_swap other l ∙ watching.two in
    let fails : (m : Lit) → is_literal_in m (x ∷ y ∷ []) ≡ true → may_watch now l other m ≡ false =
    λ m there. by_test (may_watch now l other m ≡ false) (same_literal m other)
    (λ s. rw s refl)
    (λ s. rw (
      s,
      subst (λ a. same_literal a l ≡ true) (sym (of_two x y l other m hl ho there differs s))
          (same_self l),
    ) refl) in
    let first = fails x (or_left (same_literal x x) (same_literal x y || false) (same_self x)) in
    let second = fails y
    (or_right (same_literal y x) (same_literal y y || false) (or_left (same_literal y y) false (same_self y))) in
    rw (first, second) refl

-- ---- a look at a clause of which the watch `l` is false

module _ (now : Values) (ls ws : List Lit) (l other : Lit) (pair : Pair ws l other)
    (watching : IsWatching ls ws) (l_false : is_false_literal now l ≡ true) where
  -- the two are watched
  pub look_watching : IsWatching ls (l ∷ other ∷ [])
  look_watching = record {
    two = same_swap l other ∙ pair.differs;
    own = λ m there. elim (in_two l other m there) [
      | inl e ↦ subst (λ x. is_literal_in x ls ≡ true) (sym e) (watching.own l pair.here)
      | inr e ↦ subst (λ x. is_literal_in x ls ≡ true) (sym e) (watching.own other pair.there)
    ];
  }

  pub look_moves : (m : Lit) → find (may_watch now l other) ls ≡ Some m → MayWatch now ls ws m
  look_moves m h =
      let found = found_is (may_watch now l other) ls m h in
      let both = and_parts (not (same_literal m other) && not (same_literal m l))
      (not (is_false_literal now m)) found.1 in
      let unlike = and_parts (not (same_literal m other)) (not (same_literal m l)) both.0 in
      record {
        own = found.0;
        unwatched = pair.absent m (not-true (same_literal m l) unlike.1) (not-true (same_literal m other) unlike.0);
        not_false = not-true (is_false_literal now m) both.1;
      }

  -- where none is left, all but the other watch is false
  look_others : find (may_watch now l other) ls ≡ None → (m : Lit) → is_literal_in m ls ≡ true
      → same_literal m other ≡ false → is_false_literal now m ≡ true
  look_others h m there s = by_test (is_false_literal now m ≡ true) (same_literal m l)
      (λ e. subst (λ x. is_false_literal now x ≡ true) (sym (same_is m l e)) l_false)
      (λ e. not_and (same_literal m l) (is_false_literal now m)
      (rw s at (none_found (may_watch now l other) ls h m there)) e)

  pub look_forces : find (may_watch now l other) ls ≡ None → is_true_literal now other ≡ false
      → is_false_literal now other ≡ false → ImpliesOther now ls ws l other
  look_forces h t f = record {
    implied = forces_from now ls other (record {
      own = watching.own other pair.there;
      is_open = open_if (truth now other) t f;
      others = look_others h;
    });
    watch = pair.there;
    other = pair.differs;
  }

  pub look_conflicts : find (may_watch now l other) ls ≡ None → is_false_literal now other ≡ true
      → is_false now ls ≡ true
  look_conflicts h f = all_from (is_false_literal now) ls
      (λ m there. by_test (is_false_literal now m ≡ true) (same_literal m other)
      (λ s. subst (λ x. is_false_literal now x ≡ true) (sym (same_is m other s)) f) (look_others h m there))

pub look_met : (now : Values) (ws : List Lit) (l other : Lit) → Pair ws l other
    → is_true_literal now other ≡ true → has_true_beside now ws l ≡ true
look_met now ws l other pair t =
    beside_from now ws l (record { literal = other; within = pair.there; differs = pair.differs; is_true = t })

-- ---- a look at all literals

module _ (now : Values) (ls : List Lit) where
  pub find_none : find (λ m. not (is_false_literal now m)) ls ≡ None → is_false now ls ≡ true
  find_none h = all_from (is_false_literal now) ls
      (λ m there. not-false (is_false_literal now m) (none_found (λ x. not (is_false_literal now x)) ls h m there))

  module _ (first : Lit) (found : find (λ m. not (is_false_literal now m)) ls ≡ Some first) where
    first_in : is_literal_in first ls ≡ true
    first_in = (found_is (λ m. not (is_false_literal now m)) ls first found).0

    first_open : is_false_literal now first ≡ false
    first_open = not-true (is_false_literal now first) (found_is (λ m. not (is_false_literal now m)) ls first found).1

    first_not_false : is_false now ls ≡ false
    first_not_false = false_from_ne_true (is_false now ls)
        (λ all. true≢false (sym (all_at (is_false_literal now) ls first all first_in) ∙ first_open))

    -- a forced literal is the first
    forced_is_first : (l : Lit) → is_unit now ls l ≡ true → first ≡ l
    forced_is_first l f =
        by_test (first ≡ l) (same_literal first l) (same_is first l)
        (λ s. absurd (true≢false (sym ((forces_parts now ls l f).others first first_in s) ∙ first_open)))

    pub find_true : is_true_literal now first ≡ true → IsSettled now ls
    find_true t = (
      first_not_false,
      λ l. false_from_ne_true (is_unit now ls l)
          (λ f. true_is_decided now l (subst (λ x. is_true_literal now x ≡ true) (forced_is_first l f) t)
          (forces_parts now ls l f).is_open),
    )

    pub find_second : (second : Lit)
        → find (λ m. not (same_literal m first) && not (is_false_literal now m)) ls ≡ Some second
        → IsSettled now ls
    find_second second h = (
      first_not_false,
      λ l. false_from_ne_true (is_unit now ls l)
          (λ f.
          let it = found_is (λ m. not (same_literal m first) && not (is_false_literal now m)) ls second h in
          let both = and_parts (not (same_literal second first)) (not (is_false_literal now second)) it.1 in
          let differs : same_literal second l ≡ false =
          subst (λ x. same_literal second x ≡ false) (forced_is_first l f)
          (not-true (same_literal second first) both.0) in
          true≢false (sym ((forces_parts now ls l f).others second it.0 differs)
          ∙ not-true (is_false_literal now second) both.1)),
    )

    pub find_only : find (λ m. not (same_literal m first) && not (is_false_literal now m)) ls ≡ None
        → is_true_literal now first ≡ false → is_unit now ls first ≡ true
    find_only h t = forces_from now ls first (record {
      own = first_in;
      is_open = open_if (truth now first) t first_open;
      others = λ m there s. not_and (same_literal m first) (is_false_literal now m)
          (none_found (λ x. not (same_literal x first) && not (is_false_literal now x)) ls h m there) s;
    })
