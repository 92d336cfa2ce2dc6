-- The clauses that watch nothing: what keeps the list of their ids, and what is true of all that are in it.
use Rattle.std.proofs.Common.{◌≡◌, ℕ, ◌+◌, ◌<◌, ◌≤◌, true, false, List, [], ◌∷◌, ◌++◌, length, get_or, take, Option}
use Rattle.std.proofs.Common.{None}
use Rattle.std.proofs.Common.{refl, sym, ap, subst, ◌∙◌, arith, nat_eq, eqb-true, length-append, Result, Ok, Err}
use Rattle.std.specs.Prelude.{if◌then◌else◌}
use Rattle.std.proofs.lemmas.Bool.{eqb-false}
use Rattle.std.proofs.lemmas.Bool.Decides.{nat_tests}
use Rattle.std.proofs.lemmas.List.{get_or_append_left, get_or_default, get_or-take, length-take-le, length-map}
use Rattle.std.proofs.lemmas.List.{take_more}
use Rattle.std.proofs.lemmas.List.Elements.{All-push, All-take, All-contains, Contains-push, Contains-append_left}
use Rattle.std.proofs.lemmas.List.Quantifiers.{all_pairs_push}
use Rattle.watch_map.proofs.Words.{All, AllPairs, AreAllSettled, AreAllTrue, AreUnwatched, AreUnwatchedBelow}
use Rattle.watch_map.proofs.Words.{AreUnwatchedSettled, AreUnwatchedTrue, Contains, is_true, IsRewatched, IsSettled}
use Rattle.watch_map.proofs.Words.{Lit, nat_lt, OnErr, OnOk, same_literal, SameLists, Values, watched_by}
use Rattle.watch_map.proofs.Words.{WatchedLiterals, Watches, WatchLists}
use Rattle.watch_map.specs.WatchLists.{literals_in}
use Rattle.watch_map.proofs.LiteralLists.{by_test}
use Rattle.watch_map.proofs.MarkLaws.{true_is_settled}

-- ---- the list

module _ (watched : ℕ → List Lit) where
  module _ (bound : ℕ) (ids : List ℕ) (are : AreUnwatched watched bound ids) where
    within_more : All (λ c. c < bound + 1) ids
    within_more k d h = (let below = are.within k d h in omega (arith, below))

    -- the next clause watches something
    pub unwatched_same : (watched bound ≡ [] → ⊥) → AreUnwatched watched (bound + 1) ids
    unwatched_same some = record {
      all = λ c h none. by_test (Contains ids c) (nat_eq c bound)
          (λ e. absurd (some (subst (λ x. watched x ≡ []) (eqb-true c bound e) none)))
          (λ e. let ne = eqb-false c bound e in are.all c (omega (arith, ne, h)) none);
      within = within_more;
      unwatched = are.unwatched;
      ascending = are.ascending;
    }

    -- it watches nothing
    pub unwatched_more : watched bound ≡ [] → AreUnwatched watched (bound + 1) (ids ++ bound ∷ [])
    unwatched_more none = record {
      all = λ c h nothing. by_test (Contains (ids ++ bound ∷ []) c) (nat_eq c bound)
          (λ e. subst (Contains (ids ++ bound ∷ [])) (sym (eqb-true c bound e)) (Contains-push ids bound))
          (λ e. let ne = eqb-false c bound e in
          Contains-append_left ids (bound ∷ []) c (are.all c (omega (arith, ne, h)) nothing));
      within = All-push (λ c. c < bound + 1) ids bound within_more (omega arith);
      unwatched = All-push (λ c. watched c ≡ []) ids bound are.unwatched none;
      ascending = all_pairs_push (λ c d. c < d) ids bound are.ascending are.within;
    }

-- a list of no literals is as long as no other
none_alike : (ls ms : List Lit) → length ls ≡ length ms → ms ≡ [] → ls ≡ []
none_alike [] ms e none = refl
none_alike (l ∷ ls) ms e none = absurd (let short = ap length none in omega (arith, e, short))

-- who watches nothing does so where each clause watches as many literals as before
pub unwatched_alike : (watched watched' : ℕ → List Lit) (bound : ℕ) (ids : List ℕ)
    → ((c : ℕ) → c < bound → length (watched' c) ≡ length (watched c))
    → AreUnwatched watched bound ids → AreUnwatched watched' bound ids
unwatched_alike watched watched' bound ids alike are = record {
  all = λ c h none. are.all c h (none_alike (watched c) (watched' c) (sym (alike c h)) none);
  within = are.within;
  unwatched = λ k d h. none_alike (watched' (get_or ids k d)) (watched (get_or ids k d))
      (alike (get_or ids k d) (are.within k d h)) (are.unwatched k d h);
  ascending = are.ascending;
}

-- ---- places in it

module _ (ids : List ℕ) (index id : ℕ) (within : index < length ids) (at : id ≡ get_or ids index id) where
  here : (d : ℕ) → get_or ids index d ≡ id
  here d = get_or_default ids index d id within ∙ sym at

  -- what is true of those in front, and of this one
  pub one_more : (P : ℕ → Type 0) → All P (take index ids) → P id → All P (take (index + 1) ids)
  one_more P front own =
      subst (All P) (sym (take_more ids index id within ∙ ap (λ x. take index ids ++ x ∷ []) (sym at)))
      (All-push P (take index ids) id front own)

  module _ (ascending : AllPairs (λ c d. c < d) ids) where
    -- those in front of one below a bound are below it too
    pub up_to_here : (bound : ℕ) → id < bound → All (λ c. c < bound) (take (index + 1) ids)
    up_to_here bound below = one_more (λ c. c < bound) in_front below
      where
        in_front : All (λ c. c < bound) (take index ids)
        in_front k d h =
            let long = length-take-le index ids (omega (arith, within)) in
            let k_in_front : k < index = omega (arith, h, long) in
            let less = ascending k index d k_in_front within in
            let e = here d in
            subst (λ x. x < bound) (sym (get_or-take index ids k d k_in_front)) (omega (arith, less, e, below))

    -- and those below this one stand in front of it
    pub below_here : (P : ℕ → Type 0) → All P (take index ids) → All (λ c. c < id → P c) ids
    below_here P front k d h less =
        by_test (P (get_or ids k d)) (nat_lt k index)
        (λ t.
        let k_in_front : k < index = grind (arith, nat_tests, t) in
        let long = length-take-le index ids (omega (arith, within)) in
        subst P (get_or-take index ids k d k_in_front) (front k d (omega (arith, k_in_front, long))))
        (λ t.
        let behind : index ≤ k = grind (arith, nat_tests, t) in
        by_test (P (get_or ids k d)) (nat_eq k index)
        (λ e.
        let same : get_or ids k d ≡ id = ap (λ i. get_or ids i d) (eqb-true k index e) ∙ here d in
        absurd (omega (arith, same, less)))
        (λ e.
        let ne = eqb-false k index e in
        let more = ascending index k d (omega (arith, behind, ne)) h in
        let same = here d in
        absurd (omega (arith, more, same, less))))

-- ---- the records of all clauses

module _ (bound : ℕ) (ids : List ℕ) where
  -- a record more
  pub below_longer : (ws : Watches) (w : Option WatchedLiterals) → AreUnwatchedBelow ws bound ids
      → AreUnwatchedBelow (ws ++ w ∷ []) bound ids
  below_longer ws w below =
      let within = below.within in
      let long = length-append ws (w ∷ []) in
      record {
        within = omega (arith, within, long);
        are = unwatched_alike (watched_by ws) (watched_by (ws ++ w ∷ [])) bound ids
            (λ c h. ap (λ o. length (literals_in o)) (get_or_append_left ws (w ∷ []) None c (omega (arith, within, h))))
            below.are;
      }

  -- the next record is of a clause that watches something
  pub next_watches : (ws : Watches) → AreUnwatchedBelow ws bound ids → bound < length ws
      → nat_lt 0 (length (watched_by ws bound)) ≡ true → AreUnwatchedBelow ws (bound + 1) ids
  next_watches ws below within test = record {
    within = omega (arith, within);
    are = unwatched_same (watched_by ws) bound ids below.are
        (λ none.
        let some : 0 < length (watched_by ws bound) = grind (arith, nat_tests, test) in
        let short = ap length none in
        absurd (omega (arith, some, short)));
  }

  -- it is of one that watches nothing
  pub next_does_not : (ws : Watches) (id : ℕ) (now : List ℕ) → AreUnwatchedBelow ws bound ids → bound < length ws
      → nat_lt 0 (length (watched_by ws bound)) ≡ false → id ≡ bound → now ≡ ids ++ id ∷ []
      → AreUnwatchedBelow ws (bound + 1) now
  next_does_not ws id now below within test is more = record {
    within = omega (arith, within);
    are = subst (AreUnwatched (watched_by ws) (bound + 1)) (sym (more ∙ ap (λ x. ids ++ x ∷ []) is))
        (unwatched_more (watched_by ws) bound ids below.are (no_literals (watched_by ws bound) test));
  }
    where
      no_literals : (ls : List Lit) → nat_lt 0 (length ls) ≡ false → ls ≡ []
      no_literals [] e = refl
      no_literals (l ∷ ls) e = absurd (let none : length (l ∷ ls) ≤ 0 = grind (arith, nat_tests, e) in
          omega (arith, none))

  -- the bound has reached all clauses
  pub all_of_them : (ws : Watches) (clauses : ℕ) → AreUnwatchedBelow ws bound ids → bound ≡ length ws →
      clauses ≡ length ws → AreUnwatched (watched_by ws) clauses ids
  all_of_them ws clauses below whole many =
      subst (λ n. AreUnwatched (watched_by ws) n ids) (whole ∙ sym many) below.are

  -- records of as many literals
  pub below_alike : (ws ws' : Watches) → length ws' ≡ length ws
      → ((c : ℕ) → length (watched_by ws' c) ≡ length (watched_by ws c))
      → AreUnwatchedBelow ws bound ids → AreUnwatchedBelow ws' bound ids
  below_alike ws ws' as_many alike below = record {
    within = subst (λ n. bound ≤ n) (sym as_many) below.within;
    are = unwatched_alike (watched_by ws) (watched_by ws') bound ids (λ c h. alike c) below.are;
  }

  -- a watch moved, or was not
  pub below_rewatched : {T E : Type 0} (result : Result T E) (old new : WatchLists) (ws ws' : Watches) (clause : ℕ)
      (from to : Lit) → OnOk result (IsRewatched old ws clause from to new ws')
      → OnErr result (SameLists old new × (ws' ≡ ws)) → AreUnwatchedBelow ws bound ids → AreUnwatchedBelow ws' bound ids
  below_rewatched (Ok x) old new ws ws' clause from to ok err below =
      below_alike ws ws' ok.as_many
      (λ c. by_test (length (watched_by ws' c) ≡ length (watched_by ws c)) (nat_eq c clause)
      (λ e. subst (λ x. length (watched_by ws' x) ≡ length (watched_by ws x)) (sym (eqb-true c clause e))
      (ap length ok.literals.0
      ∙ length-map (watched_by ws clause) (λ l. if same_literal l from then to else l)))
      (λ e. ap length (ok.literals.1 c (eqb-false c clause e)))) below
  below_rewatched (Err e) old new ws ws' clause from to ok err below =
      subst (λ rs. AreUnwatchedBelow rs bound ids) (sym err.1) below

-- ---- a saturation

module _ (literals watched : ℕ → List Lit) (clauses : ℕ) (ids : List ℕ) (now : Values)
    (are : AreUnwatched watched clauses ids) where
  -- those before a bound below which they are true
  pub first_are_true : (bound first : ℕ) → AreUnwatchedTrue literals watched bound now
      → All (λ c. c < bound) (take first ids) → AreAllTrue literals (take first ids) now
  first_are_true bound first true_below before k d h =
      true_below (get_or (take first ids) k d) (before k d h)
      (All-take (λ c. watched c ≡ []) first ids are.unwatched k d h)

  pub true_up_to : (bound : ℕ) → bound ≤ clauses
      → All (λ c. c < bound → is_true now (literals c) ≡ true) ids → AreUnwatchedTrue literals watched bound now
  true_up_to bound within below c h none =
      All-contains (λ x. x < bound → is_true now (literals x) ≡ true) ids c below
      (are.all c (omega (arith, within, h)) none) h

  pub settled_if_listed : AreAllSettled literals ids now → AreUnwatchedSettled literals watched clauses now
  settled_if_listed all c h none = All-contains (λ x. IsSettled now (literals x)) ids c all (are.all c h none)

-- those that are true are settled
pub true_are_settled : (literals : ℕ → List Lit) (ids : List ℕ) (now : Values)
    → AreAllTrue literals ids now → AreAllSettled literals ids now
true_are_settled literals ids now are k d h = true_is_settled now (literals (get_or ids k d)) (are k d h)
