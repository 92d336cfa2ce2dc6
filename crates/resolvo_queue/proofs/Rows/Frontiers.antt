-- A frontier depends on the values of its rows' variables alone, and counts at least one row.
use Rattle.std.proofs.Common.{◌≡◌, ℕ, ◌+◌, ◌≤◌, Bool, true, false, ◌&&◌, ◌||◌, cond, eqb, List, [], ◌∷◌}
use Rattle.std.proofs.Common.{Option, Some, None, find, option_map, fold, ap, refl, ◌∙◌, arith, eq-eqb}
use Rattle.resolvo_queue.proofs.Words.{Frontier, frontier, frontier_at, has_true_row, here, is_undecided_row}
use Rattle.resolvo_queue.proofs.Words.{known_true, list_any, Row, SameElsewhere, Stands, there, undecided, Values}
use Rattle.resolvo_queue.proofs.Words.{VersionSetId}

-- a routed variable stands in the rows
abbrev pub routes_rows : (ℕ → Bool) → List Row → Bool
routes_rows routed rs = list_any (λ (row : Row). routed row.variable) rs

first_of_two : (a b : Bool) → (a || b) ≡ false → a ≡ false
first_of_two true b h = h
first_of_two false b h = refl

second_of_two : (a b : Bool) → (a || b) ≡ false → b ≡ false
second_of_two true b h = cc
second_of_two false b h = h

module _ (v w : Values) where
  -- both give each row's variable the same value
  abbrev pub SameRows : List Row → Type 0
  SameRows rs = (row : Row) → Stands row rs → v row.variable ≡ w row.variable

  has_true_same : (rs : List Row) → SameRows rs → has_true_row v rs ≡ has_true_row w rs
  has_true_same [] h = refl
  has_true_same (r ∷ rs) h = ap (λ x. known_true x || has_true_row v rs) (h r here)
      ∙ ap (λ b. known_true (w r.variable) || b) (has_true_same rs (λ q s. h q (there s)))

  find_same : (rs : List Row) → SameRows rs → find (is_undecided_row v) rs ≡ find (is_undecided_row w) rs
  find_same [] h = refl
  find_same (r ∷ rs) h = ap (λ x. cond (undecided x) (Some r) (find (is_undecided_row v) rs)) (h r here)
      ∙ ap (λ o. cond (undecided (w r.variable)) (Some r) o) (find_same rs (λ q s. h q (there s)))

  counted_same : (set : VersionSetId) (rs : List Row) (n : ℕ) → SameRows rs →
      fold (λ m (row : Row). m + cond (eqb row.set.0 set.0 && is_undecided_row v row) 1 0) n rs
      ≡ fold (λ m (row : Row). m + cond (eqb row.set.0 set.0 && is_undecided_row w row) 1 0) n rs
  counted_same set [] n h = refl
  counted_same set (r ∷ rs) n h =
      ap (λ x. fold (λ m (row : Row). m + cond (eqb row.set.0 set.0 && is_undecided_row v row) 1 0)
      (n + cond (eqb r.set.0 set.0 && undecided x) 1 0) rs) (h r here) ∙ counted_same set rs _ (λ q s. h q (there s))

  -- the frontier is the same where the row variables' values are
  pub frontier_same : (rs : List Row) → SameRows rs → frontier v rs ≡ frontier w rs
  frontier_same rs h =
      ap (λ b. cond b None (option_map (frontier_at v rs) (find (is_undecided_row v) rs))) (has_true_same rs h)
      ∙ (ap (λ o. cond (has_true_row w rs) None (option_map (frontier_at v rs) o)) (find_same rs h)
      ∙ ap (λ o. cond (has_true_row w rs) None o) (at_same (find (is_undecided_row w) rs)))
    where
      at_same : (o : Option Row) → option_map (frontier_at v rs) o ≡ option_map (frontier_at w rs) o
      at_same None = refl
      at_same (Some row) =
          ap (λ n. Some (record { variable = row.variable; set = row.set; count = n })) (counted_same row.set rs 0 h)

  unrouted_same : (routed : ℕ → Bool) → SameElsewhere routed v w → (rs : List Row) →
      routes_rows routed rs ≡ false → SameRows rs
  unrouted_same routed same [] e row s = elim s [ ]
  unrouted_same routed same (r ∷ rs) e row here =
      same r.variable (first_of_two (routed r.variable) (routes_rows routed rs) e)
  unrouted_same routed same (r ∷ rs) e row (there s) =
      unrouted_same routed same rs (second_of_two (routed r.variable) (routes_rows routed rs) e) row s

  -- so it is right as long as no row's variable is routed
  pub frontier_unrouted : (routed : ℕ → Bool) → SameElsewhere routed v w → (rs : List Row) →
      routes_rows routed rs ≡ false → frontier v rs ≡ frontier w rs
  frontier_unrouted routed same rs e = frontier_same rs (unrouted_same routed same rs e)

-- ---- a frontier counts its own row

module _ (val : Values) where
  abbrev count_on : VersionSetId → ℕ → List Row → ℕ
  count_on set n rs = fold (λ m (row : Row). m + cond (eqb row.set.0 set.0 && is_undecided_row val row) 1 0) n rs

  no_less : (set : VersionSetId) (n : ℕ) (rs : List Row) → n ≤ count_on set n rs
  no_less set n [] = omega arith
  no_less set n (r ∷ rs) = omega (arith, no_less set (n + cond (eqb r.set.0 set.0 && is_undecided_row val r) 1 0) rs)

  counts_own : (rs : List Row) (row : Row) (n : ℕ) → find (is_undecided_row val) rs ≡ Some row →
      n + 1 ≤ count_on row.set n rs
  counts_own [] row n e = cc
  counts_own (r ∷ rs) row n e = go (undecided (val r.variable)) refl e (λ f. counts_own rs row _ f)
    where
      found : r ≡ row → undecided (val r.variable) ≡ true → n + 1 ≤ count_on row.set n (r ∷ rs)
      found same u =
          let one : ◌≡◌ {A = ℕ} (cond (eqb r.set.0 row.set.0 && undecided (val r.variable)) 1 0) 1 =
          ap (λ b. cond (b && undecided (val r.variable)) 1 0)
          (eq-eqb r.set.0 row.set.0 (ap (λ (q : Row). q.set.0) same)) ∙ ap (λ b. cond b 1 0) u in
          let least : n + cond (eqb r.set.0 row.set.0 && undecided (val r.variable)) 1 0 ≤ count_on row.set n (r ∷ rs) =
          no_less row.set _ rs in
          omega (arith, one, least)

      go : (b : Bool) → undecided (val r.variable) ≡ b → cond b (Some r) (find (is_undecided_row val) rs) ≡ Some row →
          (find (is_undecided_row val) rs ≡ Some row →
          (n + cond (eqb r.set.0 row.set.0 && undecided (val r.variable)) 1 0) + 1 ≤ count_on row.set n (r ∷ rs)) →
          n + 1 ≤ count_on row.set n (r ∷ rs)
      go true u f more = let same : r ≡ row = cc in found same u
      go false u f more = omega (arith, more f)

  pub counts_one : (rs : List Row) (f : Frontier) → frontier val rs ≡ Some f → 1 ≤ f.count
  counts_one rs f e = go (has_true_row val rs) (find (is_undecided_row val) rs) refl e
    where
      go : (b : Bool) (o : Option Row) → find (is_undecided_row val) rs ≡ o →
          cond b None (option_map (frontier_at val rs) o) ≡ Some f → 1 ≤ f.count
      go true o p q = cc
      go false None p q = cc
      go false (Some row) p q =
          let same : frontier_at val rs row ≡ f = cc in
          let count : count_on row.set 0 rs ≡ f.count = ap (λ (g : Frontier). g.count) same in
          omega (arith, counts_own rs row 0 p, count)
