-- The state of rows, found in one walk over them.
use Rattle.std.proofs.Common.{◌≡◌, ℕ, ◌+◌, ◌<◌, ◌≤◌, Bool, true, false, not, ◌&&◌, ◌||◌, cond, eqb}
use Rattle.std.proofs.Common.{List, [], ◌∷◌, ◌++◌, map, length, take, fold, Option, Some, None}
use Rattle.std.proofs.Common.{sym, ap, refl, ◌∙◌, eq-eqb, add-zero, arith, length-append, subst}
use Rattle.std.specs.Prelude.{All, IfSome, find, option_map, flat_map, is_none, ◌^◌}
use Rattle.std.proofs.lemmas.List.{length-map}
use Rattle.std.proofs.lemmas.List.Elements.{All-from_recursion, recursion_from_All}
use Rattle.std.proofs.lemmas.List.Folds.{flat_map-map, list_all-append, list_all-map}
use Rattle.std.proofs.lemmas.List.Sums.{fold-append}
use Rattle.resolvo_queue.proofs.Words.{all_false, AllByRecursion, AllFalse, AreUnionSetsKnown, counted, Frontier}
use Rattle.resolvo_queue.proofs.Words.{frontier, frontier_at, has_true_row, is_undecided_row, known_false, known_true}
use Rattle.resolvo_queue.proofs.Words.{knows_requirement, list_all, list_rows, lists_loaded, lists_or_none, loaded_rows}
use Rattle.resolvo_queue.proofs.Words.{lookup, Satisfied, Requirement, Row, rows, RowState}
use Rattle.resolvo_queue.proofs.Words.{same_requirement, sets_of, Single}
use Rattle.resolvo_queue.proofs.Words.{state_of, Undecided, undecided, Union, Universe, unmet_state, Values, Vec}
use Rattle.resolvo_queue.proofs.Words.{VersionSetId, with_row, with_rows}

-- without lists there are no rows
no_rows : (sets : List VersionSetId) → rows sets [] ≡ []
no_rows [] = refl
no_rows (s ∷ ss) = refl

module _ (val : Values) where
  -- a true row ends the walk
  pub met-rows : (rs : List Row) → with_rows val Satisfied rs ≡ Satisfied
  met-rows [] = refl
  met-rows (r ∷ rs) = go (val r.variable) (met-rows rs)
    where
      go : (v : Option Bool) → with_rows val Satisfied rs ≡ Satisfied
          → with_rows val (with_row Satisfied v r) rs ≡ Satisfied
      go None e = e
      go (Some true) e = e
      go (Some false) e = e

  -- counts the undecided rows of a version set, from a number on
  abbrev count_from : VersionSetId → ℕ → List Row → ℕ
  count_from set n rs = fold (λ m (row : Row). m + cond (eqb row.set.0 set.0 && is_undecided_row val row) 1 0) n rs

  and-true : (b : Bool) → (b && true) ≡ b
  and-true true = refl
  and-true false = refl

  and-false : (b : Bool) → (b && false) ≡ false
  and-false true = refl
  and-false false = refl

  -- behind an undecided row the walk counts
  undecided-rows : (v : ℕ) (set : VersionSetId) (n : ℕ) (rs : List Row) →
      with_rows val (Undecided (record { variable = v; set = set; count = n })) rs
      ≡ cond (has_true_row val rs) Satisfied
      (Undecided (record { variable = v; set = set; count = count_from set n rs }))
  undecided-rows v set n [] = refl
  undecided-rows v set n (r ∷ rs) = go (val r.variable) (λ m. undecided-rows v set m rs)
    where
      at : ℕ → RowState
      at m = Undecided (record { variable = v; set = set; count = m })

      Behind : ℕ → Type 0
      Behind m = with_rows val (at m) rs ≡ cond (has_true_row val rs) Satisfied (at (count_from set m rs))

      go : (w : Option Bool) → ((m : ℕ) → Behind m) → with_rows val (with_row (at n) w r) rs
          ≡ cond (known_true w || has_true_row val rs) Satisfied
          (at (count_from set (n + cond (eqb r.set.0 set.0 && undecided w) 1 0) rs))
      go None more = more (n + cond (eqb r.set.0 set.0) 1 0)
          ∙ ap (λ b. cond (has_true_row val rs) Satisfied (at (count_from set (n + cond b 1 0) rs)))
          (sym (and-true (eqb r.set.0 set.0)))
      go (Some true) more = met-rows rs
      go (Some false) more = more n
          ∙ ap (λ m. cond (has_true_row val rs) Satisfied (at (count_from set m rs))) (sym (add-zero n))
          ∙ ap (λ b. cond (has_true_row val rs) Satisfied (at (count_from set (n + cond b 1 0) rs)))
          (sym (and-false (eqb r.set.0 set.0)))

  -- the walk finds the state
  pub state-rows : (rs : List Row) → with_rows val AllFalse rs ≡ state_of val rs
  state-rows [] = refl
  state-rows (r ∷ rs) = go (val r.variable) (state-rows rs)
    where
      -- the state by the row's value
      by : Option Bool → RowState
      by w = cond (known_true w || has_true_row val rs) Satisfied
          (unmet_state (cond (known_true w || has_true_row val rs) None (option_map (λ (row : Row). record {
            variable = row.variable;
            set = row.set;
            count = count_from row.set (0 + cond (eqb r.set.0 row.set.0 && undecided w) 1 0) rs;
          }) (cond (undecided w) (Some r) (find (is_undecided_row val) rs)))))

      hidden : (b : Bool) (s : RowState) (f : Option Frontier) → (b ≡ false → s ≡ unmet_state f) →
          cond b Satisfied s ≡ cond b Satisfied (unmet_state (cond b None f))
      hidden true s f h = refl
      hidden false s f h = h refl

      same_count : (row : Row) → count_from row.set 0 rs ≡
          count_from row.set (0 + cond (eqb r.set.0 row.set.0 && false) 1 0) rs
      same_count row = ap (λ b. count_from row.set (0 + cond b 1 0) rs) (sym (and-false (eqb r.set.0 row.set.0)))

      other : (o : Option Row) → unmet_state (option_map (frontier_at val rs) o)
          ≡ unmet_state (option_map (λ (row : Row). record {
            variable = row.variable;
            set = row.set;
            count = count_from row.set (0 + cond (eqb r.set.0 row.set.0 && false) 1 0) rs;
          }) o)
      other None = refl
      other (Some row) = ap (λ n. Undecided (record { variable = row.variable; set = row.set; count = n }))
          (same_count row)

      shown : (b : Bool) (o p : Option Frontier) → unmet_state o ≡ unmet_state p →
          cond b Satisfied (unmet_state (cond b None o)) ≡ cond b Satisfied (unmet_state (cond b None p))
      shown true o p e = refl
      shown false o p e = e

      go : (w : Option Bool) → with_rows val AllFalse rs ≡ state_of val rs →
          with_rows val (with_row AllFalse w r) rs ≡ by w
      go None e = undecided-rows r.variable r.set 1 rs ∙ hidden (has_true_row val rs) _ _ (λ h. ap (λ b. Undecided
          (record { variable = r.variable; set = r.set; count = count_from r.set (0 + cond (b && true) 1 0) rs }))
          (sym (eq-eqb r.set.0 r.set.0 refl)))
      go (Some true) e = met-rows rs
      go (Some false) e = e ∙ shown (has_true_row val rs) _ _ (other (find (is_undecided_row val) rs))

  -- a walk counts each row at most once
  pub counted-rows : (state : RowState) (rs : List Row) → counted (with_rows val state rs) ≤ counted state + length rs
  counted-rows state [] = omega arith
  counted-rows state (r ∷ rs) =
      omega (arith, counted-rows (with_row state (val r.variable) r) rs, counted-row state (val r.variable))
    where
      counted-row : (s : RowState) (w : Option Bool) → counted (with_row s w r) ≤ counted s + 1
      counted-row s (Some true) = omega arith
      counted-row s (Some false) = omega arith
      counted-row Satisfied None = omega arith
      counted-row AllFalse None = omega arith
      counted-row (Undecided f) None = go (eqb r.set.0 f.set.0)
        where
          go : (b : Bool) → f.count + cond b 1 0 ≤ f.count + 1
          go true = omega arith
          go false = omega arith

  -- ---- lists one after another

  -- one list more of those that lead to the same
  pub next-list : (whole state next : RowState) (sets others : List VersionSetId) (set : VersionSetId)
      (lists behind : List (List ℕ)) (list : List ℕ) →
      sets ≡ set ∷ others → lists ≡ list ∷ behind → next ≡ with_rows val state (list_rows set list) →
      with_rows val state (rows sets lists) ≡ whole → with_rows val next (rows others behind) ≡ whole
  next-list whole state next sets others set lists behind list s l n h =
      ap (λ t. with_rows val t (rows others behind)) n
      ∙ (sym (fold-append (λ t row. with_row t (val row.variable) row) state (list_rows set list) (rows others behind))
      ∙ (sym (ap (λ ss. with_rows val state (rows ss lists)) s ∙
      ap (λ ls. with_rows val state (rows (set ∷ others) ls)) l) ∙ h))

  -- where no version set is left, or no list, no row is
  pub no_set : (state whole : RowState) (sets : List VersionSetId) (lists : List (List ℕ)) →
      length sets ≡ 0 → with_rows val state (rows sets lists) ≡ whole → state ≡ whole
  no_set state whole [] lists e h = h
  no_set state whole (s ∷ ss) lists e h = absurd (omega (arith, e))

  pub no_list : (state whole : RowState) (sets : List VersionSetId) (lists : List (List ℕ)) →
      lists ≡ [] → with_rows val state (rows sets lists) ≡ whole → state ≡ whole
  no_list state whole sets lists e h =
      sym (ap (with_rows val state) (no_rows sets)) ∙ (sym (ap (λ ls. with_rows val state (rows sets ls)) e) ∙ h)

  -- a list that leads to a true row
  pub met-whole : (whole next : RowState) (rs : List Row) → next ≡ Satisfied → with_rows val next rs ≡ whole
      → Satisfied ≡ whole
  met-whole whole next rs e h = sym (met-rows rs) ∙ (sym (ap (λ t. with_rows val t rs) e) ∙ h)

  -- the rows of a list are counted with those before, and so few are left
  pub few-left : (state next : RowState) (set : VersionSetId) (list rest all : List ℕ) →
      next ≡ with_rows val state (list_rows set list) → all ≡ list ++ rest →
      counted state + length all < 2 ^ 40 → counted next + length rest < 2 ^ 40
  few-left state next set list rest all n e h =
      let joined : length all ≡ length list + length rest = ap length e ∙ length-append list rest in
      let size : length (list_rows set list) ≡ length list =
      length-map list (λ x. record { set = set; variable = x }) in
      let now : counted next ≤ counted state + length (list_rows set list) =
      rw n (counted-rows state (list_rows set list)) in
      omega (arith, joined, size, now, h)

  -- ---- rows that are all false

  -- a requirement is falsified, no row true and none undecided, where all its rows are false
  pub falsified-rows : (rs : List Row) → (not (has_true_row val rs) && is_none (frontier val rs)) ≡ all_false val rs
  falsified-rows rs = hidden (has_true_row val rs) (find (is_undecided_row val) rs) ∙ each rs
    where
      hidden : (b : Bool) (o : Option Row) →
          (not b && is_none (cond b None (option_map (frontier_at val rs) o))) ≡ (not b && is_none o)
      hidden true o = refl
      hidden false None = refl
      hidden false (Some row) = refl

      each : (rs : List Row) →
          (not (has_true_row val rs) && is_none (find (is_undecided_row val) rs)) ≡ all_false val rs
      each [] = refl
      each (r ∷ rs) = go (val r.variable) (each rs)
        where
          go : (w : Option Bool) → (not (has_true_row val rs) && is_none (find (is_undecided_row val) rs)) ≡
              all_false val rs → (not (known_true w || has_true_row val rs) &&
              is_none (cond (undecided w) (Some r) (find (is_undecided_row val) rs)))
              ≡ (known_false w && all_false val rs)
          go None e = and-false (not (has_true_row val rs))
          go (Some true) e = refl
          go (Some false) e = e

  -- the variables of a list are all false
  abbrev pub false_list : List ℕ → Bool
  false_list list = list_all (λ v. known_false (val v)) list

  -- of lists as many as there are version sets
  pub false-rows : {L : Type 0} (items : L → List ℕ) (sets : List VersionSetId) (lists : List L) →
      list_all (λ l. false_list (items l)) (take (length sets) lists) ≡ all_false val (rows sets (map items lists))
  false-rows items [] lists = refl
  false-rows items (s ∷ ss) [] = refl
  false-rows items (s ∷ ss) (l ∷ ls) = rw (
    list_all-append (λ row. known_false (val row.variable)) (list_rows s (items l)) (rows ss (map items ls)),
    list_all-map (λ (row : Row). known_false (val row.variable)) (λ x. record { set = s; variable = x }) (items l),
    ← false-rows items ss ls,
  ) refl

-- what was looked up has few rows, as all that is loaded has
pub few_kept : {A : Type 0} (lists : List (Vec ℕ A)) (found : Vec (Vec ℕ A) A)
    (loaded : List (Requirement × Vec (Vec ℕ A) A)) (r : Requirement) →
    lists ≡ found.items → Some found ≡ lookup (same_requirement r) loaded →
    length (flat_map (λ list. list) (lists_loaded loaded r)) < 2 ^ 40 → length (flat_map (λ l. l.items) lists) < 2 ^ 40
few_kept lists found loaded r e f h =
    let kept : lists_loaded loaded r ≡ map (λ l. l.items) lists =
    ap lists_or_none (sym f) ∙ ap (map (λ l. l.items)) (sym e) in
    let same : flat_map (λ list. list) (lists_loaded loaded r) ≡ flat_map (λ l. l.items) lists =
    ap (flat_map (λ list. list)) kept ∙ flat_map-map (λ list. list) (λ l. l.items) lists in
    subst (λ all. length all < 2 ^ 40) same h

-- what isn't loaded has none
pub none_kept : {A : Type 0} (val : Values) (sets : List VersionSetId) (loaded : List (Requirement × Vec (Vec ℕ A) A))
    (r : Requirement) →
    None ≡ lookup (same_requirement r) loaded → AllFalse ≡ state_of val (rows sets (lists_loaded loaded r))
none_kept val sets loaded r e =
    ap (state_of val) (sym (no_rows sets)) ∙ ap (λ o. state_of val (rows sets (lists_or_none o))) e

pub none_false : {A : Type 0} (val : Values) (sets : List VersionSetId) (loaded : List (Requirement × Vec (Vec ℕ A) A))
    (r : Requirement) →
    None ≡ lookup (same_requirement r) loaded → true ≡ all_false val (rows sets (lists_loaded loaded r))
none_false val sets loaded r e =
    ap (all_false val) (sym (no_rows sets)) ∙ ap (λ o. all_false val (rows sets (lists_or_none o))) e

-- ---- the version set of a frontier

module _ (Known : VersionSetId → Type 0) where
  abbrev IsKnownRow : Row → Type 0
  IsKnownRow row = Known row.set

  list_known : (set : VersionSetId) (list : List ℕ) → Known set → (rs : List Row) → AllByRecursion IsKnownRow rs →
      AllByRecursion IsKnownRow (list_rows set list ++ rs)
  list_known set [] k rs a = a
  list_known set (x ∷ xs) k rs a = (k, list_known set xs k rs a)

  rows_known : (sets : List VersionSetId) (lists : List (List ℕ)) → AllByRecursion Known sets →
      AllByRecursion IsKnownRow (rows sets lists)
  rows_known [] lists a = tt
  rows_known (s ∷ ss) [] a = tt
  rows_known (s ∷ ss) (l ∷ ls) a = list_known s l a.0 (rows ss ls) (rows_known ss ls a.1)

  found_known : (test : Row → Bool) (rs : List Row) → AllByRecursion IsKnownRow rs → IfSome (find test rs) IsKnownRow
  found_known test [] a = tt
  found_known test (r ∷ rs) a = go (test r) (found_known test rs a.1)
    where
      go : (b : Bool) → IfSome (find test rs) IsKnownRow → IfSome (cond b (Some r) (find test rs)) IsKnownRow
      go true h = a.0
      go false h = h

  -- a frontier is of a version set of the rows
  pub frontier-known : (val : Values) (sets : List VersionSetId) (lists : List (List ℕ)) → All Known sets →
      IfSome (frontier val (rows sets lists)) (λ f. Known f.set)
  frontier-known val sets lists a =
      let rs : List Row = rows sets lists in
      go rs (has_true_row val rs) (find (is_undecided_row val) rs)
      (found_known (is_undecided_row val) rs (rows_known sets lists (recursion_from_All Known sets a)))
    where
      go : (rs : List Row) (t : Bool) (o : Option Row) → IfSome o IsKnownRow →
          IfSome (cond t None (option_map (frontier_at val rs) o)) (λ f. Known f.set)
      go rs true o h = tt
      go rs false None h = tt
      go rs false (Some row) h = h

-- the version sets of a known requirement are known
pub sets_known : {N S : Type 0} (universe : Universe N S) → AreUnionSetsKnown universe → (r : Requirement) →
    knows_requirement universe r ≡ true → All (λ v. universe.knows_set v ≡ true) (sets_of universe r)
sets_known universe unions (Single v) h = All-from_recursion (λ w. universe.knows_set w ≡ true) (v ∷ []) (h, tt)
sets_known universe unions (Union u) h = unions u h

-- so is that of an undecided state
pub undecided-known : {N S A : Type 0} (universe : Universe N S) (val : Values)
    (loaded : List (Requirement × Vec (Vec ℕ A) A)) (r : Requirement) (f : Frontier) →
    AreUnionSetsKnown universe → knows_requirement universe r ≡ true →
    state_of val (loaded_rows universe loaded r) ≡ Undecided f → universe.knows_set f.set ≡ true
undecided-known universe val loaded r f unions known e =
    let rs : List Row = loaded_rows universe loaded r in
    go (has_true_row val rs) (frontier val rs)
    (frontier-known (λ v. universe.knows_set v ≡ true) val (sets_of universe r) (lists_loaded loaded r)
    (sets_known universe unions r known)) e
  where
    go : (t : Bool) (o : Option Frontier) → IfSome o (λ g. universe.knows_set g.set ≡ true) →
        cond t Satisfied (unmet_state o) ≡ Undecided f → universe.knows_set f.set ≡ true
    go true o h e = let bad : Satisfied ≡ Undecided f = e in cc
    go false None h e = let bad : AllFalse ≡ Undecided f = e in cc
    go false (Some g) h e = let same : Undecided g ≡ Undecided f = e in let eq : g ≡ f = cc in
        subst (λ x. universe.knows_set x.set ≡ true) eq h
