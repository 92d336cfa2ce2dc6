-- Where all clauses are settled and the store is solved, the truth values that the trail says, all else false, are a
-- model. N
-- are the names, S the solvables.
use Rattle.std.proofs.Common.{◌≡◌, ℕ, suc, ◌+◌, ◌<◌, Bool, true, false, not, List, [], ◌∷◌, ◌++◌, length, map, Option}
use Rattle.std.proofs.Common.{Some, None, refl, sym, ap, subst, ◌∙◌, arith}
use Rattle.std.specs.Prelude.{All, ◌&&◌, ◌||◌, slice_get, option_map}
use Rattle.std.proofs.lemmas.List.Folds.{list_any-append}
use Rattle.std.proofs.lemmas.List.Elements.{All-nil, All-cons, All-head, All-tail}
use Rattle.watch_map.proofs.LiteralLists.{any_at}
use Rattle.watch_map.proofs.WatchingLaws.{same_is, same_self}
use Rattle.resolvo_store.proofs.Words.{are_literals_false, are_others_false, Clause, condition_of, flat_map}
use Rattle.resolvo_store.proofs.Words.{has_true_row, HasSettled, is_false, is_false_literal, is_literal_in, is_negation}
use Rattle.resolvo_store.proofs.Words.{is_satisfied, is_true_literal, IsModel, IsSettled, IsSolved, IsSound}
use Rattle.resolvo_store.proofs.Words.{known_false, known_true, list_all, list_any, list_rows, lists_of, Lit}
use Rattle.resolvo_store.proofs.Words.{literals_of, MayLeaveFalse, Neg, Pos, requires_from, RequiresClause, rows}
use Rattle.resolvo_store.proofs.Words.{rows_of, same_literal, sets_of, Store, stored_of, true_alone, truth, undecided}
use Rattle.resolvo_store.proofs.Words.{unwrap_or, Values, values, VersionSetId}
use Rattle.clauses.specs.declared.clause.Clause.TheVariants as Kind

-- ---- tests

holds_either : (a b : Bool) → b ≡ true → (a || b) ≡ true
holds_either true b h = refl
holds_either false b h = h

-- ---- literals, by what is known to be true

-- a negation that isn't false is true
negation_true : (o : Option Bool) → known_false (option_map not o) ≡ false → not (known_true o) ≡ true
negation_true None h = refl
negation_true (Some true) h = (let no : true ≡ false = h in cc)
negation_true (Some false) h = refl

-- one that is false has a variable that is true
negation_denied : (o : Option Bool) → known_false (option_map not o) ≡ true → known_true o ≡ true
negation_denied None h = h
negation_denied (Some true) h = refl
negation_denied (Some false) h = h

-- what is neither false nor undecided is true
decided_true : (now : Values) (l : Lit) → is_false_literal now l ≡ false → undecided (truth now l) ≡ false →
    is_true_literal (true_alone now) l ≡ true
decided_true now (Pos v) h u = by_value (now v) h u
  where
    by_value : (o : Option Bool) → known_false o ≡ false → undecided o ≡ false → known_true o ≡ true
    by_value None h u = (let no : true ≡ false = u in cc)
    by_value (Some true) h u = refl
    by_value (Some false) h u = (let no : true ≡ false = h in cc)
decided_true now (Neg v) h u = negation_true (now v) h

module _ (now : Values) where
  abbrev true_now : Lit → Bool
  true_now = is_true_literal (true_alone now)

  -- all are false where the others are, and this one is
  all_false : (l : Lit) (ls : List Lit) → are_others_false now ls l ≡ true → is_false_literal now l ≡ true →
      is_false now ls ≡ true
  all_false l [] others f = refl
  all_false l (m ∷ ls) others f =
      by_literal (same_literal m l) refl (is_false_literal now m) refl (λ h. all_false l ls h f) others
    where
      by_literal : (s : Bool) → same_literal m l ≡ s → (t : Bool) → is_false_literal now m ≡ t →
          (are_others_false now ls l ≡ true → is_false now ls ≡ true)
          → ((s || t) && are_others_false now ls l) ≡ true → (t && is_false now ls) ≡ true
      by_literal true e true k later h = later h
      by_literal false e true k later h = later h
      by_literal true e false k later h = (let no : false ≡ true = sym k ∙ ap (is_false_literal now) (same_is m l e)
          ∙ f in cc)
      by_literal false e false k later h = (let no : false ≡ true = h in cc)

  -- of a settled clause, a literal beside which all are false is true
  left_true : (l : Lit) (ls : List Lit) → IsSettled now ls → is_literal_in l ls ≡ true →
      are_others_false now ls l ≡ true → true_now l ≡ true
  left_true l ls settled own others = decided_true now l (by_test (is_false_literal now l) refl) (decided (settled.1 l))
    where
      by_test : (b : Bool) → is_false_literal now l ≡ b → b ≡ false
      by_test false f = refl
      by_test true f = sym (all_false l ls others f) ∙ settled.0

      decided : (is_literal_in l ls && (undecided (truth now l) && are_others_false now ls l)) ≡ false →
          undecided (truth now l) ≡ false
      decided h = by_undecided (undecided (truth now l)) (sym
          (ap (λ b. b && (undecided (truth now l) && are_others_false now ls l)) own
          ∙ ap (λ b. undecided (truth now l) && b) others) ∙ h)
        where
          by_undecided : (u : Bool) → (u && true) ≡ false → u ≡ false
          by_undecided true k = k
          by_undecided false k = refl

  abbrev IsMetNow : List Lit → Type 0
  IsMetNow ls = list_any true_now ls ≡ true

  -- a clause that is met by one of its literals is met
  met_by : (l : Lit) (ls : List Lit) → is_literal_in l ls ≡ true → true_now l ≡ true → IsMetNow ls
  met_by l ls own t = any_at true_now ls l own t

  one_met : (l : Lit) → IsSettled now (l ∷ []) → IsMetNow (l ∷ [])
  one_met l settled =
      let own : is_literal_in l (l ∷ []) ≡ true = ap (λ b. b || false) (same_self l) in
      met_by l (l ∷ []) own (left_true l (l ∷ []) settled own
      (ap (λ b. (b || is_false_literal now l) && true) (same_self l)))

  -- of two literals one is a negation
  two_met : (a : ℕ) (m : Lit) → IsSettled now (Neg a ∷ m ∷ []) → IsMetNow (Neg a ∷ m ∷ [])
  two_met a m settled = by_test (is_false_literal now (Neg a)) refl
    where
      own : is_literal_in m (Neg a ∷ m ∷ []) ≡ true
      own = holds_either (same_literal m (Neg a)) (same_literal m m || false) (ap (λ b. b || false) (same_self m))

      by_test : (b : Bool) → is_false_literal now (Neg a) ≡ b → IsMetNow (Neg a ∷ m ∷ [])
      by_test false f = ap (λ b. b || (true_now m || false)) (negation_true (now a) f)
      by_test true f =
          met_by m (Neg a ∷ m ∷ []) own (left_true m (Neg a ∷ m ∷ []) settled own
          (ap (λ b. (same_literal (Neg a) m || b) && ((same_literal m m || is_false_literal now m) && true)) f
          ∙ ap (λ b. b && ((same_literal m m || is_false_literal now m) && true))
          (holds_either (same_literal (Neg a) m) true refl)
          ∙ ap (λ b. (b || is_false_literal now m) && true) (same_self m)))

  two_met_last : (m : Lit) (a : ℕ) → IsSettled now (m ∷ Neg a ∷ []) → IsMetNow (m ∷ Neg a ∷ [])
  two_met_last m a settled = by_test (is_false_literal now (Neg a)) refl
    where
      own : is_literal_in m (m ∷ Neg a ∷ []) ≡ true
      own = ap (λ b. b || (same_literal m (Neg a) || false)) (same_self m)

      by_test : (b : Bool) → is_false_literal now (Neg a) ≡ b → IsMetNow (m ∷ Neg a ∷ [])
      by_test false f = holds_either (true_now m) (true_now (Neg a) || false)
          (ap (λ b. b || false) (negation_true (now a) f))
      by_test true f =
          met_by m (m ∷ Neg a ∷ []) own (left_true m (m ∷ Neg a ∷ []) settled own
          (ap (λ b. (b || is_false_literal now m) && ((same_literal (Neg a) m || is_false_literal now (Neg a))
          && true)) (same_self m)
          ∙ ap (λ b. (same_literal (Neg a) m || b) && true) f
          ∙ ap (λ b. b && true) (holds_either (same_literal (Neg a) m) true refl)))

  -- among negations one that isn't false is true
  negations_met : (ls : List Lit) → list_all is_negation ls ≡ true → is_false now ls ≡ false → IsMetNow ls
  negations_met [] negations h = (let no : true ≡ false = h in cc)
  negations_met (Pos v ∷ ls) negations h = (let no : false ≡ true = negations in cc)
  negations_met (Neg v ∷ ls) negations h = by_test (is_false_literal now (Neg v)) refl (negations_met ls negations) h
    where
      by_test : (b : Bool) → is_false_literal now (Neg v) ≡ b → (is_false now ls ≡ false → IsMetNow ls) →
          (b && is_false now ls) ≡ false → IsMetNow (Neg v ∷ ls)
      by_test true f later k = holds_either (true_now (Neg v)) (list_any true_now ls) (later k)
      by_test false f later k = ap (λ b. b || list_any true_now ls) (negation_true (now v) f)

  list_true : (s : VersionSetId) (l : List ℕ) → list_any (λ row. known_true (now row.variable)) (list_rows s l)
      ≡ list_any true_now (map Pos l)
  list_true s [] = refl
  list_true s (x ∷ l) = ap (λ b. known_true (now x) || b) (list_true s l)

  -- rows of which one is true are of candidates of which one is
  row_true : (sets : List VersionSetId) (lists : List (List ℕ)) → has_true_row now (rows sets lists) ≡ true →
      IsMetNow (flat_map (map Pos) lists)
  row_true [] [] h = h
  row_true [] (l ∷ lists) h = (let no : false ≡ true = h in cc)
  row_true (s ∷ sets) [] h = h
  row_true (s ∷ sets) (l ∷ lists) h =
      list_any-append true_now (map Pos l) (flat_map (map Pos) lists)
      ∙ by_list (list_any true_now (map Pos l)) refl (row_true sets lists)
      (sym (list_any-append (λ row. known_true (now row.variable)) (list_rows s l) (rows sets lists)) ∙ h)
    where
      by_list : (b : Bool) → list_any true_now (map Pos l) ≡ b →
          (has_true_row now (rows sets lists) ≡ true → IsMetNow (flat_map (map Pos) lists)) →
          (list_any (λ row. known_true (now row.variable)) (list_rows s l) || has_true_row now (rows sets lists)) ≡ true
          → (b || list_any true_now (flat_map (map Pos) lists)) ≡ true
      by_list true t later k = refl
      by_list false t later k = later (subst (λ b. (b || has_true_row now (rows sets lists)) ≡ true) (list_true s l
          ∙ t) k)

module _ {N S : Type 0} (st : Store N S) (sound : IsSound st) (settled : HasSettled st) (solved : IsSolved st) where
  abbrev now : Values
  now = values st

  -- what a solved store says of a clause that requires
  abbrev IsServed : RequiresClause → Type 0
  IsServed c = known_true (now c.parent) ≡ true → are_literals_false now (condition_of st c.condition) ≡ true →
      has_true_row now (rows_of st c.requirement) ≡ true

  requires_met : (c : RequiresClause) → IsServed c → list_all is_negation (condition_of st c.condition) ≡ true
      → IsMetNow now (Neg c.parent ∷ (condition_of st c.condition ++ flat_map (map Pos)
      (unwrap_or (lists_of st c.requirement) [])))
  requires_met c served negations = by_parent (is_false_literal now (Neg c.parent)) refl
    where
      condition : List Lit
      condition = condition_of st c.condition

      candidates : List Lit
      candidates = flat_map (map Pos) (unwrap_or (lists_of st c.requirement) [])

      by_condition : (b : Bool) → are_literals_false now condition ≡ b → known_true (now c.parent) ≡ true →
          (list_any (true_now now) condition || list_any (true_now now) candidates) ≡ true
      by_condition true f p =
          holds_either (list_any (true_now now) condition) (list_any (true_now now) candidates)
          (row_true now (sets_of st.provider.universe c.requirement) (unwrap_or (lists_of st c.requirement) [])
          (served p f))
      by_condition false f p = ap (λ b. b || list_any (true_now now) candidates)
          (negations_met now condition negations f)

      by_parent : (b : Bool) → is_false_literal now (Neg c.parent) ≡ b →
          IsMetNow now (Neg c.parent ∷ (condition ++ candidates))
      by_parent false f = ap (λ b. b || list_any (true_now now) (condition ++ candidates))
          (negation_true (now c.parent) f)
      by_parent true f =
          holds_either (true_now now (Neg c.parent)) (list_any (true_now now) (condition ++ candidates))
          (list_any-append (true_now now) condition candidates
          ∙ by_condition (are_literals_false now condition) refl (negation_denied (now c.parent) f))

  abbrev IsMetClause : Clause N → Type 0
  IsMetClause c = is_satisfied st (true_alone now) c ≡ true

  -- a clause of another kind is met where it is settled
  other_met : (c : Clause N) → requires_from 0 (c ∷ []) ≡ [] → IsSettled now (literals_of (stored_of st) c) →
      MayLeaveFalse st c → IsMetClause c
  other_met Kind.InstallRoot other s n = one_met now (Pos 0) s
  other_met (Kind.Requires parent d r) other s n = cc
  other_met (Kind.ForbidMultipleInstances a l name) other s n = two_met now a l s
  other_met (Kind.Constrains a b v) other s n = two_met now a (Neg b) s
  other_met (Kind.ConstrainsExcluded a aux v) other s n = two_met now a (Pos aux) s
  other_met (Kind.ConstrainsParent a aux v) other s n = two_met now a (Neg aux) s
  other_met (Kind.Lock locked second) other s n = two_met now second (Neg 0) s
  other_met (Kind.Learnt id) other s n = n
  other_met (Kind.Excluded a reason) other s n = one_met now (Neg a) s
  other_met (Kind.AnyOf selected second) other s n = two_met_last now (Pos selected) second s

  -- each clause is met
  pub trail_is_model : All (MayLeaveFalse st) st.clauses → IsModel st (true_alone now)
  trail_is_model negated = go st.clauses 0 negated (subst (λ cs. All IsServed cs) sound.registered solved) settled
    where
      go : (cs : List (Clause N)) (id : ℕ) → All (MayLeaveFalse st) cs → All IsServed (requires_from id cs)
          → ((i : ℕ) → i < length cs → IsSettled now
          (unwrap_or (option_map (literals_of (stored_of st)) (slice_get cs i)) [])) → All IsMetClause cs
      go [] id negated served settled = All-nil IsMetClause
      go (Kind.Requires parent d r ∷ cs) id negated served settled =
          let c : RequiresClause = record { parent = parent; requirement = r; condition = d; clause_id = id } in
          All-cons IsMetClause (Kind.Requires parent d r) cs
          (requires_met c (All-head IsServed c (requires_from (id + 1) cs) served)
          (All-head (MayLeaveFalse st) (Kind.Requires parent d r) cs negated))
          (go cs (id + 1) (All-tail (MayLeaveFalse st) (Kind.Requires parent d r) cs negated)
          (All-tail IsServed c (requires_from (id + 1) cs) served)
          (λ i below. settled (suc i) (omega (arith, below))))
      go (c ∷ cs) id negated served settled =
          All-cons IsMetClause c cs (other_met c refl (settled 0 (omega arith))
          (All-head (MayLeaveFalse st) c cs negated))
          (go cs (id + 1) (All-tail (MayLeaveFalse st) c cs negated) served
          (λ i below. settled (suc i) (omega (arith, below))))
