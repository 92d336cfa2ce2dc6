-- A clause is falsified exactly if each of its groups is false.
use Rattle.std.proofs.Common.{◌≡◌, ℕ, ◌<◌, Bool, true, false, ◌&&◌, List, [], ◌∷◌, length, map, Option, Some, None}
use Rattle.std.proofs.Common.{refl, sym, ap, ◌∙◌, subst, arith}
use Rattle.std.proofs.lemmas.List.{get_or-map, length-map}
use Rattle.std.proofs.lemmas.List.Folds.{list_all-append, list_all-map}
use Rattle.clause_counters.proofs.FirstLaws.{same_first_of}
use Rattle.falsified_clauses.proofs.Words.{All, clause_at, Condition, condition_literals, Counted, Demand, group_clause}
use Rattle.falsified_clauses.proofs.Words.{grouped_by, grouped_clause, GroupKey, HasGroups, is_falsified_at}
use Rattle.falsified_clauses.proofs.Words.{IsFirstFalsified, keys_under, list_all, Lit, literals_of, Neg, no_clause}
use Rattle.falsified_clauses.proofs.Words.{number_in, Parent, PlacedDemand, Pos, row_literals, Rows, rows, stored_in}
use Rattle.falsified_clauses.proofs.KeyLaws.{read_at}
use Rattle.clause_counters.specs.GroupedClauses as below

-- all rows are false, list by list
rows_false : (f : Lit → Bool) (lists : List (List ℕ))
    → list_all f (row_literals lists) ≡ list_all (list_all (λ row. f (Pos row))) lists
rows_false f [] = refl
rows_false f (list ∷ lists) =
    list_all-append f (map Pos list) (row_literals lists)
    ∙ (ap (λ b. b && list_all f (row_literals lists)) (list_all-map f Pos list)
    ∙ ap (λ b. list_all (λ row. f (Pos row)) list && b) (rows_false f lists))

-- the tests of two groups and of three, and the clause's own
two : (x y a b : Bool) → x ≡ (a && true) → y ≡ b → (x && (y && true)) ≡ ((a && true) && b)
two x y a b e f = ap (λ z. z && (y && true)) e ∙ (ap (λ z. (a && true) && (z && true)) f ∙ by a b)
  where
    by : (c d : Bool) → ((c && true) && (d && true)) ≡ ((c && true) && d)
    by true true = refl
    by true false = refl
    by false d = refl

three : (x y z a b c : Bool) → x ≡ (a && true) → y ≡ b → z ≡ c → (x && (y && (z && true))) ≡ ((a && b) && c)
three x y z a b c e f h =
    ap (λ w. w && (y && (z && true))) e
    ∙ (ap (λ w. (a && true) && (w && (z && true))) f ∙ (ap (λ w. (a && true) && (b && (w && true))) h ∙ by a b c))
  where
    by : (d g i : Bool) → ((d && true) && (g && (i && true))) ≡ ((d && g) && i)
    by true true true = refl
    by true true false = refl
    by true false i = refl
    by false g i = refl

module _ {A : Type 0} (keys : List GroupKey) (s : Counted A) where
  -- whether the group with this number is false
  abbrev is_false_group : ℕ → Bool
  is_false_group number = list_all s.is_false (below.literals_of_group (grouped_by keys s) number)

  group_false : (key : GroupKey) → number_in keys key < length keys
      → is_false_group (number_in keys key) ≡ list_all s.is_false (literals_of s.lists s.disjunctions key)
  group_false key l = ap (list_all s.is_false) (read_at (literals_of s.lists s.disjunctions) keys key l)

  falsified_under : (condition : Option ℕ) (clause : Demand)
      → All (λ number. number < length keys) (map (number_in keys) (keys_under condition clause))
      → list_all is_false_group (map (number_in keys) (keys_under condition clause)) ≡ (s.is_false (Neg clause.parent)
      && list_all s.is_false (condition_literals (stored_in [] [] s.disjunctions) condition)
      && list_all (list_all (λ row. s.is_false (Pos row))) (rows s.lists clause.requirement))
  falsified_under None clause has =
      two _ _ (s.is_false (Neg clause.parent)) _ (group_false (Parent clause.parent) (has 0 0 (omega arith)))
      (group_false (Rows clause.requirement) (has 1 0 (omega arith))
      ∙ rows_false s.is_false (rows s.lists clause.requirement))
  falsified_under (Some d) clause has =
      three _ _ _ (s.is_false (Neg clause.parent)) _ _ (group_false (Parent clause.parent) (has 0 0 (omega arith)))
      (group_false (Condition d) (has 1 0 (omega arith)))
      (group_false (Rows clause.requirement) (has 2 0 (omega arith))
      ∙ rows_false s.is_false (rows s.lists clause.requirement))

  module _ (grouped : All (λ (c : PlacedDemand). HasGroups keys c.demand) s.clauses) where
    -- a clause, as the counters show it
    shown_is : (c : ℕ) → c < length s.clauses → grouped_clause (grouped_by keys s) c ≡ group_clause keys (clause_at s c)
    shown_is c l = get_or-map (group_clause keys) s.clauses c no_clause below.no_group_clause l

    falsified_is : (c : ℕ) → c < length s.clauses → below.is_falsified (grouped_by keys s) c ≡ is_falsified_at s c
    falsified_is c l =
        ap (λ (x : below.GroupClause). list_all is_false_group x.groups) (shown_is c l)
        ∙ falsified_under (clause_at s c).demand.condition (clause_at s c).demand (grouped c no_clause l)

    -- the first that the counters show is the first
    pub first_is : (answer : Option ℕ) → below.IsFirstFalsified (grouped_by keys s) answer → IsFirstFalsified s answer
    first_is answer first =
        same_first_of (λ c. (grouped_clause (grouped_by keys s) c).first_of_parent)
        (λ c. (clause_at s c).first_of_parent)
        (length (map (group_clause keys) s.clauses)) (length s.clauses)
        (below.is_falsified (grouped_by keys s)) (is_falsified_at s) answer
        (λ c l. ap (λ (x : below.GroupClause). x.first_of_parent) (shown_is c l))
        (length-map s.clauses (group_clause keys)) falsified_is first
