-- A requires clause is true where its parent is false, a literal of its condition is true, or a candidate is true.
use Rattle.std.proofs.Common.{◌≡◌, ℕ, Bool, true, false, not, List, [], ◌∷◌, ◌++◌, map, Option, refl, ap, ◌∙◌}
use Rattle.std.specs.Prelude.{◌||◌, flat_map}
use Rattle.std.specs.List.{list_any}
use Rattle.providers.specs.declared.requirement.Requirement.{Requirement}
use Rattle.decisions.specs.Literals.{Pos}
use Rattle.clauses.specs.declared.clause.Clause.{Clause}
use Rattle.clauses.specs.declared.clause.Clause.TheVariants.{Requires}
use Rattle.clauses.specs.Clauses.{StoredLiterals, literals_of, condition_literals}
use Rattle.test_part_calls.specs.Truth.{is_true, RequiresSays}

or_assoc : (a b c : Bool) → (a || (b || c)) ≡ ((a || b) || c)
or_assoc true b c = refl
or_assoc false b c = refl

any_append : {X : Type 0} (p : X → Bool) (xs ys : List X) → list_any p (xs ++ ys) ≡ (list_any p xs || list_any p ys)
any_append p [] ys = refl
any_append p (x ∷ xs) ys = ap (λ b. p x || b) (any_append p xs ys) ∙ or_assoc (p x) (list_any p xs) (list_any p ys)

module _ (values : ℕ → Bool) where
  any_positive : (vs : List ℕ) → list_any (is_true values) (map Pos vs) ≡ list_any values vs
  any_positive [] = refl
  any_positive (v ∷ vs) = ap (λ b. values v || b) (any_positive vs)

  any_listed : (lists : List (List ℕ)) → list_any (is_true values) (flat_map (map Pos) lists)
      ≡ list_any (list_any values) lists
  any_listed [] = refl
  any_listed (vs ∷ lists) =
      any_append (is_true values) (map Pos vs) (flat_map (map Pos) lists)
      ∙ ap (λ b. b || list_any (is_true values) (flat_map (map Pos) lists)) (any_positive vs)
      ∙ ap (λ b. list_any values vs || b) (any_listed lists)

  requires_true : (k : StoredLiterals) (parent : ℕ) (d : Option ℕ) (r : Requirement) (N : Type 0) →
      (let c : Clause N = Requires parent d r in list_any (is_true values) (literals_of k c))
      ≡ (not (values parent) || (list_any (is_true values) (condition_literals k d) || list_any (list_any values)
      (k.lists r)))
  requires_true k parent d r N =
      ap (λ b. not (values parent) || b)
      (any_append (is_true values) (condition_literals k d) (flat_map (map Pos) (k.lists r)) ∙
      ap (λ b. list_any (is_true values) (condition_literals k d) || b) (any_listed (k.lists r)))

-- its literals are those of the clause
pub requires_says : {N : Type 0} (k : StoredLiterals) (clause : Clause N) → RequiresSays k clause (literals_of k clause)
requires_says {N = N} k (Requires parent d r) = λ values. requires_true values k parent d r N
requires_says {N = N} k _ = tt
