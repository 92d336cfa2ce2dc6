-- Conditions written out, and their disjunctive normal form.
use Rattle.std.specs.Prelude.{◌≡◌, ℕ, Bool, ◌&&◌, ◌||◌, List, [], ◌∷◌, ◌++◌, map, flat_map}
use Rattle.std.specs.List.{list_all, list_any}
use Rattle.typed_ids.specs.declared.version_set_id.VersionSetId.{VersionSetId}
use Rattle.providers.specs.declared.condition.Condition.TheVariants.{Binary, Requirement}
use Rattle.providers.specs.declared.condition.LogicalOperator.{LogicalOperator}
use Rattle.providers.specs.declared.condition.LogicalOperator.TheVariants.{And, Or}
use Rattle.providers.specs.Provider.{Universe}

-- a condition, written out
pub data Formula : Type 0 where
  Leaf : (set : VersionSetId) → Formula
  Both : (left right : Formula) → Formula
  Either : (left right : Formula) → Formula

-- two formulas, joined by an operator
abbrev pub joined : LogicalOperator → Formula → Formula → Formula
joined And f g = Both f g
joined Or f g = Either f g

-- what a condition of this index says, written out
pub data Denotes {N S : Type 0} (c : Universe N S) : ℕ → Formula → Type 0 where
  leaf : {i : ℕ} (set : VersionSetId) → c.condition i ≡ Requirement set → Denotes c i (Leaf set)
  binary : {i : ℕ} (o : LogicalOperator) (left right : ℕ) (f g : Formula) → c.condition i ≡ Binary o left right →
      Denotes c left f → Denotes c right g → Denotes c i (joined o f g)

-- whether a formula holds, where these version sets do
abbrev pub formula_holds : (VersionSetId → Bool) → Formula → Bool
formula_holds holds (Leaf set) = holds set
formula_holds holds (Both f g) = formula_holds holds f && formula_holds holds g
formula_holds holds (Either f g) = formula_holds holds f || formula_holds holds g

-- each left list with each right list behind it, left outer
abbrev pub crossed : {V : Type 0} → List (List V) → List (List V) → List (List V)
crossed xs ys = flat_map (λ x. map (λ y. x ++ y) ys) xs

-- the normal form: "or" puts the right lists behind the left ones, "and" crosses them
abbrev pub normal_form : Formula → List (List VersionSetId)
normal_form (Leaf set) = (set ∷ []) ∷ []
normal_form (Either f g) = normal_form f ++ normal_form g
normal_form (Both f g) = crossed (normal_form f) (normal_form g)

-- a normal form holds if all version sets of one of its lists do
abbrev pub form_holds : (VersionSetId → Bool) → List (List VersionSetId) → Bool
form_holds holds lists = list_any (list_all holds) lists
