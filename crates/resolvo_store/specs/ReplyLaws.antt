-- Lists of lists of variables that compare equal hold the same variables; so with lists of clauses and of literals.
use Rattle.std.specs.Prelude.{◌≡◌, ℕ, Bool, true, false, ◌&&◌, List, [], ◌∷◌, map, refl}
use Rattle.std.specs.declared.vec.Vec.{Vec}
use Rattle.std.specs.Cmp.Lexicographic.{pointwise, pointwise_decides}
use Rattle.std.proofs.Common.{rules, sym, true≢false}
use Rattle.typed_ids.specs.contracts.variable_id.VariableIdPartialEq.TheImpl.{eq-value}
use Rattle.typed_ids.specs.contracts.clause_id.ClauseIdPartialEq.TheImpl as Clause
use Rattle.decisions.specs.Literals.{Lit}
use Rattle.decisions.specs.contracts.literal.LiteralPartialEq.TheImpl as Literal

first : (s t : Bool) → (s && t) ≡ true → s ≡ true
first true t h = refl
first false t h = h

second : (s t : Bool) → (s && t) ≡ true → t ≡ true
second true t h = h
second false t h = absurd (true≢false (sym h))

-- `==` of variables
abbrev pub equal : ℕ → ℕ → Bool
equal = eq-value.it

decides : (x y : ℕ) → (equal x y ≡ true → x ≡ y) × (x ≡ y → equal x y ≡ true)
decides x y = (λ e. search rules, λ e. search rules)

pub same_lists : {V : Type 0} (items : V → List ℕ) (a b : List V) →
    pointwise (λ x y. pointwise equal (items x) (items y)) a b ≡ true →
    map items a ≡ map items b
same_lists items [] [] h = refl
same_lists items [] (y ∷ b) h = absurd (true≢false (sym h))
same_lists items (x ∷ a) [] h = absurd (true≢false (sym h))
same_lists items (x ∷ a) (y ∷ b) h =
    λ i. (pointwise_decides decides (items x) (items y)).0 (first (pointwise equal (items x) (items y)) _ h) i
    ∷ same_lists items a b (second (pointwise equal (items x) (items y)) _ h) i

-- `==` of clause ids
abbrev pub equal_clauses : ℕ → ℕ → Bool
equal_clauses = Clause.eq-value.it

decides_clauses : (x y : ℕ) → (equal_clauses x y ≡ true → x ≡ y) × (x ≡ y → equal_clauses x y ≡ true)
decides_clauses x y = (λ e. search rules, λ e. search rules)

-- vectors of equal clause ids hold the same ones
pub same_clauses : {A : Type 0} (a b : Vec ℕ A) → pointwise equal_clauses a.items b.items ≡ true → a.items ≡ b.items
same_clauses a b h = (pointwise_decides decides_clauses a.items b.items).0 h

-- `==` of literals
abbrev pub equal_literals : Lit → Lit → Bool
equal_literals = Literal.eq-value.it

decides_literals : (x y : Lit) → (equal_literals x y ≡ true → x ≡ y) × (x ≡ y → equal_literals x y ≡ true)
decides_literals x y = (λ e. search rules, λ e. search rules)

-- vectors of equal literals hold the same ones
pub same_literals : {A : Type 0} (a b : Vec Lit A) → pointwise equal_literals a.items b.items ≡ true → a.items ≡ b.items
same_literals a b h = (pointwise_decides decides_literals a.items b.items).0 h
