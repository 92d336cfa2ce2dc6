-- Clauses about facts, and what follows from them. N are the names, S the solvables, A the allocators. An assignment
-- says of each fact whether it is so.
use Rattle.std.specs.Prelude.{◌≡◌, Bool, true, not, All, List, [], ◌∷◌, ◌++◌, if◌then◌else◌, ⊤}
use Rattle.std.specs.List.{list_any}
use Rattle.std.specs.declared.vec.Vec.{Vec}
use Rattle.solutions.specs.declared.literal.Fact.{Fact}
use Rattle.solutions.specs.declared.literal.Literal.{Literal}
use Rattle.solutions.specs.declared.clause_state.ClauseState.{ClauseState}
use Rattle.solutions.specs.declared.clause_state.ClauseState.TheVariants.{Falsified, Unit, Open}

module _ {N S : Type 0} (holds : Fact N S → Bool) where
  abbrev pub is_true : Literal N S → Bool
  is_true l = if l.value then holds l.fact else not (holds l.fact)

  abbrev pub AreTrue : List (Literal N S) → Type 0
  AreTrue literals = All (λ l. is_true l ≡ true) literals

  -- one of a clause's literals is true
  abbrev pub has_true : List (Literal N S) → Bool
  has_true clause = list_any is_true clause

  -- each clause has a true literal
  abbrev pub AreSatisfied : {A : Type 0} → List (Vec (Literal N S) A) → Type 0
  AreSatisfied clauses = All (λ c. has_true c.items ≡ true) clauses

-- what was known, and more: if an assignment is of this kind, and what was known is true, all of it is true. If yes,
-- there is no such assignment
pub record Follows {N S : Type 0} (IsSuch : (Fact N S → Bool) → Type 0) (known now : List (Literal N S)) (yes : Bool) :
    Type 0 where
  pub more : List (Literal N S)
  pub is_more : now ≡ known ++ more
  pub are_true : (holds : Fact N S → Bool) → IsSuch holds → AreTrue holds known → AreTrue holds now
  pub refuted : yes ≡ true → (holds : Fact N S → Bool) → IsSuch holds → AreTrue holds known → ⊥

-- the state of a clause if some literals are known: falsified; unit, with this literal; open
abbrev pub IsStateOf : {N S : Type 0} → List (Literal N S) → List (Literal N S) → ClauseState N S → Type 0
IsStateOf {N} {S} known clause Falsified =
    (holds : Fact N S → Bool) → AreTrue holds known → has_true holds clause ≡ true → ⊥
IsStateOf {N} {S} known clause (Unit l) =
    (holds : Fact N S → Bool) → AreTrue holds known → has_true holds clause ≡ true → is_true holds l ≡ true
IsStateOf known clause Open = ⊤

-- a clause of these literals was added
pub record IsClauseAdded {N S A : Type 0} (clauses : List (Vec (Literal N S) A)) (literals : List (Literal N S))
    (clauses_now : List (Vec (Literal N S) A)) : Type 0 where
  pub clause : Vec (Literal N S) A
  pub is : clause.items ≡ literals
  pub added : clauses_now ≡ clauses ++ clause ∷ []

-- clauses and literals, after a replay: if an assignment satisfies the old clauses and makes the old literals true, it
-- does so with the new ones. If yes, there is no such assignment
pub record Replayed {N S A : Type 0} (clauses : List (Vec (Literal N S) A)) (known : List (Literal N S))
    (clauses_now : List (Vec (Literal N S) A)) (known_now : List (Literal N S)) (yes : Bool) : Type 0 where
  pub are_satisfied : (holds : Fact N S → Bool) → AreSatisfied holds clauses → AreTrue holds known →
      AreSatisfied holds clauses_now
  pub are_true : (holds : Fact N S → Bool) → AreSatisfied holds clauses → AreTrue holds known → AreTrue holds known_now
  pub refuted : yes ≡ true → (holds : Fact N S → Bool) → AreSatisfied holds clauses → AreTrue holds known → ⊥
