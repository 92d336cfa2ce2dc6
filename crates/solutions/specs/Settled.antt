-- Lists of literals, each with a rank: none of its literals before the rank can be true, and the one at it is assumed.
-- N are the names, S the solvables, A the allocators.
use Rattle.std.specs.Prelude.{◌≡◌, ℕ, ◌<◌, ◌≤◌, ◌⊎◌, Bool, List, map, slice_index}
use Rattle.std.specs.declared.vec.Vec.{Vec}
use Rattle.solutions.specs.Clauses.{AreSatisfied, AreTrue, is_true}
use Rattle.solutions.specs.Wishes.{before_true}
use Rattle.solutions.specs.declared.literal.Fact.{Fact}
use Rattle.solutions.specs.declared.literal.Literal.{Literal}

-- clauses and literals, and what they become: if an assignment is of this kind, satisfies the old clauses and makes the
-- old literals true, it does so with the new ones
pub record StaysTrue {N S A : Type 0} (IsSuch : (Fact N S → Bool) → Type 0) (clauses : List (Vec (Literal N S) A))
    (known : List (Literal N S)) (clauses_now : List (Vec (Literal N S) A)) (known_now : List (Literal N S)) : Type 0
  where
    pub are_satisfied : (holds : Fact N S → Bool) → IsSuch holds → AreSatisfied holds clauses →
        AreTrue holds known → AreSatisfied holds clauses_now
    pub are_true : (holds : Fact N S → Bool) → IsSuch holds → AreSatisfied holds clauses →
        AreTrue holds known → AreTrue holds known_now

-- how many literals are false before the first that is true; all, if none is
abbrev pub first_true : {N S : Type 0} → (Fact N S → Bool) → List (Literal N S) → ℕ
first_true holds literals = before_true (map (is_true holds) literals)

-- how many are, of each list
abbrev pub first_trues : {N S A : Type 0} → (Fact N S → Bool) → List (Vec (Literal N S) A) → List ℕ
first_trues holds lists = map (λ list. first_true holds list.items) lists

-- if an assignment satisfies the clauses and makes the known literals true, its first true literal of these comes no
-- earlier than at the rank
abbrev pub IsAtLeast : {N S A : Type 0} → List (Vec (Literal N S) A) → (known : List (Literal N S)) →
    (literals : List (Literal N S)) → ℕ → Type 0
IsAtLeast {N} {S} clauses known literals rank = (holds : Fact N S → Bool) →
    AreSatisfied holds clauses → AreTrue holds known → rank ≤ first_true holds literals

-- so it is; and if an assignment has its first true literal at the rank, it satisfies what is known now, too
pub record Settled {N S A : Type 0} (clauses : List (Vec (Literal N S) A)) (known literals : List (Literal N S))
    (rank : ℕ) (clauses_now : List (Vec (Literal N S) A)) (known_now : List (Literal N S)) : Type 0 where
  pub at_least : IsAtLeast clauses known literals rank
  pub stays_true : StaysTrue (λ holds. first_true holds literals ≡ rank) clauses known clauses_now known_now

-- where others first differ from these ranks, up to a place, they are larger
abbrev pub IsUnbeaten : ℕ → (ranks others : List ℕ) → Type 0
IsUnbeaten count ranks others = (place : ℕ) → place < count →
    ((before : ℕ) → before < place → slice_index ranks before ≡ slice_index others before) →
    slice_index ranks place ≤ slice_index others place

-- at each place up to this one two numbers are the same, or both larger than the rank
abbrev pub AreSameUpTo : ℕ → (ranks numbers others : List ℕ) → Type 0
AreSameUpTo count ranks numbers others = (place : ℕ) → place < count →
    (slice_index numbers place ≡ slice_index others place) ⊎
    ((slice_index ranks place < slice_index numbers place) × (slice_index ranks place < slice_index others place))
