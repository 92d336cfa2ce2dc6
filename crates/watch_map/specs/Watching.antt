-- What clauses watch, and the lists of the clauses that watch each literal, as functions.
use Rattle.std.specs.Prelude.{◌≡◌, ℕ, ◌+◌, ◌<◌, ◌≤◌, ⊤, Bool, false, not, nat_eq}
use Rattle.std.specs.Prelude.{if◌then◌else◌, ◌==◌, List, [], ◌∷◌, filter, length}
use Rattle.std.proofs.Common.{zero, suc}
use Rattle.std.specs.List.{list_any, All, AllPairs, Contains, IsDistinct}
use Rattle.decisions.specs.Literals.{Lit}
use Rattle.decisions.specs.LiteralIndex.{literal_index, literal_at}
use Rattle.clauses.specs.Clauses.{same_literal}

-- whether the literal is one of these
abbrev pub is_literal_in : Lit → List Lit → Bool
is_literal_in l literals = list_any (same_literal l) literals

-- whether the clause is one of these
abbrev pub is_clause_in : ℕ → List ℕ → Bool
is_clause_in clause clauses = list_any (nat_eq clause) clauses

-- two different literals
abbrev pub AreTwo : List Lit → Type 0
AreTwo (a ∷ b ∷ []) = same_literal a b ≡ false
AreTwo _ = ⊥

-- none, or two different ones
abbrev pub AreTwoOrNone : List Lit → Type 0
AreTwoOrNone [] = ⊤
AreTwoOrNone (a ∷ b ∷ []) = same_literal a b ≡ false
AreTwoOrNone _ = ⊥

-- Lists are exact: each clause watches nothing or two different literals, no list repeats a clause, and a clause stands
-- in the list of a literal exactly if it watches it.
pub record IsExact (watched : ℕ → List Lit) (lists : Lit → List ℕ) : Type 0 where
  pub two : (clause : ℕ) → AreTwoOrNone (watched clause)
  pub once : (l : Lit) → IsDistinct nat_eq (lists l)
  pub stands : (l : Lit) (clause : ℕ) → is_clause_in clause (lists l) ≡ is_literal_in l (watched clause)

-- these are the clauses below a bound that watch nothing, ascending
pub record AreUnwatched (watched : ℕ → List Lit) (bound : ℕ) (ids : List ℕ) : Type 0 where
  pub all : (clause : ℕ) → clause < bound → watched clause ≡ [] → Contains ids clause
  pub within : All (λ clause. clause < bound) ids
  pub unwatched : All (λ clause. watched clause ≡ []) ids
  pub ascending : AllPairs (λ clause later. clause < later) ids

-- the lists with the clause at the front of those of its literals
abbrev pub started : ℕ → List Lit → (Lit → List ℕ) → Lit → List ℕ
started clause literals lists l = if is_literal_in l literals then clause ∷ lists l else lists l

-- the other clauses, in order
abbrev pub without : ℕ → List ℕ → List ℕ
without clause clauses = filter (λ other. not (other == clause)) clauses

-- the lists with the clause gone from that of one literal, and at the front of another's
abbrev pub moved : ℕ → Lit → Lit → (Lit → List ℕ) → Lit → List ℕ
moved clause from to lists l =
    if same_literal l to then clause ∷ lists l else if same_literal l from then without clause (lists l) else lists l

-- what stands in front of the clause
abbrev pub before : ℕ → List ℕ → List ℕ
before clause [] = []
before clause (c ∷ cs) = if c == clause then [] else c ∷ before clause cs

-- what stands behind it
abbrev pub behind : ℕ → List ℕ → List ℕ
behind clause [] = []
behind clause (c ∷ cs) = if c == clause then cs else behind clause cs

-- how many of the literals with indexes below a bound have clauses
abbrev pub count_lists : ℕ → (Lit → List ℕ) → ℕ
count_lists zero lists = 0
count_lists (suc bound) lists = (if length (lists (literal_at bound)) == 0 then 0 else 1) + count_lists bound lists

-- the number of literals that have clauses: from some index on none has
pub record IsListCount (lists : Lit → List ℕ) (count : ℕ) : Type 0 where
  pub bound : ℕ
  pub past : (l : Lit) → bound ≤ literal_index l → lists l ≡ []
  pub counted : count ≡ count_lists bound lists
