-- The literals of clauses that a saturation is given.
use Rattle.std.proofs.Common.{◌≡◌, ℕ, zero, suc, ◌<◌, true, false, List, [], ◌∷◌, length, Some, None, ap, arith}
use Rattle.watch_map.proofs.Words.{Clause, is_literal_in, Lit, literals_from, literals_of, option_map, SaturationInput}
use Rattle.watch_map.proofs.Words.{slice_get, stored_in, StoredLiterals, unwrap_or}
use Rattle.watch_map.specs.Visits.{literals_at}

-- a clause with a literal is there
pub literals_within : {N : Type 0} (k : StoredLiterals) (cs : List (Clause N)) (c : ℕ) (l : Lit)
    → is_literal_in l (literals_from k cs c) ≡ true → c < length cs
literals_within k [] c l h = absurd (let z : false ≡ true = h in cc)
literals_within k (x ∷ cs) zero l h = omega arith
literals_within k (x ∷ cs) (suc c) l h = omega (arith, literals_within k cs c l h)

module _ {N A : Type 0} (g : SaturationInput N A) where
  pub given_within : (c : ℕ) (l : Lit) → is_literal_in l (literals_at g c) ≡ true → c < length g.clauses.now
  given_within c l h = literals_within (stored_in g.learnt.now g.lists.now g.disjunctions.now) g.clauses.now c l h

  -- the literals of a clause that is there, and of one that isn't
  pub literals_there : (id : ℕ) (c : Clause N) → slice_get g.clauses.now id ≡ Some c
      → literals_at g id ≡ literals_of (stored_in g.learnt.now g.lists.now g.disjunctions.now) c
  literals_there id c e =
      ap (λ o. unwrap_or (option_map (literals_of (stored_in g.learnt.now g.lists.now g.disjunctions.now)) o) []) e

  pub literals_nowhere : (id : ℕ) → slice_get g.clauses.now id ≡ None → literals_at g id ≡ []
  literals_nowhere id e =
      ap (λ o. unwrap_or (option_map (literals_of (stored_in g.learnt.now g.lists.now g.disjunctions.now)) o) []) e
