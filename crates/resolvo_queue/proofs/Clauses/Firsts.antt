-- The number of a parent's first clause, told from the clauses that contracts see.
use Rattle.std.proofs.Common.{◌≡◌, ℕ, suc, ◌+◌, cond, eqb, List, [], ◌∷◌, length, map, Option, None, Some, MatchOption}
use Rattle.std.proofs.Common.{ap, refl, ◌∙◌, arith}
use Rattle.resolvo_queue.proofs.Words.{clause_of, first_from, first_of, HasNoClause, IsFirstOf, RequiresClause}
use Rattle.resolvo_queue.proofs.Words.{TrackedClause}
use Rattle.resolvo_queue.proofs.Syncs.NewClause.{parent_of}

-- it is the same of the tracked clauses
pub first_mapped : (i : ℕ) (cs : List TrackedClause) (p : ℕ) →
    first_from parent_of i cs p ≡ first_from (λ (r : RequiresClause). r.parent) i (map clause_of cs) p
first_mapped i [] p = refl
first_mapped i (c ∷ cs) p = ap (λ n. cond (eqb c.parent p) i n) (first_mapped (suc i) cs p)

-- of a parent without clauses it is that of the next clause
first_none : (i : ℕ) (cs : List TrackedClause) (p : ℕ) → HasNoClause cs p → first_from parent_of i cs p ≡ i + length cs
first_none i [] p none = let h : i ≡ i + 0 = omega arith in h
first_none i (x ∷ xs) p none = ap (λ b. cond b i (first_from parent_of (suc i) xs p)) (none 0 x refl)
    ∙ (first_none (suc i) xs p (λ n c e. none (suc n) c e) ∙
    (let h : suc i + length xs ≡ i + suc (length xs) = omega arith in h))

-- the number that begins a parent's list is that of its first clause, and the next number is where it has none
pub next_first : (cs : List TrackedClause) (p first : ℕ) (begin : Option ℕ) →
    MatchOption begin (HasNoClause cs p) (IsFirstOf cs p) →
    MatchOption begin (first ≡ length cs) (λ f. first ≡ f) → first ≡ first_of (map clause_of cs) p
next_first cs p first None none is =
    is ∙ ((let h : first_from parent_of 0 cs p ≡ 0 + length cs = first_none 0 cs p none in
    let e : length cs ≡ first_from parent_of 0 cs p = omega (arith, h) in e) ∙ first_mapped 0 cs p)
next_first cs p first (Some f) own is = is ∙ (own.first ∙ first_mapped 0 cs p)
