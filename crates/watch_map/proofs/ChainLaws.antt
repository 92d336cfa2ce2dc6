-- Chains of clauses, each of which tells the next one.
use Rattle.std.proofs.Common.{◌≡◌, ℕ, zero, suc, ◌≤◌, Bool, true, false, ◌||◌, nat_eq, List, [], ◌∷◌, ◌++◌, Option}
use Rattle.std.proofs.Common.{length, sym, ap, refl, subst, arith}
use Rattle.watch_map.proofs.Words.{chain, is_clause_in, IsChain}
use Rattle.watch_map.proofs.WatchingLaws.{eqb_self}

or_true : (b : Bool) → (b || true) ≡ true
or_true true = refl
or_true false = refl

pub in_head : (c : ℕ) (cs : List ℕ) → is_clause_in c (c ∷ cs) ≡ true
in_head c cs = rw (eqb_self c) refl

pub in_rest : (c d : ℕ) (cs : List ℕ) → is_clause_in c cs ≡ true → is_clause_in c (d ∷ cs) ≡ true
in_rest c d cs h = rw h (or_true (nat_eq c d))

pub in_back : (c : ℕ) (front back : List ℕ) → is_clause_in c back ≡ true → is_clause_in c (front ++ back) ≡ true
in_back c [] back h = h
in_back c (x ∷ front) back h = in_rest c x (front ++ back) (in_back c front back h)

pub in_middle : (c : ℕ) (front back : List ℕ) → is_clause_in c (front ++ c ∷ back) ≡ true
in_middle c front back = in_back c front (c ∷ back) (in_head c back)

-- a chain that is no longer than the bound is found whole
pub chain_is : (next : ℕ → Option ℕ) (first : Option ℕ) (cs : List ℕ) (n : ℕ) → IsChain next first cs →
    length cs ≤ n → chain n next first ≡ cs
chain_is next first [] zero h le = refl
chain_is next first [] (suc n) h le = rw h refl
chain_is next first (c ∷ cs) zero h le = absurd (omega arith)
chain_is next first (c ∷ cs) (suc n) h le = rw h.0 (ap (λ xs. c ∷ xs) (chain_is next (next c) cs n h.1 (omega arith)))

-- links that are the same at its clauses
pub chain_same : (next next' : ℕ → Option ℕ) (first : Option ℕ) (cs : List ℕ) →
    ((c : ℕ) → is_clause_in c cs ≡ true → next' c ≡ next c) →
    IsChain next first cs → IsChain next' first cs
chain_same next next' first [] same h = h
chain_same next next' first (c ∷ cs) same h = (
  h.0,
  chain_same next next' (next' c) cs (λ d m. same d (in_rest d c cs m))
      (subst (λ o. IsChain next o cs) (sym (same c (in_head c cs))) h.1),
)

-- what is behind a clause
pub chain_behind : (next : ℕ → Option ℕ) (first : Option ℕ) (front : List ℕ) (c : ℕ) (back : List ℕ) →
    IsChain next first (front ++ c ∷ back) → IsChain next (next c) back
chain_behind next first [] c back h = h.1
chain_behind next first (x ∷ front) c back h = chain_behind next (next x) front c back h.1

-- a clause is passed over by the one in front of it
pub chain_less : (next next' : ℕ → Option ℕ) (first : Option ℕ) (front : List ℕ) (p c : ℕ) (back : List ℕ) →
    next' p ≡ next c →
    ((d : ℕ) → is_clause_in d front ≡ true → next' d ≡ next d) →
    ((d : ℕ) → is_clause_in d back ≡ true → next' d ≡ next d) →
    IsChain next first (front ++ p ∷ c ∷ back) → IsChain next' first (front ++ p ∷ back)
chain_less next next' first [] p c back skip f b h =
    (h.0, subst (λ o. IsChain next' o back) (sym skip) (chain_same next next' (next c) back b h.1.1))
chain_less next next' first (x ∷ front) p c back skip f b h = (
  h.0,
  chain_less next next' (next' x) front p c back skip (λ d m. f d (in_rest d x front m)) b
      (subst (λ o. IsChain next o (front ++ p ∷ c ∷ back)) (sym (f x (in_head x front))) h.1),
)
