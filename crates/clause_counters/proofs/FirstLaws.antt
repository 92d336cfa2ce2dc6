-- The first of the clauses that pass a test, under another test and other parents that say the same.
use Rattle.std.proofs.Common.{◌≡◌, ℕ, ◌<◌, Bool, Option, Some, None, ◌||◌, ◌&&◌, eqb, ltb, sym, ap, ◌∙◌, subst}
use Rattle.clause_counters.proofs.Words.{IsFirstOf}

pub same_first_of : (first first' : ℕ → ℕ) (count count' : ℕ) (passes passes' : ℕ → Bool) (answer : Option ℕ)
    → ((c : ℕ) → c < count' → first c ≡ first' c) → count ≡ count'
    → ((c : ℕ) → c < count' → passes c ≡ passes' c)
    → IsFirstOf first count passes answer → IsFirstOf first' count' passes' answer
same_first_of first first' count count' passes passes' None of many test is =
    λ c l. sym (test c l) ∙ is c (subst (λ n. c < n) (sym many) l)
same_first_of first first' count count' passes passes' (Some a) of many test is =
    let within = subst (λ n. a < n) many is.0 in (
      within,
      sym (test a within) ∙ is.1,
      λ c l e. ap (λ m. ltb m (first' a) || (eqb m (first' a) && ltb c a)) (sym (of c l))
          ∙ (ap (λ m. ltb (first c) m || (eqb (first c) m && ltb c a)) (sym (of a within))
          ∙ is.2 c (subst (λ n. c < n) (sym many) l) (test c l ∙ e)),
    )
