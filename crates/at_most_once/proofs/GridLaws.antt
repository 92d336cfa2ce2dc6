-- The clauses of any additions are met exactly if each variable meets its clause with each helper.
use Rattle.std.proofs.Common.{◌≡◌, ℕ, ◌+◌, Bool, true, List, [], ◌∷◌, Option, Some, None, inl, inr, sym, subst, arith}
use Rattle.std.proofs.Common.{length}
use Rattle.at_most_once.specs.AtMostOne.{Tracker, BitClause, Adds, none, more, with_helper, new_clauses}
use Rattle.at_most_once.specs.AtMostOne.{given_clauses, variable_clauses, is_satisfied, SatisfiesAll, has_bit}
use Rattle.at_most_once.proofs.AddLaws.{after_addition}
use Rattle.at_most_once.proofs.Places.{At, at_left, at_last, at_cases, all-append, all-parts, at_enumerated}
use Rattle.at_most_once.proofs.Places.{all_enumerated}

-- each tracked variable is tied to each helper
abbrev pub Grid : {V : Type 0} → (V → Bool) → List V → List V → Type 0
Grid {V} a tracked helpers = (i b : ℕ) (v h : V) → At tracked i v → At helpers b h →
    is_satisfied a (v, h, has_bit i b) ≡ true

module _ {V : Type 0} (same : V → V → Bool) (a : V → Bool) where
  Met : BitClause V → Type 0
  Met c = is_satisfied a c ≡ true

  -- what an add's clauses say: a given helper and each earlier variable, the new variable and each helper
  given_meet : (t : Tracker V) (h : Option V) → SatisfiesAll is_satisfied a (given_clauses t h) →
      (i b : ℕ) (v k : V) → At t.variables i v → At (with_helper t.helpers h) b k →
      (At t.helpers b k → is_satisfied a (v, k, has_bit i b) ≡ true) → is_satisfied a (v, k, has_bit i b) ≡ true
  given_meet t None met i b v k m n old = old n
  given_meet t (Some h) met i b v k m n old =
      elim (at_cases t.helpers h n) [
        | inl n' ↦ old n'
        | inr e ↦
            (let here_met : is_satisfied a (v, h, has_bit (0 + i) (length t.helpers)) ≡ true =
            at_enumerated (λ c. is_satisfied a c ≡ true) (λ (x : ℕ × V). (x.1, h, has_bit x.0 (length t.helpers))) 0
            t.variables met m in
            let same_place : 0 + i ≡ i = omega arith in
            subst (λ x. is_satisfied a (v, x, has_bit i b) ≡ true) (sym e.1)
            (subst (λ c. is_satisfied a (v, h, has_bit i c) ≡ true) (sym e.0)
            (subst (λ c. is_satisfied a (v, h, has_bit c (length t.helpers)) ≡ true) same_place here_met)))
      ]

  variable_meet : (n : ℕ) (v : V) (hs : List V) → SatisfiesAll is_satisfied a (variable_clauses n v hs) →
      (b : ℕ) (k : V) → At hs b k → is_satisfied a (v, k, has_bit n b) ≡ true
  variable_meet n v hs met b k m =
      let here_met : is_satisfied a (v, k, has_bit n (0 + b)) ≡ true =
      at_enumerated (λ c. is_satisfied a c ≡ true) (λ (h : ℕ × V). (v, h.1, has_bit n h.0)) 0 hs met m in
      let same_place : 0 + b ≡ b = omega arith in
      subst (λ c. is_satisfied a (v, k, has_bit n c) ≡ true) same_place here_met

  met_variable : (n : ℕ) (v : V) (hs : List V) → ((b : ℕ) (k : V) → At hs b k →
      is_satisfied a (v, k, has_bit n b) ≡ true) → SatisfiesAll is_satisfied a (variable_clauses n v hs)
  met_variable n v hs grid =
      all_enumerated (λ c. is_satisfied a c ≡ true) (λ (h : ℕ × V). (v, h.1, has_bit n h.0)) 0 hs
      (λ b k m. let same_place : b ≡ 0 + b = omega arith in
      subst (λ c. is_satisfied a (v, k, has_bit n c) ≡ true) same_place (grid b k m))

  met_given : (t : Tracker V) (h : Option V) → Grid a t.variables (with_helper t.helpers h) →
      SatisfiesAll is_satisfied a (given_clauses t h)
  met_given t None grid = tt
  met_given t (Some h) grid =
      all_enumerated (λ c. is_satisfied a c ≡ true) (λ (x : ℕ × V). (x.1, h, has_bit x.0 (length t.helpers))) 0
      t.variables
      (λ i v m. let same_place : i ≡ 0 + i = omega arith in
      subst (λ c. is_satisfied a (v, h, has_bit c (length t.helpers)) ≡ true) same_place
      (grid i (length t.helpers) v h m (at_last t.helpers h)))

  helper_stays : (t : Tracker V) (h : Option V) {b : ℕ} {k : V} → At t.helpers b k → At (with_helper t.helpers h) b k
  helper_stays t None m = m
  helper_stays t (Some h) m = at_left (h ∷ []) m

  -- the clauses after any adds are met exactly if the grid is
  pub grid_from_met : {t : Tracker V} {cs : List (BitClause V)} → Adds same t cs → SatisfiesAll is_satisfied a cs →
      Grid a t.variables t.helpers
  grid_from_met none = λ met i b v h m n. elim m [ ]
  grid_from_met (more {t = t} {cs = cs} h v adds asked) =
      after_addition same (λ u ds. SatisfiesAll is_satisfied a ds →
      Grid a u.variables u.helpers) t cs h v (grid_from_met adds) (λ new met i b w k m n.
      let parts = all-parts (λ c. is_satisfied a c ≡ true) cs (new_clauses t h v) met in
      let added = all-parts (λ c. is_satisfied a c ≡ true) (given_clauses t h)
      (variable_clauses (length t.variables) v (with_helper t.helpers h)) parts.1 in
      elim (at_cases t.variables v m) [
        | inl m' ↦ given_meet t h added.0 i b w k m' n (λ n'. grid_from_met adds parts.0 i b w k m' n')
        | inr e ↦ subst (λ x. is_satisfied a (x, k, has_bit i b) ≡ true) (sym e.1)
            (subst (λ c. is_satisfied a (v, k, has_bit c b) ≡ true) (sym e.0)
            (variable_meet (length t.variables) v (with_helper t.helpers h) added.1 b k n))
      ])

  pub met_from_grid : {t : Tracker V} {cs : List (BitClause V)} → Adds same t cs → Grid a t.variables t.helpers →
      SatisfiesAll is_satisfied a cs
  met_from_grid none = λ grid. tt
  met_from_grid (more {t = t} {cs = cs} h v adds asked) =
      after_addition same (λ u ds. Grid a u.variables u.helpers →
      SatisfiesAll is_satisfied a ds) t cs h v (met_from_grid adds) (λ new grid.
      all-append (λ c. is_satisfied a c ≡ true) cs (new_clauses t h v)
      (met_from_grid adds (λ i b w k m n. grid i b w k (at_left (v ∷ []) m) (helper_stays t h n)))
      (all-append (λ c. is_satisfied a c ≡ true) (given_clauses t h)
      (variable_clauses (length t.variables) v (with_helper t.helpers h))
      (met_given t h (λ i b w k m n. grid i b w k (at_left (v ∷ []) m) n))
      (met_variable (length t.variables) v (with_helper t.helpers h)
      (λ b k n. grid (length t.variables) b v k (at_last t.variables v) n))))
