-- How many clauses aren't true: what a saturation makes fewer with each entry.
use Rattle.std.proofs.Common.{◌≡◌, ℕ, zero, suc, ◌+◌, ◌<◌, ◌≤◌, Bool, true, false, cond, List, refl, subst, arith}
use Rattle.std.proofs.Common.{nat_eq, eqb-true}
use Rattle.std.specs.Prelude.{if◌then◌else◌}
use Rattle.std.proofs.lemmas.Bool.{eqb-false}
use Rattle.watch_map.proofs.Words.{Extends, is_true, is_true_literal, Lit, Values}
use Rattle.watch_map.proofs.LiteralLists.{by_test, any_at, passes_of}
use Rattle.watch_map.proofs.ValueLaws.{true_kept}

-- how many of the clauses below the bound aren't
abbrev pub count_open : (ℕ → List Lit) → ℕ → Values → ℕ
count_open literals zero now = 0
count_open literals (suc clauses) now = (if is_true now (literals clauses) then 0 else 1)
    + count_open literals clauses now

pub is_true_kept : (a b : Values) → Extends a b → (ls : List Lit) → is_true a ls ≡ true → is_true b ls ≡ true
is_true_kept a b ex ls h =
    let p = passes_of (is_true_literal a) ls h in
    any_at (is_true_literal b) ls p.literal p.within (true_kept a b ex p.literal p.passes)

count_step : (s t : Bool) (m k : ℕ) → (s ≡ true → t ≡ true) → m ≤ k → cond t 0 1 + m ≤ cond s 0 1 + k
count_step true true m k h le = omega (arith, le)
count_step true false m k h le = absurd (let z : false ≡ true = h refl in cc)
count_step false true m k h le = omega (arith, le)
count_step false false m k h le = omega (arith, le)

count_step_less : (s t : Bool) (m k : ℕ) → (s ≡ true → t ≡ true) → m + 1 ≤ k → (cond t 0 1 + m) + 1 ≤ cond s 0 1 + k
count_step_less true true m k h le = omega (arith, le)
count_step_less true false m k h le = absurd (let z : false ≡ true = h refl in cc)
count_step_less false true m k h le = omega (arith, le)
count_step_less false false m k h le = omega (arith, le)

module _ (literals : ℕ → List Lit) where
  -- true clauses stay true
  pub count_no_more : (clauses : ℕ) (a b : Values) → Extends a b
      → count_open literals clauses b ≤ count_open literals clauses a
  count_no_more zero a b ex = omega arith
  count_no_more (suc clauses) a b ex =
      count_step (is_true a (literals clauses)) (is_true b (literals clauses)) (count_open literals clauses b)
      (count_open literals clauses a)
      (is_true_kept a b ex (literals clauses)) (count_no_more clauses a b ex)

  -- one that becomes true is one fewer
  pub count_less : (clauses : ℕ) (a b : Values) → Extends a b → (c : ℕ) → c < clauses → is_true a (literals c) ≡ false
      → is_true b (literals c) ≡ true
      → count_open literals clauses b + 1 ≤ count_open literals clauses a
  count_less zero a b ex c h was is = absurd (omega (arith, h))
  count_less (suc clauses) a b ex c h was is =
      by_test (count_open literals (suc clauses) b + 1 ≤ count_open literals (suc clauses) a) (nat_eq c clauses)
      (λ t. let same = eqb-true c clauses t in
      let was_so : is_true a (literals clauses) ≡ false = subst (λ x. is_true a (literals x) ≡ false) same was in
      let is_so : is_true b (literals clauses) ≡ true = subst (λ x. is_true b (literals x) ≡ true) same is in
      let rest = count_no_more clauses a b ex in
      rw (was_so, is_so) (omega (arith, rest)))
      (λ t. count_step_less (is_true a (literals clauses)) (is_true b (literals clauses))
      (count_open literals clauses b) (count_open literals clauses a)
      (is_true_kept a b ex (literals clauses)) (count_less clauses a b ex c
      (let ne = eqb-false c clauses t in omega (arith, ne, h)) was is))
