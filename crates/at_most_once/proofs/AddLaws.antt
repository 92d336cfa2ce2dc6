-- What holds after any additions: no variable stands twice and none is a helper, there are as many helpers as are
-- needed, and the clauses are counted.
use Rattle.std.proofs.Common.{◌≡◌, ℕ, suc, ◌+◌, ◌-◌, ◌*◌, ◌^◌, ◌<◌, ◌≤◌, Bool, true, false}
use Rattle.std.proofs.Common.{◌&&◌, ◌||◌, ltb, List, [], ◌∷◌, ◌++◌, Option, Some, None, ◌⊎◌}
use Rattle.std.proofs.Common.{not, inl, inr, sym, ap, refl, subst, ◌∙◌, arith, length, length-append}
use Rattle.std.specs.Prelude.{map, IfSome, is_some, if◌then◌else◌}
use Rattle.std.specs.List.{enumerate_from, list_any}
use Rattle.std.proofs.lemmas.Bool.Decides.{nat_tests}
use Rattle.std.proofs.lemmas.Nat.{pow_pos}
use Rattle.std.proofs.lemmas.Bool.{cases_lt}
use Rattle.std.proofs.lemmas.List.{append-nil}
use Rattle.std.proofs.Math.Nat.{pow-suc}
use Rattle.std.proofs.Math.Numerals.{add-one}
use Rattle.std.proofs.Math.Pow.{pow_mono}
use Rattle.std.specs.Cmp.{IsEquivalence}
use Rattle.at_most_once.specs.AtMostOne.{Tracker, BitClause, Adds, none, more, is_tracked, with_variable, with_new}
use Rattle.at_most_once.specs.AtMostOne.{with_helper, clauses_for, new_clauses, given_clauses, variable_clauses}
use Rattle.at_most_once.specs.AtMostOne.{is_full, has_bit, IsFresh, IsLeastPower}
use Rattle.at_most_once.proofs.Places.{At, here, there, at_within, at_cases}

-- what holds before an addition holds after it, if it does where the variable is new
pub after_addition : {V : Type 0} (same : V → V → Bool) (P : Tracker V → List (BitClause V) →
    Type 0) (t : Tracker V) (cs : List (BitClause V)) (h : Option V) (v : V) →
    P t cs → (is_tracked same t v ≡ false → P (with_new t h v) (cs ++ new_clauses t h v)) →
    P (with_variable same t h v) (cs ++ clauses_for same t h v)
after_addition same P t cs h v before new = by_tracked (is_tracked same t v) refl
  where
    by_tracked : (b : Bool) → is_tracked same t v ≡ b →
        P (if b then t else with_new t h v) (cs ++ (if b then [] else new_clauses t h v))
    by_tracked true e = subst (P t) (sym (append-nil cs)) before
    by_tracked false e = new e

-- ---- no variable stands twice, and none is a helper

-- no variable is == to an earlier one
abbrev pub Once : {V : Type 0} → (V → V → Bool) → List V → Type 0
Once {V} same xs = (i j : ℕ) (x y : V) → i < j → At xs i x → At xs j y → same y x ≡ false

pub none_same : {V : Type 0} (p : V → Bool) (xs : List V) → list_any p xs ≡ false → {i : ℕ} {x : V} → At xs i x →
    p x ≡ false
none_same p xs e m = of_at m e
  where
    first : (a b : Bool) → (a || b) ≡ false → a ≡ false
    first false b q = refl
    first true b q = q

    later : (a b : Bool) → (a || b) ≡ false → b ≡ false
    later false b q = q
    later true b q = cc

    of_at : {ys : List _} {i : ℕ} {x : _} → At ys i x → list_any p ys ≡ false → p x ≡ false
    of_at (here {x = x} {xs = zs}) q = first (p x) (list_any p zs) q
    of_at (there {y = y} {xs = zs} n) q = of_at n (later (p y) (list_any p zs) q)

pub any_none : {V : Type 0} (p : V → Bool) (xs : List V) → ((i : ℕ) (x : V) → At xs i x → p x ≡ false) →
    list_any p xs ≡ false
any_none p [] out = refl
any_none p (x ∷ xs) out = rw (out 0 x here) (any_none p xs (λ i y m. out (suc i) y (there m)))

once_pushed : {V : Type 0} (same : V → V → Bool) (xs : List V) (v : V) → Once same xs →
    list_any (same v) xs ≡ false → Once same (xs ++ v ∷ [])
once_pushed {V} same xs v o out i j x y l m n =
    elim (at_cases xs v m) [
      | inl m' ↦ elim (at_cases xs v n) [
        | inl n' ↦ o i j x y l m' n'
        | inr e ↦
            subst (λ z. same z x ≡ false) (sym e.1) (none_same (same v) xs out m')
      ]
      | inr e ↦ absurd (let k : j < length (xs ++ v ∷ []) = at_within n in
          let q : length (xs ++ v ∷ []) ≡ length xs + 1 = length-append xs (v ∷ []) in let f = e.0 in omega arith)
    ]

turned : {V : Type 0} (same : V → V → Bool) → IsEquivalence same → (x y : V) → same x y ≡ false → same y x ≡ false
turned same laws x y e = sym (laws.symm x y) ∙ e

pub record Apart {V : Type 0} (same : V → V → Bool) (t : Tracker V) : Type 0 where
  pub tracked_once : Once same t.variables
  pub helpers_once : Once same t.helpers
  pub no_helper : (i b : ℕ) (x h : V) → At t.variables i x → At t.helpers b h → same x h ≡ false

pub apart : {V : Type 0} (same : V → V → Bool) → IsEquivalence same → {t : Tracker V} {cs : List (BitClause V)} →
    Adds same t cs → Apart same t
apart same laws none = record {
  tracked_once = λ i j x y l m n. elim m [ ];
  helpers_once =
      λ i j x y l m n. elim m [ ];
  no_helper = λ i b x h m n. elim m [ ];
}
apart {V} same laws (more {t = t} {cs = cs} h v adds asked) =
    let before = apart same laws adds in
    after_addition same (λ u ds. Apart same u) t cs h v before (λ new. with_given h asked.fresh new before)
  where
    with_given : (h : Option V) → IfSome h (λ x. IsFresh same t x × (same x v ≡ false)) →
        is_tracked same t v ≡ false → Apart same t → Apart same (with_new t h v)
    with_given None f new before = record {
      tracked_once = once_pushed same t.variables v before.tracked_once new;
      helpers_once = before.helpers_once;
      no_helper = λ i b x k m n. elim (at_cases t.variables v m) [
        | inl m' ↦ before.no_helper i b x k m' n
        | inr e ↦ subst (λ z. same z k ≡ false) (sym e.1) (none_same (same v) t.helpers asked.no_helper n)
      ];
    }
    with_given (Some g) f new before = record {
      tracked_once = once_pushed same t.variables v before.tracked_once new;
      helpers_once = once_pushed same t.helpers g before.helpers_once f.0.1;
      no_helper = λ i b x k m n. elim (at_cases t.variables v m) [
        | inl m' ↦ elim (at_cases t.helpers g n) [
          | inl n' ↦ before.no_helper i b x k m' n'
          | inr e ↦ subst (λ z. same x z ≡ false) (sym e.1) (turned same laws g x
              (none_same (same g) t.variables f.0.0 m'))
        ]
        | inr e ↦ elim (at_cases t.helpers g n) [
          | inl n' ↦ subst (λ z. same z k ≡ false) (sym e.1) (none_same (same v) t.helpers asked.no_helper n')
          | inr e' ↦ subst (λ z. same z k ≡ false) (sym e.1) (subst (λ z. same v z ≡ false) (sym e'.1)
              (turned same laws g v f.1))
        ]
      ];
    }

-- a variable stands at one place
pub one_place : {V : Type 0} (same : V → V → Bool) → IsEquivalence same → (xs : List V) → Once same xs →
    (i j : ℕ) (x : V) → At xs i x → At xs j x → i ≡ j
one_place same laws xs o i j x m n = elim (cases_lt i j) [
  | inl l ↦ absurd (twice (o i j x x l m n))
  | inr l ↦ elim (cases_lt j i) [ inl k ↦ absurd (twice (o j i x x k n m)) | inr k ↦ omega arith ]
]
  where
    twice : same x x ≡ false → ⊥
    twice e = let q : true ≡ false = sym (laws.refl x) ∙ e in cc

-- ---- the number of helpers

pub length-pushed : {V : Type 0} (xs : List V) (x : V) → length (xs ++ x ∷ []) ≡ length xs + 1
length-pushed xs x = length-append xs (x ∷ [])

fits_still : (n p : ℕ) → 0 < p → n ≤ p → (ltb 0 n && ltb (p - 1) n) ≡ false → n + 1 ≤ p
fits_still n p h l e = grind (arith, nat_tests)

is_full_now : (n p : ℕ) → 0 < p → n ≤ p → (ltb 0 n && ltb (p - 1) n) ≡ true → n ≡ p
is_full_now n p h l e = grind (arith, nat_tests)

power_more : (n k : ℕ) → n ≡ 2 ^ k → IsLeastPower (k + 1) (n + 1)
power_more n k e =
    record {
      enough = (let double : 2 ^ (k + 1) ≡ 2 ^ k * 2 = ap (λ j. 2 ^ j) (add-one k) ∙ pow-suc 2 k in
          let p = pow_pos k in omega arith);
      least = λ j h. above j h (cases_lt j (k + 1));
    }
  where
    above : (j : ℕ) → n + 1 ≤ 2 ^ j → (j < k + 1) ⊎ (k + 1 ≤ j) → k + 1 ≤ j
    above j h (inr l) = l
    above j h (inl l) = let within : j ≤ k = omega arith in let m : 2 ^ j ≤ 2 ^ k = pow_mono within in
        absurd (omega arith)

pub has_enough : {V : Type 0} {same : V → V → Bool} {t : Tracker V} {cs : List (BitClause V)} → Adds same t cs →
    IsLeastPower (length t.helpers) (length t.variables)
has_enough none = record { enough = omega arith; least = λ j h. omega arith }
has_enough {V} {same} (more {t = t} {cs = cs} h v adds asked) =
    after_addition same (λ u ds. IsLeastPower (length u.helpers) (length u.variables)) t cs h v (has_enough adds)
    (λ new. with_given h (asked.needed ∙ ap (λ b. not b && is_full t) new) (has_enough adds))
  where
    with_given : (h : Option V) → is_some h ≡ is_full t → IsLeastPower (length t.helpers) (length t.variables) →
        IsLeastPower (length (with_new t h v).helpers) (length (with_new t h v).variables)
    with_given None e before = rw (length-pushed t.variables v) (record {
      enough = fits_still (length t.variables) (2 ^ length t.helpers) (pow_pos (length t.helpers)) before.enough
          (sym e);
      least = λ j l. before.least j (omega arith);
    })
    with_given (Some x) e before = rw (length-pushed t.variables v, length-pushed t.helpers x)
        (power_more (length t.variables) (length t.helpers)
        (is_full_now (length t.variables) (2 ^ length t.helpers)
        (pow_pos (length t.helpers)) before.enough (sym e)))

-- ---- how many clauses

length-enumerated : {A V : Type 0} (f : ℕ × V → A) (n : ℕ) (xs : List V) →
    length (map f (enumerate_from n xs)) ≡ length xs
length-enumerated f n [] = refl
length-enumerated f n (x ∷ xs) = ap suc (length-enumerated f (n + 1) xs)

counted : (cs n k given k' : ℕ) → cs ≡ n * k → given + n * k ≡ n * k' → cs + (given + k') ≡ (n + 1) * k'
counted cs n k given k' e f = omega arith

pub clause_count : {V : Type 0} {same : V → V → Bool} {t : Tracker V} {cs : List (BitClause V)} → Adds same t cs →
    length cs ≡ length t.variables * length t.helpers
clause_count none = omega arith
clause_count {V} {same} (more {t = t} {cs = cs} h v adds asked) =
    after_addition same (λ u ds. length ds ≡ length u.variables * length u.helpers) t cs h v (clause_count adds)
    (λ new. with_given h (clause_count adds))
  where
    given_count : (h : Option V) → length (given_clauses t h) + length t.variables * length t.helpers
        ≡ length t.variables * length (with_helper t.helpers h)
    given_count None = omega arith
    given_count (Some x) = rw (length-pushed t.helpers x)
        (let e = length-enumerated {A = BitClause V} (λ (y : ℕ × V). (y.1, x, has_bit y.0 (length t.helpers))) 0
        t.variables in omega (arith, e))

    with_given : (h : Option V) → length cs ≡ length t.variables * length t.helpers →
        length (cs ++ new_clauses t h v) ≡ length (with_new t h v).variables * length (with_new t h v).helpers
    with_given h e =
        rw (
          length-append cs (new_clauses t h v),
          length-append (given_clauses t h) (variable_clauses (length t.variables) v (with_helper t.helpers h)),
          length-enumerated {A = BitClause V} (λ (y : ℕ × V). (v, y.1, has_bit (length t.variables) y.0)) 0
              (with_helper t.helpers h),
          length-pushed t.variables v,
        )
        (counted (length cs) (length t.variables) (length t.helpers) (length (given_clauses t h))
        (length (with_helper t.helpers h)) e (given_count h))
