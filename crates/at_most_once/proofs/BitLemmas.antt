-- Bits of numbers below 2 ^ 64, and clauses of one member more.
use Rattle.std.proofs.Common.{◌≡◌, ℕ, suc, ◌+◌, ◌-◌, ◌^◌, ◌/◌, ◌<◌, ◌≤◌, Bool, true, false, ◌&&◌, nat_eq, nat_lt}
use Rattle.std.proofs.Common.{List, [], ◌∷◌, ◌++◌, Some, length, take, get_or, sym, ap, refl, ◌∙◌, arith}
use Rattle.std.specs.Prelude.{map}
use Rattle.std.specs.List.{enumerate_from}
use Rattle.std.proofs.lemmas.Bool.Decides.{nat_tests}
use Rattle.std.proofs.lemmas.Nat.{pow_pos, le-div}
use Rattle.std.proofs.lemmas.Nat.Bits.{bit_at_above}
use Rattle.std.proofs.Math.Nat.{div-eq_of_lt}
use Rattle.std.proofs.Math.Pow.{pow_mono}
use Rattle.std.proofs.Math.Seq.{take-suc}
use Rattle.std.proofs.lemmas.List.{append_assoc, length-take-le}
use Rattle.at_most_once.specs.AtMostOne.{Tracker, BitClause, has_bit, helper_clauses, variable_clauses, new_clauses}

-- a number below 2 ^ 64 has no bit from 64 on
pub no_bit : (n b : ℕ) → n < 2 ^ 64 → 64 ≤ b → has_bit n b ≡ false
no_bit n b fits above = ap (λ x. nat_eq x 1) (bit_at_above n 64 b fits above)

-- the quotient by 2 ^ b is positive exactly from 2 ^ b on
quotient_tells : (n p q : ℕ) → 0 < p → (n < p → q ≡ 0) → (p ≤ n → 1 ≤ q) → nat_lt 0 q ≡ (nat_lt 0 n && nat_lt (p - 1) n)
quotient_tells n p q pos below above = go (nat_lt n p) refl
  where
    go : (t : Bool) → nat_lt n p ≡ t → nat_lt 0 q ≡ (nat_lt 0 n && nat_lt (p - 1) n)
    go true e = let l : n < p = grind (arith, nat_tests) in let z = below l in grind (arith, nat_tests)
    go false e = let l : p ≤ n = grind (arith, nat_tests) in let z = above l in grind (arith, nat_tests)

pub past_below : (n b : ℕ) → nat_lt 0 (n / 2 ^ b) ≡ (nat_lt 0 n && nat_lt (2 ^ b - 1) n)
past_below n b = quotient_tells n (2 ^ b) (n / 2 ^ b) (pow_pos b) div-eq_of_lt
    (λ l. le-div 1 n (2 ^ b) (pow_pos b) (omega arith))

pub past_above : (n b : ℕ) → n < 2 ^ 64 → 64 ≤ b → (nat_lt 0 n && nat_lt (2 ^ b - 1) n) ≡ false
past_above n b fits above = let m : 2 ^ 64 ≤ 2 ^ b = pow_mono above in small n (2 ^ b) (omega arith)
  where
    small : (n p : ℕ) → n < p → (nat_lt 0 n && nat_lt (p - 1) n) ≡ false
    small n p l = grind (arith, nat_tests)

-- what is made of a list's members, with one member more
enumerated_more : {V A : Type 0} (f : ℕ × V → A) (k : ℕ) (xs : List V) (y : V) →
    map f (enumerate_from k (xs ++ y ∷ [])) ≡ map f (enumerate_from k xs) ++ f (k + length xs, y) ∷ []
enumerated_more f k [] y = let e : k ≡ k + 0 = omega arith in ap (λ n. f (n, y) ∷ []) e
enumerated_more f k (x ∷ xs) y =
    let e : (k + 1) + length xs ≡ k + suc (length xs) = omega arith in
    ap (λ zs. f (k, x) ∷ zs) (enumerated_more f (k + 1) xs y
    ∙ ap (λ n. map f (enumerate_from (k + 1) xs) ++ f (n, y) ∷ []) e)

-- the same, counted from 0
pub made_more : {V A : Type 0} (f : ℕ × V → A) (xs : List V) (y : V) →
    map f (enumerate_from 0 (xs ++ y ∷ [])) ≡ map f (enumerate_from 0 xs) ++ f (length xs, y) ∷ []
made_more f xs y = let e : 0 + length xs ≡ length xs = omega arith in
    enumerated_more f 0 xs y ∙ ap (λ n. map f (enumerate_from 0 xs) ++ f (n, y) ∷ []) e

-- the loop over a list's members goes on by what it makes of the next one
pub goes_on : {V A : Type 0} (f : ℕ × V → A) (before items items' : List A) (xs : List V) (n : ℕ) (x : V) (a : A) →
    n < length xs → x ≡ get_or xs n x → items ≡ before ++ map f (enumerate_from 0 (take n xs)) →
    items' ≡ items ++ a ∷ [] → a ≡ f (n, x) →
    items' ≡ before ++ map f (enumerate_from 0 (take (n + 1) xs))
goes_on {V} f before items items' xs n x a within read made pushed next =
    pushed ∙ (ap (λ ys. ys ++ a ∷ []) made ∙
    (append_assoc before _ (a ∷ []) ∙ ap (λ zs. before ++ zs)
    (ap (λ b. map f (enumerate_from 0 (take n xs)) ++ b ∷ []) next ∙ sym one_more)))
  where
    longer : take (n + 1) xs ≡ take n xs ++ x ∷ []
    longer = let e : n + 1 ≡ suc n = omega arith in
        ap (λ k. take k xs) e ∙ (take-suc xs n x within ∙ ap (λ y. take n xs ++ y ∷ []) (sym read))

    short : length (take n xs) ≡ n
    short = length-take-le n xs (omega arith)

    one_more : map f (enumerate_from 0 (take (n + 1) xs)) ≡ map f (enumerate_from 0 (take n xs)) ++ f (n, x) ∷ []
    one_more = ap (λ ys. map f (enumerate_from 0 ys)) longer ∙
        (made_more f (take n xs) x ∙ ap (λ k. map f (enumerate_from 0 (take n xs)) ++ f (k, x) ∷ []) short)

module _ {V : Type 0} (t : Tracker V) (h v : V) where
  abbrev given : List (BitClause V)
  given = helper_clauses (length t.helpers) h t.variables

  abbrev own : List (BitClause V)
  own = variable_clauses (length t.variables) v t.helpers

  abbrev last : List (BitClause V)
  last = (v, h, has_bit (length t.variables) (length t.helpers)) ∷ []

  joined : (before : List (BitClause V)) → ((before ++ given) ++ own) ++ last ≡ before ++ new_clauses t (Some h) v
  joined before = append_assoc (before ++ given) own last ∙ (append_assoc before given (own ++ last)
      ∙ ap (λ xs. before ++ (given ++ xs))
      (sym (made_more (λ (x : ℕ × V). (v, x.1, has_bit (length t.variables) x.0)) t.helpers h)))

  -- the clauses of a variable that comes with a helper, as they are appended: the helper's, those with the helpers
  -- before, and the one with the new helper
  pub given_appended : (before reserved items items' items'' : List (BitClause V)) (variables helpers : List V)
      (number bits : ℕ) (b : Bool) →
      reserved ≡ before → variables ≡ t.variables → helpers ≡ t.helpers → b ≡ has_bit number bits →
      number ≡ length t.variables → bits ≡ length t.helpers →
      items ≡ reserved ++ helper_clauses bits h variables → items' ≡ items ++ variable_clauses number v helpers →
      items'' ≡ items' ++ (v, h, b) ∷ [] →
      items'' ≡ before ++ new_clauses t (Some h) v
  given_appended before reserved items items' items'' variables helpers number bits b of_reserved of_variables
      of_helpers of_bit of_number of_bits first second third =
      third ∙ (ap (λ xs. xs ++ (v, h, b) ∷ []) (second ∙ ap (λ xs. xs ++ variable_clauses number v helpers) first)
      ∙ rw (of_reserved, of_variables, of_helpers, of_bit, of_number, of_bits) (joined before))
