-- What comes into a pool stands at its id.
use Rattle.std.proofs.Common.{◌≡◌, ◌∙◌, ℕ, suc, ◌+◌, Bool, true, false, not, ◌||◌, List, [], ◌∷◌, ◌++◌, map, Some}
use Rattle.std.proofs.Common.{None, length}
use Rattle.std.proofs.Common.{cond, arith, refl, ap, sym, add_comm, add-one}
use Rattle.std.specs.Prelude.{if◌then◌else◌, ◌==◌, ◌&&◌}
use Rattle.std.proofs.lemmas.Slice.Eq.{bytes_eq-Decides}
use Rattle.std.proofs.lemmas.Bool.{lt-ltb}
use Rattle.std.proofs.lemmas.Bool.Decides.{nat_tests}
use Rattle.resolvo_pool.specs.Types.Condition.TheVariants.{Requirement}
use Rattle.example_index.proofs.Words.{And, Binary, bytes_eq, Condition, Err, first_place, has_same, IfOk, interned}
use Rattle.example_index.proofs.Words.{interned_place, LogicalOperator, nat_lt, Ok, OnOk, option_map, Or, position}
use Rattle.example_index.proofs.Words.{position_or_len, Result, same_condition, same_operator, same_set, slice_get}
use Rattle.example_index.proofs.Words.{String, string_bytes, string_eq, VersionRange}

-- at its place an interned value stands, as it is seen, where equal values are seen as one
module _ {X Y : Type 0} (view : X → Y) (same : X → X → Bool) (x : X)
    (alike : (k : X) → same x k ≡ true → view x ≡ view k) where
  behind : (b : Bool) (k : X) (ks : List X) (place : ℕ) → slice_get (map view (cond b ks (ks ++ x ∷ []))) place ≡
      Some (view x)
      → slice_get (map view (cond b (k ∷ ks) (k ∷ ks ++ x ∷ []))) (suc place) ≡ Some (view x)
  behind true k ks place h = h
  behind false k ks place h = h

  stands : (b : Bool) (k : X) (ks : List X) → (b ≡ true → view x ≡ view k)
      → slice_get (map view (interned same ks x)) (interned_place same ks x) ≡ Some (view x)
      → slice_get (map view (cond (b || has_same same ks x) (k ∷ ks) (k ∷ ks ++ x ∷ [])))
      (cond (not b) (1 + interned_place same ks x) 0) ≡ Some (view x)
  stands true k ks h rest = ap Some (sym (h refl))
  stands false k ks h rest = rw (add_comm 1 (interned_place same ks x), add-one)
      (behind (has_same same ks x) k ks (interned_place same ks x) rest)

  pub interned_at : (list : List X) → slice_get (map view (interned same list x)) (interned_place same list x) ≡
      Some (view x)
  interned_at [] = refl
  interned_at (k ∷ ks) = stands (same x k) k ks (alike k) (interned_at ks)

-- names that are equal have the same bytes
pub same_bytes : (xs ys : List ℕ) → bytes_eq xs ys ≡ true → xs ≡ ys
same_bytes xs ys h = (bytes_eq-Decides xs ys).0 h

reflexive : (text : List ℕ) → bytes_eq text text ≡ true
reflexive text = (bytes_eq-Decides text text).1 refl

module _ {A : Type 0} (s : String A) where
  name_step : (b h : Bool) (k : String A) (ks : List (String A)) (place : ℕ)
      → first_place (string_bytes s) (map string_bytes (cond h ks (ks ++ s ∷ []))) ≡ Some place
      → bytes_eq (string_bytes s) (string_bytes k) ≡ b
      → first_place (string_bytes s) (map string_bytes (cond (b || h) (k ∷ ks) (k ∷ ks ++ s ∷ []))) ≡ Some
      (cond (not b) (1 + place) 0)
  name_step true h k ks place ih e =
      ap (λ x. if x then Some 0 else option_map suc (first_place (string_bytes s) (map string_bytes ks))) e
  name_step false true k ks place ih e =
      let more : suc place ≡ 1 + place = omega arith in
      ap (λ x. if x then Some 0 else option_map suc (first_place (string_bytes s) (map string_bytes ks))) e
      ∙ ap (option_map suc) ih ∙ ap Some more
  name_step false false k ks place ih e =
      let more : suc place ≡ 1 + place = omega arith in
      ap (λ x. if x then Some 0 else option_map suc (first_place (string_bytes s) (map string_bytes (ks ++ s ∷ [])))) e
      ∙ ap (option_map suc) ih ∙ ap Some more

  -- the id of an interned name is the first place of its bytes
  pub name_at : (names : List (String A))
      → first_place (string_bytes s) (map string_bytes (interned string_eq names s)) ≡ Some
      (interned_place string_eq names s)
  name_at [] = ap (λ b. if b then Some 0 else option_map suc (first_place (string_bytes s) []))
      (reflexive (string_bytes s))
  name_at (k ∷ ks) =
      name_step (string_eq s k) (has_same string_eq ks s) k ks (interned_place string_eq ks s) (name_at ks) refl

map_itself : {X : Type 0} (xs : List X) → map (λ x. x) xs ≡ xs
map_itself [] = refl
map_itself (x ∷ xs) = ap (λ ys. x ∷ ys) (map_itself xs)

-- the same without a view
pub value_at : {X : Type 0} (same : X → X → Bool) (x : X) → ((k : X) → same x k ≡ true → x ≡ k) → (list : List X)
    → slice_get (interned same list x) (interned_place same list x) ≡ Some x
value_at same x exact list =
    ap (λ l. slice_get l (interned_place same list x)) (sym (map_itself (interned same list x)))
    ∙ interned_at (λ y. y) same x exact list

pub string_at : (strings : List (List ℕ)) (text : List ℕ)
    → slice_get (interned bytes_eq strings text) (interned_place bytes_eq strings text) ≡ Some text
string_at strings text = value_at bytes_eq text (same_bytes text) strings

abbrev pub VersionRangeEq : VersionRange → VersionRange → Bool
VersionRangeEq a b = (a.low == b.low) && (a.high == b.high)

both : (a b : Bool) → (a && b) ≡ true → (a ≡ true) × (b ≡ true)
both true true h = (h, h)
both true false h = cc
both false b h = cc

same_number : (a b : ℕ) → (a == b) ≡ true → a ≡ b
same_number a b h = grind (arith, nat_tests, h)

same_range : (a b : VersionRange) → VersionRangeEq a b ≡ true → a ≡ b
same_range a b h =
    let parts = both (a.low == b.low) (a.high == b.high) h in
    ap (λ low. record { low = low; high = a.high }) (same_number a.low b.low parts.0)
    ∙ ap (λ high. record { low = b.low; high = high }) (same_number a.high b.high parts.1)

pub set_at : (sets : List (ℕ × VersionRange)) (name : ℕ) (range : VersionRange)
    → slice_get (interned (same_set VersionRangeEq) sets (name, range))
    (interned_place (same_set VersionRangeEq) sets (name, range)) ≡ Some (name, range)
set_at sets name range = value_at (same_set VersionRangeEq) (name, range) (λ k h.
    let parts = both (name == k.0) (VersionRangeEq range k.1) h in
    ap (λ n. (n, range)) (same_number name k.0 parts.0) ∙ ap (λ r. (k.0, r)) (same_range range k.1 parts.1)) sets

same_kind : (o p : LogicalOperator) → same_operator o p ≡ true → o ≡ p
same_kind And And h = refl
same_kind Or Or h = refl
same_kind And Or h = cc
same_kind Or And h = cc

same_conditions : (a b : Condition) → same_condition a b ≡ true → a ≡ b
same_conditions (Requirement v) (Requirement w) h = ap (λ n. Requirement (record { 0 = n })) (same_number v.0 w.0 h)
same_conditions (Binary o a b) (Binary p c d) h =
    let parts = both (same_operator o p) ((a == c) && (b == d)) h in
    let sides = both (a == c) (b == d) parts.1 in
    ap (λ x. Binary x a b) (same_kind o p parts.0) ∙ ap (λ x. Binary p x b) (same_number a c sides.0)
    ∙ ap (λ x. Binary p c x) (same_number b d sides.1)
same_conditions (Requirement v) (Binary p c d) h = cc
same_conditions (Binary o a b) (Requirement w) h = cc

pub condition_at : (conditions : List Condition) (c : Condition)
    → slice_get (interned same_condition conditions c) (interned_place same_condition conditions c) ≡ Some c
condition_at conditions c = value_at same_condition c (same_conditions c) conditions

-- the condition that was asked for stands at the id that was answered
pub said_at : {E : Type 0} (r : Result ℕ E) (old new : List Condition) (c : Condition) → IfOk r
    (λ id. id ≡ interned_place same_condition old c)
    → OnOk r (new ≡ interned same_condition old c) → IfOk r (λ id. slice_get new id ≡ Some c)
said_at (Ok id) old new c at is = ap (λ l. slice_get l id) is ∙ ap (slice_get (interned same_condition old c)) at ∙
    condition_at old c
said_at (Err e) old new c at is = at

-- the place of a name in a list with one more in front
place_after : (found : Bool) (n : ℕ) → cond found (Some (1 + n)) None ≡ option_map suc (cond found (Some n) None)
place_after true n = ap Some (omega arith)
place_after false n = refl

placed : (same : Bool) (n count : ℕ)
    → cond (nat_lt (cond (not same) (1 + n) 0) (suc count)) (Some (cond (not same) (1 + n) 0)) None
    ≡ (if same then Some 0 else option_map suc (cond (nat_lt n count) (Some n) None))
placed true n count = ap (λ found. cond found (Some 0) None) (lt-ltb 0 (suc count) (omega arith))
placed false n count =
    let shifted : nat_lt (1 + n) (suc count) ≡ nat_lt n count = grind (arith, nat_tests) in
    ap (λ found. cond found (Some (1 + n)) None) shifted ∙ place_after (nat_lt n count) n

-- what a text finds among names is the first place of its bytes
pub found_at : {A : Type 0} (text : List ℕ) (names : List (String A))
    → position (λ name. bytes_eq text (string_bytes name)) names ≡ first_place text (map string_bytes names)
found_at text [] = refl
found_at text (name ∷ names) =
    placed (bytes_eq text (string_bytes name)) (position_or_len (λ n. bytes_eq text (string_bytes n)) names)
    (length names)
    ∙ ap (λ place. if bytes_eq text (string_bytes name) then Some 0 else option_map suc place) (found_at text names)
