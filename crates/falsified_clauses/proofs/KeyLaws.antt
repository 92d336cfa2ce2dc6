-- Keys, and the numbers of their groups.
use Rattle.std.proofs.Common.{◌≡◌, ◌⊎◌, ℕ, ◌+◌, ◌<◌, ◌≤◌, Bool, true, false, not, cond, List, [], ◌∷◌, ◌++◌}
use Rattle.std.proofs.Common.{length, get_or, map, Option, Some, None, position, Result, Ok, Err, IfOk, OnOk, OnErr}
use Rattle.std.proofs.Common.{refl, sym, ap, ◌∙◌, subst, arith, inl, inr, true≢false}
use Rattle.std.proofs.lemmas.Bool.{cases_lt, cases_Bool, eq-eqb, ne_eqb, eqb-true, lt-ltb, le-ltb}
use Rattle.std.proofs.lemmas.Option.{none-some}
use Rattle.std.proofs.lemmas.List.{get_or-map, length-append}
use Rattle.std.proofs.lemmas.List.Elements.{All-contains, All-contains_itself, All-push, All-weaker}
use Rattle.std.proofs.lemmas.List.Folds.{position_or_len_push}
use Rattle.std.proofs.lemmas.List.Sums.{passes_at_first, prefix_len-le-length}
use Rattle.falsified_clauses.proofs.Words.{AddsOnly, All, Condition, Contains, FindsKeys, GroupKey, IsUpdate}
use Rattle.falsified_clauses.proofs.Words.{KeepsNumbers, number_in, Parent, Requirement, Rows, same_key}
use Rattle.falsified_clauses.proofs.Words.{same_requirement, Single, Union}

-- ---- equal keys

requirement_is : (r q : Requirement) → same_requirement r q ≡ true → r ≡ q
requirement_is (Single v) (Single w) e = ap (λ (n : ℕ). Single (record { 0 = n })) (eqb-true v.0 w.0 e)
requirement_is (Union v) (Union w) e = ap (λ (n : ℕ). Union (record { 0 = n })) (eqb-true v.0 w.0 e)
requirement_is (Single v) (Union w) e = cc
requirement_is (Union v) (Single w) e = cc

requirement_self : (r : Requirement) → same_requirement r r ≡ true
requirement_self (Single v) = eq-eqb v.0 v.0 refl
requirement_self (Union v) = eq-eqb v.0 v.0 refl

key_is : (a b : GroupKey) → same_key a b ≡ true → a ≡ b
key_is (Parent v) (Parent w) e = ap Parent (eqb-true v w e)
key_is (Condition d) (Condition f) e = ap Condition (eqb-true d f e)
key_is (Rows r) (Rows q) e = ap Rows (requirement_is r q e)
key_is (Parent v) (Condition d) e = cc
key_is (Parent v) (Rows r) e = cc
key_is (Condition d) (Parent v) e = cc
key_is (Condition d) (Rows r) e = cc
key_is (Rows r) (Parent v) e = cc
key_is (Rows r) (Condition d) e = cc

key_self : (a : GroupKey) → same_key a a ≡ true
key_self (Parent v) = eq-eqb v v refl
key_self (Condition d) = eq-eqb d d refl
key_self (Rows r) = requirement_self r

-- ---- a key's place

number_there : (keys : List GroupKey) (key : GroupKey) → number_in keys key < length keys
    → position (same_key key) keys ≡ Some (number_in keys key)
number_there keys key l =
    ap (λ b. cond b (Some (number_in keys key)) None) (lt-ltb (number_in keys key) (length keys) l)

number_missing : (keys : List GroupKey) (key : GroupKey) → length keys ≤ number_in keys key
    → position (same_key key) keys ≡ None
number_missing keys key past =
    ap (λ b. cond b (Some (number_in keys key)) None) (le-ltb (number_in keys key) (length keys) past)

-- a key that isn't found
pub number_absent : (keys : List GroupKey) (key : GroupKey) → position (same_key key) keys ≡ None
    → number_in keys key ≡ length keys
number_absent keys key none = elim (cases_lt (number_in keys key) (length keys)) [
  | inl l ↦ absurd (none-some (number_in keys key) (sym none ∙ number_there keys key l))
  | inr past ↦ let most = prefix_len-le-length (λ q. not (same_key key q)) keys in omega (arith, past, most)
]

-- a key that is
pub number_found : (keys : List GroupKey) (key : GroupKey) (number : ℕ) → position (same_key key) keys ≡ Some number
    → (number ≡ number_in keys key) × (number_in keys key < length keys)
number_found keys key number some = elim (cases_lt (number_in keys key) (length keys)) [
  | inl l ↦ let e = sym some ∙ number_there keys key l in (cc, l)
  | inr past ↦ absurd (none-some number (sym (number_missing keys key past) ∙ some))
]

-- a key at the end goes last
pub number_pushed : (keys : List GroupKey) (key : GroupKey) → number_in keys key ≡ length keys
    → number_in (keys ++ key ∷ []) key ≡ length keys
number_pushed keys key absent =
    position_or_len_push (same_key key) keys key
    ∙ (ap (λ b. cond b (length keys + cond (same_key key key) 0 1) (number_in keys key))
    (eq-eqb (number_in keys key) (length keys) absent)
    ∙ (ap (λ b. length keys + cond b 0 1) (key_self key) ∙ omega arith))

pub pushed_there : (keys : List GroupKey) (key : GroupKey) → number_in keys key ≡ length keys
    → number_in (keys ++ key ∷ []) key < length (keys ++ key ∷ [])
pushed_there keys key absent =
    let last = number_pushed keys key absent in
    let longer = length-append keys (key ∷ []) in
    omega (arith, last, longer)

-- ---- keys keep their numbers

pub numbers_pushed : (keys : List GroupKey) (key : GroupKey) → KeepsNumbers keys (keys ++ key ∷ [])
numbers_pushed keys key other l =
    let same : number_in (keys ++ key ∷ []) other ≡ number_in keys other =
    position_or_len_push (same_key other) keys key
    ∙ ap (λ b. cond b (length keys + cond (same_key other key) 0 1) (number_in keys other))
    (ne_eqb (number_in keys other) (length keys) (omega arith)) in
    let longer = length-append keys (key ∷ []) in
    (same, omega (arith, same, longer, l))

pub keeps_both : (a b c : List GroupKey) → KeepsNumbers a b → KeepsNumbers b c → KeepsNumbers a c
keeps_both a b c first next key l =
    let there = first key l in
    let then = next key there.1 in
    (then.0 ∙ there.0, then.1)

-- another key at the end doesn't change its place
position_pushed : (keys : List GroupKey) (key other : GroupKey) → same_key other key ≡ false
    → position (same_key other) (keys ++ key ∷ []) ≡ position (same_key other) keys
position_pushed keys key other differs = elim (cases_lt (number_in keys other) (length keys)) [
  | inl l ↦
      let still = numbers_pushed keys key other l in
      number_there (keys ++ key ∷ []) other still.1 ∙ (ap Some still.0 ∙ sym (number_there keys other l))
  | inr past ↦
      let most = prefix_len-le-length (λ q. not (same_key other q)) keys in
      let absent : number_in keys other ≡ length keys = omega (arith, past, most) in
      let behind : number_in (keys ++ key ∷ []) other ≡ length keys + 1 =
      position_or_len_push (same_key other) keys key
      ∙ (ap (λ b. cond b (length keys + cond (same_key other key) 0 1) (number_in keys other))
      (eq-eqb (number_in keys other) (length keys) absent)
      ∙ ap (λ b. length keys + cond b 0 1) differs) in
      let longer = length-append keys (key ∷ []) in
      number_missing (keys ++ key ∷ []) other (omega (arith, behind, longer)) ∙ sym (number_missing keys other past)
]

-- ---- a function that finds the keys

-- finds them and one more, if that gets the next number
pub finds_pushed : (old new : GroupKey → Option ℕ) (keys : List GroupKey) (key : GroupKey) → FindsKeys old keys
    → number_in keys key ≡ length keys → IsUpdate old key (Some (length keys)) new → FindsKeys new (keys ++ key ∷ [])
finds_pushed old new keys key finds absent put other = elim (cases_Bool (same_key other key)) [
  | inl same ↦
      let is = key_is other key same in
      let last = number_there (keys ++ key ∷ []) key (pushed_there keys key absent)
      ∙ ap Some (number_pushed keys key absent) in
      subst (λ k. new k ≡ position (same_key k) (keys ++ key ∷ [])) (sym is) (put.0 ∙ sym last)
  | inr differs ↦
      put.1 other (λ e. true≢false (sym (key_self other) ∙ (ap (same_key other) e ∙ differs)))
      ∙ (finds other ∙ sym (position_pushed keys key other differs))
]

-- ---- a key that was made last

module _ {E : Type 0} (old new : List GroupKey) (key : GroupKey) (absent : number_in old key ≡ length old) where
  pub made_number : (r : Result ℕ E) → OnOk r (new ≡ old ++ key ∷ []) → IfOk r (λ group. group ≡ length old)
      → IfOk r (λ group. group ≡ number_in new key)
  made_number (Ok group) is last = last ∙ (sym (number_pushed old key absent) ∙ ap (λ ks. number_in ks key) (sym is))
  made_number (Err e) is last = tt

  pub made_there : (r : Result ℕ E) → OnOk r (new ≡ old ++ key ∷ []) → OnOk r (number_in new key < length new)
  made_there (Ok group) is = subst (λ ks. number_in ks key < length ks) (sym is) (pushed_there old key absent)
  made_there (Err e) is = tt

-- ---- which keys come

pub adds_none : (P : GroupKey → Type 0) (keys : List GroupKey) → AddsOnly P keys keys
adds_none P keys = All-weaker (Contains keys) (λ k. Contains keys k ⊎ P k) (λ k there. inl there) keys
    (All-contains_itself keys)

pub adds_made : {E : Type 0} (old new : List GroupKey) (key : GroupKey) (r : Result ℕ E)
    → OnOk r (new ≡ old ++ key ∷ []) → OnErr r (new ≡ old) → AddsOnly (λ other. other ≡ key) old new
adds_made old new key (Ok group) is same = subst (AddsOnly (λ other. other ≡ key) old) (sym is)
    (All-push (λ k. Contains old k ⊎ (k ≡ key)) old key (adds_none (λ other. other ≡ key) old) (inr refl))
adds_made old new key (Err e) is same =
    subst (AddsOnly (λ other. other ≡ key) old) (sym same) (adds_none (λ other. other ≡ key) old)

pub adds_within : (P Q : GroupKey → Type 0) (old new : List GroupKey) → ((k : GroupKey) → P k → Q k)
    → AddsOnly P old new → AddsOnly Q old new
adds_within P Q old new weaker adds =
    All-weaker (λ k. Contains old k ⊎ P k) (λ k. Contains old k ⊎ Q k)
    (λ k e. elim e [ inl there ↦ inl there | inr is ↦ inr (weaker k is) ]) new adds

-- of those of a list
pub adds_listed : (keys old new : List GroupKey) (key : GroupKey) → Contains keys key
    → AddsOnly (λ other. other ≡ key) old new → AddsOnly (Contains keys) old new
adds_listed keys old new key in' adds =
    adds_within (λ other. other ≡ key) (Contains keys) old new (λ k is. subst (Contains keys) (sym is) in') adds

pub adds_both : (P : GroupKey → Type 0) (a b c : List GroupKey) → AddsOnly P a b → AddsOnly P b c → AddsOnly P a c
adds_both P a b c first next =
    All-weaker (λ k. Contains b k ⊎ P k) (λ k. Contains a k ⊎ P k)
    (λ k e. elim e [
      | inl there ↦ All-contains (λ x. Contains a x ⊎ P x) b k first there
      | inr may ↦ inr may
    ]) c next

-- ---- what a key names

-- is read by its number
pub read_at : {X : Type 0} (f : GroupKey → List X) (keys : List GroupKey) (key : GroupKey)
    → number_in keys key < length keys → get_or (map f keys) (number_in keys key) [] ≡ f key
read_at f keys key l =
    get_or-map f keys (number_in keys key) key [] l
    ∙ ap f (sym (key_is key (get_or keys (number_in keys key) key) (passes_at_first (same_key key) keys key l)))
