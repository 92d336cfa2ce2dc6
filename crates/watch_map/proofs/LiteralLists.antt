-- Tests over the literals of a list, and two different literals.
use Rattle.std.proofs.Common.{◌≡◌, ℕ, zero, suc, ◌<◌, Bool, true, false, ◌||◌, cond, ◌⊎◌, inl, inr, List, []}
use Rattle.std.proofs.Common.{◌∷◌, length, slice_index_or, set, Some, None, refl, sym, subst, ◌∙◌, arith}
use Rattle.std.proofs.lemmas.Bool.{true≢false, and_parts, and_from, or_left, or_right, or_parts}
use Rattle.std.specs.Prelude.{is_some}
use Rattle.watch_map.proofs.Words.{AreTwoOrNone, find, is_clause_in, is_literal_in, list_all, list_any, Lit}
use Rattle.watch_map.proofs.Words.{same_literal}
use Rattle.watch_map.proofs.WatchingLaws.{same_is, same_self, same_swap, eqb_apart}

-- ---- tests

-- by both answers of a test
pub by_test : (X : Type 0) (b : Bool) → (b ≡ true → X) → (b ≡ false → X) → X
by_test X true t f = t refl
by_test X false t f = f refl

-- ---- lists of literals

pub all_at : (p : Lit → Bool) (ls : List Lit) (m : Lit) → list_all p ls ≡ true → is_literal_in m ls ≡ true → p m ≡ true
all_at p [] m all h = absurd (let z : false ≡ true = h in cc)
all_at p (x ∷ ls) m all h =
    by_test (p m ≡ true) (same_literal m x)
    (λ e. subst (λ y. p y ≡ true) (sym (same_is m x e)) ((and_parts (p x) (list_all p ls) all).0))
    (λ e. all_at p ls m ((and_parts (p x) (list_all p ls) all).1) (subst (λ b. (b || is_literal_in m ls) ≡ true) e h))

pub all_from : (p : Lit → Bool) (ls : List Lit) → ((m : Lit) → is_literal_in m ls ≡ true
    → p m ≡ true) → list_all p ls ≡ true
all_from p [] each = refl
all_from p (x ∷ ls) each =
    and_from (p x) (list_all p ls) (each x (or_left (same_literal x x) (is_literal_in x ls) (same_self x)))
    (all_from p ls (λ m h. each m (or_right (same_literal m x) (is_literal_in m ls) h)))

pub any_at : (p : Lit → Bool) (ls : List Lit) (m : Lit) → is_literal_in m ls ≡ true → p m ≡ true → list_any p ls ≡ true
any_at p [] m h t = absurd (let z : false ≡ true = h in cc)
any_at p (x ∷ ls) m h t =
    by_test (list_any p (x ∷ ls) ≡ true) (same_literal m x)
    (λ e. or_left (p x) (list_any p ls) (subst (λ y. p y ≡ true) (same_is m x e) t))
    (λ e. or_right (p x) (list_any p ls) (any_at p ls m (subst (λ b. (b || is_literal_in m ls) ≡ true) e h) t))

-- a literal of the list that passes the test
pub record Passes (p : Lit → Bool) (ls : List Lit) : Type 0 where
  pub literal : Lit
  pub within : is_literal_in literal ls ≡ true
  pub passes : p literal ≡ true

pub passes_of : (p : Lit → Bool) (ls : List Lit) → list_any p ls ≡ true → Passes p ls
passes_of p [] h = absurd (let z : false ≡ true = h in cc)
passes_of p (x ∷ ls) h =
    by_test (Passes p (x ∷ ls)) (p x)
    (λ e. record { literal = x; within = or_left (same_literal x x) (is_literal_in x ls) (same_self x); passes = e })
    (λ e. let later = passes_of p ls (subst (λ b. (b || list_any p ls) ≡ true) e h) in
    record {
      literal = later.literal;
      within = or_right (same_literal later.literal x)
          (is_literal_in later.literal ls) later.within;
      passes = later.passes;
    })

-- something is found exactly where something passes
pub found_any : {X : Type 0} (p : X → Bool) (xs : List X) → is_some (find p xs) ≡ list_any p xs
found_any p [] = refl
found_any p (x ∷ xs) =
    elim (p x) as (λ b. is_some (cond b (Some x) (find p xs)) ≡ (b || list_any p xs)) [
      | true ↦ refl
      | false ↦
          found_any p xs
    ]

-- what a test finds is in the list and passes it
pub found_is : (p : Lit → Bool) (ls : List Lit) (m : Lit) → find p ls ≡ Some m
    → (is_literal_in m ls ≡ true) × (p m ≡ true)
found_is p [] m h = absurd (let z : None ≡ Some m = h in cc)
found_is p (x ∷ ls) m h =
    by_test ((is_literal_in m (x ∷ ls) ≡ true) × (p m ≡ true)) (p x)
    (λ e. let here : Some x ≡ Some m = subst (λ b. cond b (Some x) (find p ls) ≡ Some m) e h in
    let same : x ≡ m = cc in (
      or_left (same_literal m x) (is_literal_in m ls) (subst (λ y. same_literal m y ≡ true) (sym same) (same_self m)),
      subst (λ y. p y ≡ true) same e,
    ))
    (λ e. let later = found_is p ls m (subst (λ b. cond b (Some x) (find p ls) ≡ Some m) e h) in
    (or_right (same_literal m x) (is_literal_in m ls) later.0, later.1))

-- where nothing is found nothing passes
pub none_found : (p : Lit → Bool) (ls : List Lit) → find p ls ≡ None → (m : Lit)
    → is_literal_in m ls ≡ true → p m ≡ false
none_found p [] h m there = absurd (let z : false ≡ true = there in cc)
none_found p (x ∷ ls) h m there =
    by_test (p m ≡ false) (p x)
    (λ e. absurd (let z : Some x ≡ None = subst (λ b. cond b (Some x) (find p ls) ≡ None) e h in cc))
    (λ e. by_test (p m ≡ false) (same_literal m x)
    (λ s. subst (λ y. p y ≡ false) (sym (same_is m x s)) e)
    (λ s. none_found p ls (subst (λ b. cond b (Some x) (find p ls) ≡ None) e h) m
    (subst (λ b. (b || is_literal_in m ls) ≡ true) s there)))

-- ---- two different literals

pub apart : (a b : Lit) → same_literal a b ≡ false → a ≡ b → ⊥
apart a b ne e = true≢false (sym (subst (λ x. same_literal a x ≡ true) e (same_self a)) ∙ ne)

pub in_two : (a b w : Lit) → is_literal_in w (a ∷ b ∷ []) ≡ true → (w ≡ a) ⊎ (w ≡ b)
in_two a b w h = by_test ((w ≡ a) ⊎ (w ≡ b)) (same_literal w a) (λ e. inl (same_is w a e))
    (λ e. by_test ((w ≡ a) ⊎ (w ≡ b)) (same_literal w b) (λ f. inr (same_is w b f))
    (λ f. absurd (let z : false ≡ true = subst (λ s. (s || false) ≡ true) f
    (subst (λ s. (s || (same_literal w b || false)) ≡ true) e h) in cc)))

-- one of two different literals isn't a given one
pub record Another (ws : List Lit) (l : Lit) : Type 0 where
  pub literal : Lit
  pub within : is_literal_in literal ws ≡ true
  pub differs : same_literal literal l ≡ false

pub another : (ws : List Lit) → AreTwoOrNone ws → (w l : Lit) → is_literal_in w ws ≡ true → Another ws l
another [] two w l h = absurd (let z : false ≡ true = h in cc)
another (a ∷ []) two w l h = absurd two
another (a ∷ b ∷ []) two w l h =
    by_test (Another (a ∷ b ∷ []) l) (same_literal a l)
    (λ e. record {
      literal = b;
      within = or_right (same_literal b a) (same_literal b b || false) (or_left (same_literal b b) false (same_self b));
      differs = subst (λ x. same_literal b x ≡ false) (same_is a l e) (same_swap b a ∙ two);
    })
    (λ e. record {
      literal = a;
      within = or_left (same_literal a a) (same_literal a b || false)
          (same_self a);
      differs = e;
    })
another (a ∷ b ∷ c ∷ ws) two w l h = absurd two

-- of two literals, those that aren't a third of them are one
pub only_two : (ws : List Lit) → AreTwoOrNone ws → (u v w : Lit) → is_literal_in u ws ≡ true
    → is_literal_in v ws ≡ true → is_literal_in w ws ≡ true
    → same_literal u w ≡ false → same_literal v w ≡ false → u ≡ v
only_two [] two u v w hu hv hw nu nv = absurd (let z : false ≡ true = hu in cc)
only_two (a ∷ []) two u v w hu hv hw nu nv = absurd two
only_two (a ∷ b ∷ []) two u v w hu hv hw nu nv =
    elim (in_two a b u hu) [
      | inl ua ↦ elim (in_two a b v hv) [
        | inl va ↦ ua ∙ sym va
        | inr vb ↦ elim (in_two a b w hw) [
          | inl wa ↦ absurd (apart u w nu (ua ∙ sym wa))
          | inr wb
              ↦ absurd (apart v w nv (vb ∙ sym wb))
        ]
      ]
      | inr ub ↦ elim (in_two a b v hv) [
        | inl va ↦ elim (in_two a b w hw) [
          | inl wa ↦ absurd (apart v w nv (va ∙ sym wa))
          | inr wb
              ↦ absurd (apart u w nu (ub ∙ sym wb))
        ]
        | inr vb ↦ ub ∙ sym vb
      ]
    ]
only_two (a ∷ b ∷ c ∷ ws) two u v w hu hv hw nu nv = absurd two

-- with `to` at the place of `from`: `from` is gone, and what is there is `to` or was there and isn't `from`
pub record IsMoved (from to : Lit) (was now : List Lit) : Type 0 where
  pub gone : is_literal_in from now ≡ false
  pub others : (w : Lit) → is_literal_in w now ≡ true → (w ≡ to)
      ⊎ ((is_literal_in w was ≡ true) × (same_literal w from ≡ false))
  pub as_many : length now ≡ length was

none_of_two : (w a b : Lit) → same_literal w a ≡ false → same_literal w b ≡ false → is_literal_in w (a ∷ b ∷ []) ≡ false
none_of_two w a b na nb = rw (na, nb) refl

pub moved_two : (ws : List Lit) (index : ℕ) (from to : Lit) → AreTwoOrNone ws → index < length ws
    → slice_index_or ws index from ≡ from
    → is_literal_in to ws ≡ false → IsMoved from to ws (set ws index to)
moved_two [] index from to two within read new = absurd (omega (arith, within))
moved_two (a ∷ []) index from to two within read new = absurd two
moved_two (a ∷ b ∷ c ∷ ws) index from to two within read new = absurd two
moved_two (a ∷ b ∷ []) zero from to two within read new =
    let to_a : same_literal to a ≡ false = (or_parts (same_literal to a) (same_literal to b || false) new).0 in
    let from_b : same_literal from b ≡ false = subst (λ x. same_literal x b ≡ false) read two in
    let from_to : same_literal from to ≡ false = same_swap from to ∙ subst (λ x. same_literal to x ≡ false) read to_a in
    record {
      gone = none_of_two from to b from_to from_b;
      others = λ w h. elim (in_two to b w h) [
        | inl e ↦ inl e
        | inr e ↦ inr (
          or_right (same_literal w a) (same_literal w b || false)
              (or_left (same_literal w b) false (subst (λ x. same_literal w x ≡ true) e (same_self w))),
          subst
              (λ x. same_literal x from ≡ false) (sym e) (same_swap b from ∙ from_b),
        )
      ];
      as_many = refl;
    }
moved_two (a ∷ b ∷ []) (suc zero) from to two within read new =
    let to_b : same_literal to b ≡ false = (or_parts (same_literal to b) false
    ((or_parts (same_literal to a) (same_literal to b || false) new).1)).0 in
    let from_a : same_literal from a ≡ false = same_swap from a ∙ subst (λ x. same_literal a x ≡ false) read two in
    let from_to : same_literal from to ≡ false = same_swap from to ∙ subst (λ x. same_literal to x ≡ false) read to_b in
    record {
      gone = none_of_two from a to from_a from_to;
      others = λ w h. elim (in_two a to w h) [
        | inl e ↦ inr (
          or_left (same_literal w a) (same_literal w b || false)
              (subst (λ x. same_literal w x ≡ true) e (same_self w)),
          subst (λ x. same_literal x from ≡ false) (sym e)
              (same_swap a from ∙ from_a),
        )
        | inr e ↦ inl e
      ];
      as_many = refl;
    }
moved_two (a ∷ b ∷ []) (suc (suc index)) from to two within read new = absurd (omega (arith, within))

-- ---- reading

-- what is read at an index is there
pub read_in : (ws : List Lit) (index : ℕ) (l : Lit) → index < length ws → slice_index_or ws index l ≡ l
    → is_literal_in l ws ≡ true
read_in [] index l h e = absurd (omega (arith, h))
read_in (w ∷ ws) zero l h e = or_left (same_literal l w) (is_literal_in l ws)
    (subst (λ x. same_literal l x ≡ true) (sym e) (same_self l))
read_in (w ∷ ws) (suc index) l h e = or_right (same_literal l w) (is_literal_in l ws)
    (read_in ws index l (omega (arith, h)) e)

-- ---- lists of clauses

-- a clause that isn't the first is in the list if it is in the rest
pub not_ahead : (d c : ℕ) (cs : List ℕ) → (d ≡ c → ⊥) → is_clause_in d cs ≡ false → is_clause_in d (c ∷ cs) ≡ false
not_ahead d c cs ne h = rw (eqb_apart d c ne) h
