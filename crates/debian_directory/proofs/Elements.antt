-- Elements of lists, and tests that they pass.
use Rattle.std.proofs.Common.{◌≡◌, ◌∙◌, ◌<◌, ◌&&◌, Bool, true, false, cond, List, [], ◌∷◌, ℕ, All, Contains, ap, arith}
use Rattle.std.proofs.Common.{filter, inl, inr, map, refl, subst, sym}
use Rattle.std.specs.List.{list_all, list_any}
use Rattle.std.proofs.lemmas.Bool.{and_from, and_parts}
use Rattle.std.proofs.lemmas.List.Elements.{All-contains, All-contains_itself, All-filter, All-weaker}
use Rattle.std.proofs.lemmas.List.Elements.{Contains-append_cases, Contains-append_left, Contains-append_right}
use Rattle.std.proofs.lemmas.List.Elements.{Contains-push, Contains-push_cases, filter_passes}
use Rattle.std.proofs.lemmas.List.Folds.{Any-from_list_any, list_any_at}

pub is_head : {X : Type 0} (y x : X) → Contains (y ∷ []) x → y ≡ x
is_head y x at = elim (Contains-push_cases [] y x at) [ inl none ↦ absurd (omega (arith, none.1)) | inr same ↦ same ]

module _ {X : Type 0} (test : X → Bool) where
  pub some_of : (xs : List X) → list_any test xs ≡ true → (x : X) × Contains xs x × (test x ≡ true)
  some_of xs so = let some = Any-from_list_any test xs so in (some.1, (some.0, some.2, some.3), some.4)

  pub any_of : (xs : List X) (x : X) → Contains xs x → test x ≡ true → list_any test xs ≡ true
  any_of xs x at so = list_any_at test xs at.0 x at.1 (ap test at.2 ∙ so)

  pub all_of : (xs : List X) (x : X) → list_all test xs ≡ true → Contains xs x → test x ≡ true
  all_of [] x all at = absurd (omega (arith, at.1))
  all_of (y ∷ rest) x all at =
      let parts = and_parts (test y) (list_all test rest) all in
      elim (Contains-append_cases (y ∷ []) rest x at) [
        | inl here ↦ ap test (sym (is_head y x here)) ∙ parts.0
        | inr behind ↦ all_of rest x parts.1 behind
      ]

  pub filtered : (xs : List X) (x : X) → Contains (filter test xs) x → Contains xs x × (test x ≡ true)
  filtered xs x at = (
    All-contains (Contains xs) (filter test xs) x (All-filter test (Contains xs) xs (All-contains_itself xs)) at,
    All-contains (λ y. test y ≡ true) (filter test xs) x (filter_passes test xs) at,
  )

  kept_behind : (y : X) (rest : List X) (x : X) → Contains (filter test rest) x → Contains (filter test (y ∷ rest)) x
  kept_behind y rest x at =
      elim (test y) as (λ b. Contains (cond b (y ∷ filter test rest) (filter test rest)) x) [
        | true ↦ Contains-append_right (y ∷ []) (filter test rest) x at
        | false ↦ at
      ]

  kept_here : (y : X) (rest : List X) → test y ≡ true → Contains (filter test (y ∷ rest)) y
  kept_here y rest so =
      subst (λ b. Contains (cond b (y ∷ filter test rest) (filter test rest)) y) (sym so)
      (Contains-append_left (y ∷ []) (filter test rest) y (Contains-push [] y))

  pub kept : (xs : List X) (x : X) → Contains xs x → test x ≡ true → Contains (filter test xs) x
  kept [] x at so = absurd (omega (arith, at.1))
  kept (y ∷ rest) x at so =
      elim (Contains-append_cases (y ∷ []) rest x at) [
        | inl here ↦ let same = is_head y x here in
            subst (λ z. Contains (filter test (y ∷ rest)) z) same (kept_here y rest (ap test same ∙ so))
        | inr behind ↦ kept_behind y rest x (kept rest x behind so)
      ]

  pub all_from : (xs : List X) → ((x : X) → Contains xs x → test x ≡ true) → list_all test xs ≡ true
  all_from [] each = refl
  all_from (y ∷ rest) each =
      and_from (test y) (list_all test rest) (each y (Contains-append_left (y ∷ []) rest y (Contains-push [] y)))
      (all_from rest (λ x at. each x (Contains-append_right (y ∷ []) rest x at)))

  pub filter-map : {Y : Type 0} (f : Y → X) (ys : List Y) → map f (filter (λ y. test (f y)) ys) ≡ filter test (map f ys)
  filter-map f [] = refl
  filter-map f (y ∷ ys) =
      elim (test (f y)) as (λ b. map f (cond b (y ∷ filter (λ z. test (f z)) ys) (filter (λ z. test (f z)) ys))
      ≡ cond b (f y ∷ filter test (map f ys)) (filter test (map f ys))) [
        | true ↦ ap (λ zs. f y ∷ zs) (filter-map f ys)
        | false ↦ filter-map f ys
      ]

module _ {X : Type 0} (test other : X → Bool) (weaker : (x : X) → test x ≡ true → other x ≡ true) where
  pub any_weaker : (xs : List X) → list_any test xs ≡ true → list_any other xs ≡ true
  any_weaker xs so = let some = some_of test xs so in any_of other xs some.0 some.1 (weaker some.0 some.2)

  pub all_weaker : (xs : List X) → list_all test xs ≡ true → list_all other xs ≡ true
  all_weaker xs so = all_from other xs (λ x at. weaker x (all_of test xs x so at))

pub All-each : {X : Type 0} (P : X → Type 0) (xs : List X) → ((x : X) → Contains xs x → P x) → All P xs
All-each P xs each = All-weaker (Contains xs) P each xs (All-contains_itself xs)
