-- What `largest` of a map goes through, one value after another.
use Rattle.std.proofs.Common.{◌≡◌, ℕ, zero, suc, ◌<◌, ◌^◌, Bool, true, false, cond, min, List, [], ◌∷◌}
use Rattle.std.proofs.Common.{◌⊎◌, inl, inr, length, get_or, Some, Contains, fold, refl, sym, ap, subst, ◌∙◌, arith}
use Rattle.std.specs.Cmp.{IsTotalOrder, upto, tied_itself}
use Rattle.std.specs.List.{IsDistinct}
use Rattle.std.specs.Map.{lookup, keys_of, values_of}
use Rattle.std.specs.Option.{unwrap_or}
use Rattle.std.specs.Ordering.{is_gt, is_lt, ord_max, ordering_reverse}
use Rattle.std.specs.Cmp.{IsEquivalence}
use Rattle.std.specs.declared.cmp.Ordering.{Ordering}
use Rattle.std.specs.declared.cmp.Ordering.TheVariants.{Less, Equal, Greater}
use Rattle.std.proofs.lemmas.List.{get_or_default, length-take}
use Rattle.std.proofs.lemmas.List.Elements.{Contains-get_or, Contains-append_right}
use Rattle.std.proofs.lemmas.Map.Made.{Contains-from_values_of}
use Rattle.std.proofs.lemmas.Map.Views.{lookup-from_Contains}
use Rattle.typed_ids.specs.TotalMaps.{IsLargest, kept}

-- the other way round, larger is smaller
turned : (r : Ordering) → is_gt (ordering_reverse r) ≡ is_lt r
turned Less = refl
turned Equal = refl
turned Greater = refl

-- what is smaller isn't larger
apart : (r : Ordering) → is_lt r ≡ true → is_gt r ≡ false
apart Less h = refl
apart Equal h = refl
apart Greater h = sym h

-- what a walk through the values ends with: the larger one of what it has so far and the next, each time
abbrev pub walk : {V : Type 0} → (V → V → Ordering) → V → List V → V
walk compare first values = fold (ord_max compare) first values

module _ {V : Type 0} {compare : V → V → Ordering} (order : IsTotalOrder compare) where
  -- no value is larger than itself
  level : (x : V) → is_gt (compare x x) ≡ false
  level x = ap is_gt (tied_itself order x)

  -- the first of two isn't above their larger one
  first_below : (x y : V) → is_gt (compare x (ord_max compare x y)) ≡ false
  first_below x y = by (is_lt (compare y x)) refl
    where
      by : (b : Bool) → is_lt (compare y x) ≡ b → is_gt (compare x (cond b x y)) ≡ false
      by true h = level x
      by false h = ap is_gt (order.antisymm x y) ∙ turned (compare y x) ∙ h

  -- nor is the second
  second_below : (x y : V) → is_gt (compare y (ord_max compare x y)) ≡ false
  second_below x y = by (is_lt (compare y x)) refl
    where
      by : (b : Bool) → is_lt (compare y x) ≡ b → is_gt (compare y (cond b x y)) ≡ false
      by true h = apart (compare y x) h
      by false h = level y

  -- what isn't above the first isn't above what a walk through the values ends with
  walk_above : (z first : V) (values : List V) → is_gt (compare z first) ≡ false →
      is_gt (compare z (walk compare first values)) ≡ false
  walk_above z first [] h = h
  walk_above z first (v ∷ values) h =
      walk_above z (ord_max compare first v) values (upto order z first (ord_max compare first v) h
      (first_below first v))

  -- nor is a value that the walk met
  index_below : (default first : V) (values : List V) (index : ℕ) → is_gt (compare default first) ≡ false →
      is_gt (compare (get_or values index default) (walk compare first values)) ≡ false
  index_below default first [] index h = h
  index_below default first (v ∷ values) zero h = walk_above v (ord_max compare first v) values (second_below first v)
  index_below default first (v ∷ values) (suc index) h =
      index_below default (ord_max compare first v) values index
      (upto order default first (ord_max compare first v) h (first_below first v))

  -- nor is the value that a key finds
  lookup_below : {K : Type 0} (test : K → Bool) (default : V) (entries : List (K × V)) (first : V) →
      is_gt (compare default first) ≡ false →
      is_gt (compare (unwrap_or (lookup test entries) default) (walk compare first (values_of entries))) ≡ false
  lookup_below test default [] first h = h
  lookup_below test default (e ∷ entries) first h =
      let next = ord_max compare first e.1 in
      elim (test e.0) as (λ found.
      is_gt (compare (unwrap_or (cond found (Some e.1) (lookup test entries)) default)
      (walk compare next (values_of entries))) ≡ false) [
        | true ↦ walk_above e.1 next (values_of entries) (second_below first e.1)
        | false ↦ lookup_below test default entries next (upto order default first next h (first_below first e.1))
      ]

  -- it ends with the first or with a value that it met
  walk_among : (first : V) (values : List V) →
      (walk compare first values ≡ first) ⊎ Contains values (walk compare first values)
  walk_among first [] = inl refl
  walk_among first (v ∷ values) =
      elim (walk_among (ord_max compare first v) values) [
        | inl e ↦ by (is_lt (compare v first)) refl e
        | inr e ↦ inr (Contains-append_right (v ∷ []) values _ e)
      ]
    where
      by : (b : Bool) → is_lt (compare v first) ≡ b → walk compare (ord_max compare first v) values
          ≡ ord_max compare first v →
          (walk compare (ord_max compare first v) values ≡ first)
          ⊎ Contains (v ∷ values) (walk compare (ord_max compare first v) values)
      by true h e = inl (e ∙ ap (λ b. cond b first v) h)
      by false h e = inr (subst (Contains (v ∷ values)) (sym (e ∙ ap (λ b. cond b first v) h))
          (Contains-get_or (v ∷ values) 0 v (omega arith)))

  -- a walk through the places of dense storage finds the largest value of a key
  pub dense_largest : {K : Type 0} (index_of : K → ℕ) (id_at : ℕ → K) (limit : ℕ) (default : V) (items : List V) →
      ((index : ℕ) → index < limit → index_of (id_at index) ≡ index) →
      IsLargest compare default (λ (key : K). get_or (kept limit items) (index_of key) default)
      (walk compare default (kept limit items))
  dense_largest {K} index_of id_at limit default items round_trip = record {
    default_below = walk_above default default (kept limit items) (level default);
    values_below = λ key. index_below default default (kept limit items) (index_of key) (level default);
    among = elim (walk_among default (kept limit items)) [
      | inl first ↦ inl first
      | inr (index, there, is) ↦
          inr (id_at index, at index there is)
    ];
  }
    where
      at : (index : ℕ) → index < length (kept limit items) →
          get_or (kept limit items) index (walk compare default (kept limit items))
          ≡ walk compare default (kept limit items) →
          walk compare default (kept limit items) ≡ get_or (kept limit items) (index_of (id_at index)) default
      at index there is =
          let in_range : index < limit = omega (arith, length-take (min limit (2 ^ 40)) items, there) in
          sym is ∙ get_or_default (kept limit items) index (walk compare default (kept limit items)) default there
          ∙ ap (λ i. get_or (kept limit items) i default) (sym (round_trip index in_range))

  -- a walk through the entries of a table finds the largest value of a key
  pub sparse_largest : {K : Type 0} {eq : K → K → Bool} → IsEquivalence eq → (default : V) (entries : List (K × V)) →
      IsDistinct eq (keys_of entries) →
      IsLargest compare default (λ (key : K). unwrap_or (lookup (eq key) entries) default)
      (walk compare default (values_of entries))
  sparse_largest {K} {eq} laws default entries distinct = record {
    default_below = walk_above default default (values_of entries) (level default);
    values_below = λ key. lookup_below (eq key) default entries default (level default);
    among = elim (walk_among default (values_of entries)) [
      | inl first ↦ inl first
      | inr there ↦ inr (at (Contains-from_values_of entries (walk compare default (values_of entries)) there))
    ];
  }
    where
      at : ((key : K) × Contains entries (key, walk compare default (values_of entries))) →
          (key : K) × (walk compare default (values_of entries) ≡ unwrap_or (lookup (eq key) entries) default)
      at found = (
        found.0,
        sym (ap (λ value. unwrap_or value default)
            (lookup-from_Contains laws found.0 (walk compare default (values_of entries)) entries distinct found.1)),
      )
