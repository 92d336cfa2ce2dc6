-- Where lists are kept: what later states and lists of places show.
use Rattle.std.proofs.Common.{◌≡◌, ℕ, ◌<◌, Bool, List, [], ◌∷◌, ◌++◌, length, map, slice_get, Some, drop, ◌∙◌, ap}
use Rattle.std.proofs.Common.{refl, sym, arith}
use Rattle.std.proofs.lemmas.List.{map-append, take-append-drop, get_or_append_left, length-append}
use Rattle.std.proofs.lemmas.Option.{slice_get_within, slice_get-get_or, get_or_from_slice_get}
use Rattle.solver_cache.proofs.Words.{AreListed, BeginsWith, Cache, flat_map, IsLater, listed, ListKind, Matching}
use Rattle.solver_cache.proofs.Words.{NonMatching, Provider, Sorted, sorted_of_set, unwrap_or, values_of, VersionSetId}
use Rattle.solver_cache.specs.Cache.{list_at}

-- what stands in a list stands there with others behind it
stays : {X : Type 0} (xs ys : List X) (i : ℕ) (x : X) → slice_get xs i ≡ Some x → slice_get (xs ++ ys) i ≡ Some x
stays xs ys i x at =
    let within : i < length xs = slice_get_within xs i x at in
    let longer : i < length (xs ++ ys) = (let size = length-append xs ys in omega (arith, size)) in
    slice_get-get_or (xs ++ ys) i x longer ∙ ap Some (get_or_append_left xs ys x i within
    ∙ get_or_from_slice_get xs i x x at)

-- what is kept at a place stays there
value_later : {K V : Type 0} (es fs : List (K × V)) (place : ℕ) (value : V) → BeginsWith es fs
    → slice_get (values_of es) place ≡ Some value → slice_get (values_of fs) place ≡ Some value
value_later {K} {V} es fs place value begins at =
    let more : List (K × V) = drop (length es) fs in
    let parts : fs ≡ es ++ more = sym (take-append-drop (length es) fs) ∙ ap (λ l. l ++ more) begins in
    ap (λ l. slice_get (values_of l) place) parts ∙ ap (λ l. slice_get l place) (map-append (λ e. e.1) es more)
    ∙ stays (values_of es) (values_of more) place value at

module _ {D N S A H : Type 0} (has : H → S → Bool) where
  pub list_later : (c d : Cache D N S A H) (id : ListKind × ℕ) (list : List S) → IsLater has c d →
      list_at c id ≡ Some list → list_at d id ≡ Some list
  list_later c d (Matching, place) list later at = value_later c.matching d.matching place list later.matching at
  list_later c d (NonMatching, place) list later at =
      value_later c.non_matching d.non_matching place list later.non_matching at
  list_later c d (Sorted, place) list later at = value_later c.sorted d.sorted place list later.sorted at

  module _ (p : Provider N S) where
    -- one list more, in a later state
    pub listed_push : (c d : Cache D N S A H) (ids : List (ListKind × ℕ)) (vs : List VersionSetId) (id : ListKind
        × ℕ) (v : VersionSetId) → IsLater has c d
        → AreListed p c ids vs → list_at d id ≡ Some (sorted_of_set p v) → AreListed p d (ids ++ id ∷ []) (vs ++ v ∷ [])
    listed_push c d [] [] id v later are at = ap (λ o. o ∷ []) at
    listed_push c d [] (w ∷ vs) id v later are at = (let no : ⊥ = cc in absurd no)
    listed_push c d (i ∷ ids) [] id v later are at = (let no : ⊥ = cc in absurd no)
    listed_push c d (i ∷ ids) (w ∷ vs) id v later are at =
        let first : list_at c i ≡ Some (sorted_of_set p w) = cc in
        let others : map (list_at c) ids ≡ map (λ u. Some (sorted_of_set p u)) vs = cc in
        ap (λ o. o ∷ map (list_at d) (ids ++ id ∷ [])) (list_later c d i (sorted_of_set p w) later first)
        ∙ ap (λ os. Some (sorted_of_set p w) ∷ os) (listed_push c d ids vs id v later others at)

module _ {D N S A H : Type 0} (p : Provider N S) (c : Cache D N S A H) where
  -- one after the other they are the candidates of the version sets
  pub listed_joined : (ids : List (ListKind × ℕ)) (vs : List VersionSetId) → AreListed p c ids vs
      → flat_map (listed c) ids ≡ flat_map (sorted_of_set p) vs
  listed_joined [] [] are = refl
  listed_joined [] (w ∷ vs) are = (let no : ⊥ = cc in absurd no)
  listed_joined (i ∷ ids) [] are = (let no : ⊥ = cc in absurd no)
  listed_joined (i ∷ ids) (w ∷ vs) are =
      let first : list_at c i ≡ Some (sorted_of_set p w) = cc in
      let others : map (list_at c) ids ≡ map (λ u. Some (sorted_of_set p u)) vs = cc in
      ap (λ o. unwrap_or o [] ++ flat_map (listed c) ids) first
      ∙ ap (λ l. sorted_of_set p w ++ l) (listed_joined ids vs others)

  -- what is made of each list is made of the candidates of its version set
  pub listed_mapped : {X : Type 0} (ids : List (ListKind × ℕ)) (vs : List VersionSetId) (f : List S → X) →
      AreListed p c ids vs
      → map (λ id. f (listed c id)) ids ≡ map (λ v. f (sorted_of_set p v)) vs
  listed_mapped [] [] f are = refl
  listed_mapped [] (w ∷ vs) f are = (let no : ⊥ = cc in absurd no)
  listed_mapped (i ∷ ids) [] f are = (let no : ⊥ = cc in absurd no)
  listed_mapped (i ∷ ids) (w ∷ vs) f are =
      let first : list_at c i ≡ Some (sorted_of_set p w) = cc in
      let others : map (list_at c) ids ≡ map (λ u. Some (sorted_of_set p u)) vs = cc in
      ap (λ o. f (unwrap_or o []) ∷ map (λ id. f (listed c id)) ids) first
      ∙ ap (λ l. f (sorted_of_set p w) ∷ l) (listed_mapped ids vs f others)
