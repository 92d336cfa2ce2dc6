-- Why solvables are needed.
use Rattle.std.proofs.Common.{◌≡◌, ◌∙◌, ℕ, ◌<◌, ◌≤◌, Bool, true, false, ◌&&◌, List, length, map, take, drop, get_or}
use Rattle.std.proofs.Common.{ap, refl, sym, subst, true≢false}
use Rattle.std.proofs.Common.{◌+◌, arith}
use mathlib.Core.Logic.{⊎_elim}
use Rattle.std.proofs.lemmas.Bool.{cases_lt}
use Rattle.std.proofs.lemmas.List.{take-append-drop, take_all}
use Rattle.std.proofs.lemmas.List.Elements.{Contains-append_left, Contains-get_or}
use Rattle.std.proofs.lemmas.List.Folds.{Any-from_list_any}
use Rattle.std.proofs.lemmas.Option.{get_or_from_slice_get, slice_get-map, slice_get_within}
use Rattle.std.specs.Prelude.{Some, slice_get}
use Rattle.solutions.proofs.Words.{All, Alternative, alternatives_of, Any, AreCaused, Cause, ConditionalRequirement}
use Rattle.solutions.proofs.Words.{Contains, Decides, is_among, IsCausedBy, IsNeeded, IsWishedAt, list_any, Offers}
use Rattle.solutions.proofs.Words.{option_map, Provider, Requested, requested, Required, required, Wish, Wished, wished}
use Rattle.solutions.proofs.DecisionLemmas.{decides_false, decides_true}

module _ {X : Type 0} (P : X → Type 0) (xs : List X) (i : ℕ) where
  -- the next one passes
  pub next_passes : (x : X) → i < length xs → x ≡ get_or xs i x → P x → Decides true (Any P xs)
  next_passes x below is holds = decides_true (i, x, below, sym is, holds)

  -- none of all that were visited passes
  pub none_passes : length xs ≤ i → All (λ x. P x → ⊥) (take i xs) → Decides false (Any P xs)
  none_passes end none =
      decides_false (λ any. subst (All (λ x. P x → ⊥)) (take_all i xs end) none any.0 any.1 any.2
      (subst P (sym any.3) any.4))

both_true : (b c : Bool) → (b && c) ≡ true → (b ≡ true) × (c ≡ true)
both_true true c h = (refl, h)
both_true false c h = absurd (true≢false (sym h))

module _ {S : Type 0} (same : S → S → Bool) (equal : (s t : S) → same s t ≡ true → s ≡ t) where
  -- a list that has the alternative that a solvable is picked
  pub has_picked : (list : List (Alternative S)) (solvable : S) →
      list_any (λ a. a.is_picked && same a.solvable solvable) list ≡ true
      → Contains list (record { solvable = solvable; is_picked = true })
  has_picked list solvable found =
      let any = Any-from_list_any (λ a. a.is_picked && same a.solvable solvable) list found in
      let k = any.0 in
      let a = any.1 in
      let both = both_true a.is_picked (same a.solvable solvable) any.4 in
      let Made : S → Bool → Alternative S = λ s b. record { solvable = s; is_picked = b } in
      let is : a ≡ Made solvable true = ap (λ s. Made s a.is_picked) (equal a.solvable solvable both.1)
      ∙ ap (Made solvable) both.0 in
      subst (Contains list) (any.3 ∙ is) (Contains-get_or list k a any.2)

-- the wish at a place has it
pub wished_at : {S A : Type 0} (wishes : List (Wish S A)) (solvable : S) (i : ℕ) (wish : Wish S A) →
    slice_get wishes i ≡ Some wish
    → Contains wish.alternatives.items (record { solvable = solvable; is_picked = true }) →
    IsWishedAt (alternatives_of wishes) i solvable
wished_at {S} {A} wishes solvable i wish at has =
    let lists = λ (w : Wish S A). w.alternatives.items in
    (lists wish, slice_get-map lists wishes i ∙ ap (option_map lists) at, has)

-- what the one at a place passes
any_at : {X : Type 0} (P : X → Type 0) (xs : List X) (i : ℕ) (x : X) → slice_get xs i ≡ Some x → P x → Any P xs
any_at P xs i x at holds = (i, x, slice_get_within xs i x at, get_or_from_slice_get xs i x x at, holds)

-- what has a cause is needed, where those before it are
pub needed_by : {N S : Type 0} (p : Provider N S) (requirements : List ConditionalRequirement)
    (wishes : List (List (Alternative S)))
    (picked : List S) (place : ℕ) → All (IsNeeded p requirements wishes picked) (take place picked) →
    (cause : Cause) (solvable : S)
    → IsCausedBy p (is_among p picked) requirements wishes (take place picked) cause solvable →
    IsNeeded p requirements wishes picked solvable
needed_by p requirements wishes picked place before (Requested k) solvable is =
    requested solvable (any_at (Offers p (is_among p picked) solvable) requirements k is.0 is.1 is.2)
needed_by p requirements wishes picked place before (Wished k) solvable is =
    wished solvable (any_at (λ wish. Contains wish (record { solvable = solvable; is_picked = true })) wishes k is.0
    is.1 is.2)
needed_by p requirements wishes picked place before (Required k) solvable is =
    let parent = is.0 in
    let within = slice_get_within (take place picked) k parent is.1 in
    let at : get_or (take place picked) k parent ≡ parent =
    get_or_from_slice_get (take place picked) k parent parent is.1 in
    let among : Contains picked parent =
    subst (λ list. Contains list parent) (take-append-drop place picked)
    (Contains-append_left (take place picked) (drop place picked) parent (k, within, at)) in
    let needed : IsNeeded p requirements wishes picked parent =
    subst (IsNeeded p requirements wishes picked) at (before k parent within) in
    required solvable parent among needed is.2

module _ {N S : Type 0} (p : Provider N S) (requirements : List ConditionalRequirement)
    (wishes : List (List (Alternative S))) (picked : List S)
    (causes : List Cause) where
  -- the one at this place has its cause
  abbrev pub IsCausedAt : ℕ → S → Type 0
  IsCausedAt place solvable = (cause : Cause) × (slice_get causes place ≡ Some cause) ×
      IsCausedBy p (is_among p picked) requirements wishes (take place picked) cause solvable

  -- those before this place have theirs
  abbrev pub AreCausedBefore : ℕ → Type 0
  AreCausedBefore count = (place : ℕ) (solvable : S) → place < count → slice_get picked place ≡ Some solvable →
      IsCausedAt place solvable

  -- one more of them
  pub caused_next : (i : ℕ) (x : S) → slice_get picked i ≡ Some x → IsCausedAt i x → AreCausedBefore i →
      AreCausedBefore (i + 1)
  caused_next i x at is before place y less got = ⊎_elim
      (λ under. before place y under got)
      (λ over.
      let here : i ≡ place = omega arith in
      let same : x ≡ y = sym (get_or_from_slice_get picked i x x at) ∙ ap (λ k. get_or picked k x) here
      ∙ get_or_from_slice_get picked place y x got in
      subst (λ k. IsCausedAt k y) here (subst (IsCausedAt i) same is))
      (cases_lt place i)

  -- all of them have
  pub caused_all : (i : ℕ) → length picked ≤ i → AreCausedBefore i → AreCaused p requirements wishes picked causes
  caused_all i end before place y got =
      let within = slice_get_within picked place y got in
      before place y (omega arith) got
