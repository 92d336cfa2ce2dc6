-- What a table says of keys when another table of it changes.
use Rattle.std.proofs.Common.{◌≡◌, ◌≢◌, ℕ, ◌-◌, ◌^◌, List}
use Rattle.std.proofs.Common.{Option, Some, None, refl, sym, ap, subst}
use Rattle.falsified_clauses.proofs.Words.{Condition, GroupKey, IsUpdate, number_of, Parent, Rows, SameSlots}
use Rattle.falsified_clauses.proofs.Words.{SameValues, Single, slot_at, Tables, Union, VersionSetId, VersionSetUnionId}

-- the tables as one
abbrev pub tables : List (Option ℕ) → List (Option ℕ) → List (Option ℕ) → List (Option ℕ) → Tables
tables parents conditions sets unions =
    record { parents = parents; conditions = conditions; sets = sets; unions = unions }

module _ (parents conditions sets unions new : List (Option ℕ)) where
  abbrev old : GroupKey → Option ℕ
  old = number_of (tables parents conditions sets unions)

  -- ---- a table of the same numbers

  pub same_parents : SameSlots (2 ^ 31 - 1) (λ (v : ℕ). v) parents new
      → SameValues old (number_of (tables new conditions sets unions))
  same_parents same (Parent v) = same v
  same_parents same (Condition d) = refl
  same_parents same (Rows (Single s)) = refl
  same_parents same (Rows (Union u)) = refl

  pub same_conditions : SameSlots (2 ^ 32 - 1) (λ (d : ℕ). d) conditions new
      → SameValues old (number_of (tables parents new sets unions))
  same_conditions same (Parent v) = refl
  same_conditions same (Condition d) = same d
  same_conditions same (Rows (Single s)) = refl
  same_conditions same (Rows (Union u)) = refl

  pub same_sets : SameSlots (2 ^ 32) (λ (s : VersionSetId). s.0) sets new
      → SameValues old (number_of (tables parents conditions new unions))
  same_sets same (Parent v) = refl
  same_sets same (Condition d) = refl
  same_sets same (Rows (Single s)) = same s
  same_sets same (Rows (Union u)) = refl

  pub same_unions : SameSlots (2 ^ 32) (λ (u : VersionSetUnionId). u.0) unions new
      → SameValues old (number_of (tables parents conditions sets new))
  same_unions same (Parent v) = refl
  same_unions same (Condition d) = refl
  same_unions same (Rows (Single s)) = refl
  same_unions same (Rows (Union u)) = same u

  -- ---- a number more in a table

  pub put_parent : (v : ℕ) (number : Option ℕ)
      → IsUpdate (slot_at (2 ^ 31 - 1) parents) v number (slot_at (2 ^ 31 - 1) new)
      → IsUpdate old (Parent v) number (number_of (tables new conditions sets unions))
  put_parent v number put = (put.0, others)
    where
      others : (other : GroupKey) → other ≢ Parent v
          → number_of (tables new conditions sets unions) other ≡ old other
      others (Parent w) differs = put.1 w (λ e. differs (ap Parent e))
      others (Condition d) differs = refl
      others (Rows (Single s)) differs = refl
      others (Rows (Union u)) differs = refl

  pub put_condition : (d : ℕ) (number : Option ℕ)
      → IsUpdate (slot_at (2 ^ 32 - 1) conditions) d number (slot_at (2 ^ 32 - 1) new)
      → IsUpdate old (Condition d) number (number_of (tables parents new sets unions))
  put_condition d number put = (put.0, others)
    where
      others : (other : GroupKey) → other ≢ Condition d
          → number_of (tables parents new sets unions) other ≡ old other
      others (Parent w) differs = refl
      others (Condition e) differs = put.1 e (λ same. differs (ap Condition same))
      others (Rows (Single s)) differs = refl
      others (Rows (Union u)) differs = refl

  pub put_set : (s : VersionSetId) (number : Option ℕ)
      → IsUpdate (λ (t : VersionSetId). slot_at (2 ^ 32) sets t.0) s number (λ t. slot_at (2 ^ 32) new t.0)
      → IsUpdate old (Rows (Single s)) number
      (number_of (tables parents conditions new unions))
  put_set s number put = (put.0, others)
    where
      others : (other : GroupKey) → other ≢ Rows (Single s)
          → number_of (tables parents conditions new unions) other ≡ old other
      others (Parent w) differs = refl
      others (Condition e) differs = refl
      others (Rows (Single t)) differs = put.1 t (λ same. differs (ap (λ r. Rows (Single r)) same))
      others (Rows (Union u)) differs = refl

  pub put_union : (u : VersionSetUnionId) (number : Option ℕ)
      → IsUpdate (λ (t : VersionSetUnionId). slot_at (2 ^ 32) unions t.0) u number (λ t. slot_at (2 ^ 32) new t.0)
      → IsUpdate old (Rows (Union u)) number
      (number_of (tables parents conditions sets new))
  put_union u number put = (put.0, others)
    where
      others : (other : GroupKey) → other ≢ Rows (Union u)
          → number_of (tables parents conditions sets new) other ≡ old other
      others (Parent w) differs = refl
      others (Condition e) differs = refl
      others (Rows (Single s)) differs = refl
      others (Rows (Union t)) differs = put.1 t (λ same. differs (ap (λ r. Rows (Union r)) same))

-- ---- tables of no numbers

pub all_none : (parents conditions sets unions : List (Option ℕ))
    → ((v : ℕ) → slot_at (2 ^ 31 - 1) parents v ≡ None)
    → ((d : ℕ) → slot_at (2 ^ 32 - 1) conditions d ≡ None)
    → ((s : VersionSetId) → slot_at (2 ^ 32) sets s.0 ≡ None)
    → ((u : VersionSetUnionId) → slot_at (2 ^ 32) unions u.0 ≡ None)
    → (key : GroupKey) → number_of (tables parents conditions sets unions) key ≡ None
all_none parents conditions sets unions no_parent no_condition no_set no_union (Parent v) = no_parent v
all_none parents conditions sets unions no_parent no_condition no_set no_union (Condition d) = no_condition d
all_none parents conditions sets unions no_parent no_condition no_set no_union (Rows (Single s)) = no_set s
all_none parents conditions sets unions no_parent no_condition no_set no_union (Rows (Union u)) = no_union u

-- ---- the same under other names

pub put_at : (old now new : Tables) (key at : GroupKey) (slot : Option ℕ) (number : ℕ) → old ≡ now → key ≡ at
    → slot ≡ Some number → IsUpdate (number_of old) at slot (number_of new)
    → IsUpdate (number_of now) key (Some number) (number_of new)
put_at old now new key at slot number represents is holds put =
    subst (λ t. IsUpdate (number_of t) key (Some number) (number_of new)) represents
    (subst (λ k. IsUpdate (number_of old) k (Some number) (number_of new)) (sym is)
    (subst (λ s. IsUpdate (number_of old) at s (number_of new)) holds put))
