-- What the ids of a pool stand for, in the words of an index. Names are their bytes.
use Rattle.std.specs.Prelude.{◌≡◌, ℕ, suc, List, [], ◌∷◌, ◌++◌, Option, None, Some, slice_get, option_map}
use Rattle.std.specs.Prelude.{if◌then◌else◌}
use Rattle.std.specs.List.{AllZip}
use Rattle.std.specs.Str.{bytes_eq}
use Rattle.index_text.specs.Entries.{EntryText, NeedText, Needs, Limits}
use Rattle.index_text.specs.Lines.{VersionIs, Offered, Excluded, Unknown}
use Rattle.index_text.specs.Sets.{SetText}
use Rattle.resolvo_ids.specs.Types.VersionSetId.{VersionSetId}
use Rattle.resolvo_pool.specs.Conditions.{Formula, Leaf, joined, normal_form}
use Rattle.resolvo_pool.specs.Dependencies.{Needs as Dependencies, Known, Unknown as Untold}
use Rattle.resolvo_pool.specs.Pool.{Lists}
use Rattle.resolvo_pool.specs.Types.Condition.TheVariants as Cond
use Rattle.resolvo_pool.specs.Types.ConditionalRequirement.{ConditionalRequirement}
use Rattle.resolvo_pool.specs.Types.KnownDependencies.{KnownDependencies}
use Rattle.resolvo_pool.specs.Types.LogicalOperator.{LogicalOperator}
use Rattle.resolvo_pool.specs.Types.Requirement.{Requirement}
use Rattle.resolvo_pool.specs.Types.Requirement.TheVariants.{Single, Union}
use Rattle.example_index.specs.declared.range.VersionRange.{VersionRange}

-- the needs among entries, in their order
abbrev pub needs_in : List EntryText → List NeedText
needs_in [] = []
needs_in (Needs need ∷ entries) = need ∷ needs_in entries
needs_in (_ ∷ entries) = needs_in entries

-- the sets that entries limit to, in their order
abbrev pub limits_in : List EntryText → List SetText
limits_in [] = []
limits_in (Limits set ∷ entries) = set ∷ limits_in entries
limits_in (_ ∷ entries) = limits_in entries

-- the first place of a text in a list
abbrev pub first_place : List ℕ → List (List ℕ) → Option ℕ
first_place text [] = None
first_place text (x ∷ xs) = if bytes_eq text x then Some 0 else option_map suc (first_place text xs)

-- one element more, which is so
abbrev pub IsPushed : {X : Type 0} → List X → List X → (X → Type 0) → Type 0
IsPushed {X} old new IsSo = (x : X) × (new ≡ old ++ x ∷ []) × IsSo x

module _ (pool : Lists (List ℕ) VersionRange ℕ) where
  -- the id of this name: each name has one
  abbrev pub IsNamed : ℕ → List ℕ → Type 0
  IsNamed name text = first_place text pool.names ≡ Some name

  pub record IsSet (v : VersionSetId) (set : SetText) : Type 0 where
    pub name : ℕ
    pub named : IsNamed name set.name
    pub is : slice_get pool.version_sets v.0 ≡ Some (name, record { low = set.low; high = set.high })

  -- its version sets are these, in their order
  abbrev pub IsUnion : Requirement → List SetText → Type 0
  IsUnion (Single v) sets = AllZip IsSet (v ∷ []) sets
  IsUnion (Union u) sets = (ids : List VersionSetId) × (slice_get pool.unions u.0 ≡ Some ids) × AllZip IsSet ids sets

  -- what a condition says, written out
  pub data Says : ℕ → Formula → Type 0 where
    leaf : {i : ℕ} (set : VersionSetId) → slice_get pool.conditions i ≡ Some (Cond.Requirement set) → Says i (Leaf set)
    binary : {i : ℕ} (o : LogicalOperator) (left right : ℕ) (f g : Formula)
        → slice_get pool.conditions i ≡ Some (Cond.Binary o left right) → Says left f → Says right g → Says i
        (joined o f g)

  -- all sets of one of these lists hold: its normal form is these lists
  abbrev pub IsCondition : ℕ → List (List SetText) → Type 0
  IsCondition condition lists = (f : Formula) × Says condition f × AllZip (AllZip IsSet) (normal_form f) lists

  -- no list: there is no condition
  abbrev pub IsConditionOr : Option ℕ → List (List SetText) → Type 0
  IsConditionOr None lists = lists ≡ []
  IsConditionOr (Some condition) lists = IsCondition condition lists

  pub record IsNeed (conditional : ConditionalRequirement) (need : NeedText) : Type 0 where
    pub union : IsUnion conditional.requirement need.union
    pub condition : IsConditionOr conditional.condition need.condition

  -- what entries need and limit, in their order
  abbrev pub AreEntries : {A : Type 0} → KnownDependencies A → List EntryText → Type 0
  AreEntries known entries =
      AllZip IsNeed known.requirements.items (needs_in entries) × AllZip IsSet known.constrains.items
      (limits_in entries)

  -- what is needed of a version; nothing of one that is excluded
  abbrev pub AreNeeds : Dependencies → VersionIs → Type 0
  AreNeeds (Known requirements constrains) (Offered entries) =
      AllZip IsNeed requirements (needs_in entries) × AllZip IsSet constrains (limits_in entries)
  AreNeeds (Known requirements constrains) (Excluded reason) = (requirements ≡ []) × (constrains ≡ [])
  AreNeeds (Known requirements constrains) (Unknown reason) = ⊥
  AreNeeds (Untold string) (Unknown reason) = slice_get pool.strings string.0 ≡ Some reason
  AreNeeds (Untold string) _ = ⊥
