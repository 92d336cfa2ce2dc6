-- What a pool keeps: six lists. N are the names, VS the version sets, V what they hold. An id is a place in its list.
use Rattle.std.specs.Prelude.{◌≡◌, ◌<◌, ◌≤◌, ◌^◌, ◌-◌, ℕ, Bool, true, false, ◌==◌, ◌&&◌}
use Rattle.std.specs.Prelude.{List, [], ◌∷◌, ◌++◌, length, slice_get, All, Some, bytes_eq}
use Rattle.typed_ids.specs.declared.version_set_id.VersionSetId.{VersionSetId}
use Rattle.providers.specs.declared.condition.Condition.{Condition}
use Rattle.providers.specs.declared.condition.Condition.TheVariants.{Binary, Requirement}
use Rattle.providers.specs.declared.condition.LogicalOperator.{LogicalOperator}
use Rattle.providers.specs.declared.condition.LogicalOperator.TheVariants.{And, Or}
use Rattle.package_pool.specs.declared.solvable.Solvable.{Solvable}
use Rattle.package_pool.specs.Interned.{interned}

pub record Lists (N VS V : Type 0) : Type 0 where
  -- texts, as their bytes
  pub strings : List (List ℕ)
  pub names : List N
  pub solvables : List (Solvable V)
  -- each with its package's name
  pub version_sets : List (ℕ × VS)
  pub unions : List (List VersionSetId)
  pub conditions : List Condition

-- each value meets P with its place
abbrev pub Placed : {X : Type 0} → (ℕ → X → Type 0) → List X → Type 0
Placed {X} P list = (place : ℕ) (x : X) → slice_get list place ≡ Some x → P place x

-- a pool without anything in it
abbrev pub nothing : {N VS V : Type 0} → Lists N VS V
nothing = record { strings = []; names = []; solvables = []; version_sets = []; unions = []; conditions = [] }

-- what was there, and perhaps more behind it
abbrev pub IsExtended : {X : Type 0} → List X → List X → Type 0
IsExtended {X} old new = (more : List X) × (new ≡ old ++ more)

-- the second pool is the first one later on
pub record IsLater {N VS V : Type 0} (p q : Lists N VS V) : Type 0 where
  pub strings : IsExtended p.strings q.strings
  pub names : IsExtended p.names q.names
  pub solvables : IsExtended p.solvables q.solvables
  pub version_sets : IsExtended p.version_sets q.version_sets
  pub unions : IsExtended p.unions q.unions
  pub conditions : IsExtended p.conditions q.conditions

-- a set of one package is another set of another one
abbrev pub same_set : {VS : Type 0} → (VS → VS → Bool) → ℕ × VS → ℕ × VS → Bool
same_set same a b = (a.0 == b.0) && same a.1 b.1

abbrev pub same_operator : LogicalOperator → LogicalOperator → Bool
same_operator And And = true
same_operator Or Or = true
same_operator And Or = false
same_operator Or And = false

-- conditions are the same where they are made of the same, in the same order
abbrev pub same_condition : Condition → Condition → Bool
same_condition (Requirement v) (Requirement w) = v.0 == w.0
same_condition (Binary o a b) (Binary p c d) = same_operator o p && ((a == c) && (b == d))
same_condition (Requirement v) (Binary p c d) = false
same_condition (Binary o a b) (Requirement w) = false

module _ {N VS V : Type 0} (p : Lists N VS V) where
  -- ---- the lists with one more entry
  abbrev pub with_string : List ℕ → Lists N VS V
  with_string text = record p { strings = interned bytes_eq p.strings text }

  abbrev pub with_name : (N → N → Bool) → N → Lists N VS V
  with_name same name = record p { names = interned same p.names name }

  abbrev pub with_solvable : Solvable V → Lists N VS V
  with_solvable solvable = record p { solvables = p.solvables ++ solvable ∷ [] }

  abbrev pub with_version_set : (VS → VS → Bool) → ℕ → VS → Lists N VS V
  with_version_set same name set = record p { version_sets = interned (same_set same) p.version_sets (name, set) }

  abbrev pub with_union : List VersionSetId → Lists N VS V
  with_union sets = record p { unions = p.unions ++ sets ∷ [] }

  abbrev pub with_condition : Condition → Lists N VS V
  with_condition condition = record p { conditions = interned same_condition p.conditions condition }

  -- no list is longer than its ids reach
  pub record FitsIds : Type 0 where
    pub strings : length p.strings ≤ 2 ^ 32
    pub names : length p.names ≤ 2 ^ 32
    pub solvables : length p.solvables ≤ 2 ^ 32
    pub version_sets : length p.version_sets ≤ 2 ^ 32
    pub unions : length p.unions ≤ 2 ^ 32
    pub conditions : length p.conditions ≤ 2 ^ 32 - 1

  -- ---- what is in the pool is made of what is in it
  -- of conditions below this place, or of a version set
  abbrev pub IsMadeBelow : ℕ → Condition → Type 0
  IsMadeBelow place (Binary operator left right) = (left < place) × (right < place)
  IsMadeBelow place (Requirement set) = set.0 < length p.version_sets

  abbrev pub AreSetsHere : List VersionSetId → Type 0
  AreSetsHere sets = All (λ v. v.0 < length p.version_sets) sets

  pub record IsOfItself : Type 0 where
    -- the names of solvables and of version sets
    pub solvables : Placed (λ _ solvable. solvable.name < length p.names) p.solvables
    pub version_sets : Placed (λ _ set. set.0 < length p.names) p.version_sets
    -- the sets of unions
    pub unions : Placed (λ _ sets. AreSetsHere sets) p.unions
    -- each condition is made of earlier ones
    pub conditions : Placed IsMadeBelow p.conditions

  pub record IsSound : Type 0 where
    pub fits : FitsIds
    pub own : IsOfItself
