-- A pool later on has what it had.
use Rattle.std.proofs.Common.{◌<◌, ◌≤◌, ℕ, List, length, arith, length-append}
use Rattle.std.proofs.lemmas.List.Elements.{All-weaker}
use Rattle.typed_ids.specs.declared.version_set_id.VersionSetId.{VersionSetId}
use Rattle.providers.specs.declared.condition.Condition.{Condition}
use Rattle.providers.specs.declared.condition.Condition.TheVariants.{Binary, Requirement}
use Rattle.package_pool.specs.Pool.{Lists, IsExtended, IsLater, IsMadeBelow, AreSetsHere}

pub extended_length : {X : Type 0} (old new : List X) → IsExtended old new → length old ≤ length new
extended_length old new h = rw h.1 (omega (arith, length-append old h.0))

-- what could come into a pool can come into it later on
module _ {N VS V : Type 0} (p q : Lists N VS V) (later : IsLater p q) where
  pub name_still : (name : ℕ) → name < length p.names → name < length q.names
  name_still name h = omega (arith, extended_length p.names q.names later.names)

  pub sets_still : (sets : List VersionSetId) → AreSetsHere p sets → AreSetsHere q sets
  sets_still sets h =
      All-weaker (λ v. v.0 < length p.version_sets) (λ v. v.0 < length q.version_sets)
      (λ v here. omega (arith, here, extended_length p.version_sets q.version_sets later.version_sets)) sets h

  pub operands_still : (c : Condition) → IsMadeBelow p (length p.conditions) c → IsMadeBelow q (length q.conditions) c
  operands_still (Binary operator left right) h =
      let more = extended_length p.conditions q.conditions later.conditions in
      (omega (arith, h.0, more), omega (arith, h.1, more))
  operands_still (Requirement set) h =
      omega (arith, h, extended_length p.version_sets q.version_sets later.version_sets)
