-- Whether a pool is made of itself is a proposition: a struct may carry the fact.
use Rattle.std.specs.Prelude.{ℕ}
use Rattle.std.proofs.Props.{props}
use Rattle.providers.specs.declared.condition.Condition.{Condition}
use Rattle.providers.specs.declared.condition.Condition.TheVariants.{Binary, Requirement}
use Rattle.package_pool.specs.Pool.{Lists, IsMadeBelow}

pub IsMadeBelow-prop : {N VS V : Type 0} (p : Lists N VS V) (place : ℕ) (c : Condition) → IsProp (IsMadeBelow p place c)
IsMadeBelow-prop p place (Binary operator left right) = hlevel props
IsMadeBelow-prop p place (Requirement set) = hlevel props

pub ruleset pool_props = (props, IsMadeBelow-prop)
