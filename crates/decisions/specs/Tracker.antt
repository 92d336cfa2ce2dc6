-- How a decision tracker keeps its entries: the decisions in order, and a map with their values and levels.
use Rattle.std.specs.Prelude.{◌≡◌, ℕ, Bool, List, map, Option}
use Rattle.decisions.specs.Decisions.{values_in, level_in}
use Rattle.decisions.specs.Trail.{Entry, val, IsTrail}
use Rattle.decisions.specs.declared.decision.Decision.{Decision}

-- each decision with the level that the map has of its variable
abbrev pub entries_of : List (Option (Bool × ℕ)) → List Decision → List Entry
entries_of decisions ds = map (λ d. record { decision = d; level = level_in decisions d.variable }) ds

-- the map has the values of the entries
pub record IsTracked (decisions : List (Option (Bool × ℕ))) (ds : List Decision) : Type 0 where
  pub values : (x : ℕ) → values_in decisions x ≡ val (entries_of decisions ds) x
  pub trail : IsTrail (entries_of decisions ds)
