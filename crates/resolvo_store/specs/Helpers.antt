-- What a helper variable is to stand for is known. N are the names, S the solvables.
use Rattle.std.specs.Prelude.{Bool}
use Rattle.providers.specs.Provider.{Universe, knows_requirement}
use Rattle.resolvo_store.specs.declared.helper_origin.HelperOrigin.{HelperOrigin}
use Rattle.resolvo_store.specs.declared.helper_origin.HelperOrigin.TheVariants as Helps

-- the provider knows it
abbrev pub is_helper_known : {N S : Type 0} → Universe N S → HelperOrigin N → Bool
is_helper_known universe (Helps.AtLeastOne n) = universe.knows_name n
is_helper_known universe (Helps.ConstrainsViolation v) = universe.knows_set v
is_helper_known universe (Helps.RequiresGate r) = knows_requirement universe r
