-- The texts of variables, as their bytes. N are the names, S the solvables.
use Rattle.std.specs.Prelude.{ℕ, Bool, true, false, List, [], ◌∷◌, ◌++◌, codes, slice_get}
use Rattle.std.specs.Option.{option_map_or}
use Rattle.providers.specs.Provider.{Universe, knows_requirement}
use Rattle.providers.specs.Texts.{Texts, requirement_text}
use Rattle.variables.specs.declared.variable_origin.VariableOrigin.{VariableOrigin}
use Rattle.variables.specs.declared.variable_origin.VariableOrigin.TheVariants.{Root, Solvable, ForbidMultiple}
use Rattle.variables.specs.declared.variable_origin.VariableOrigin.TheVariants.{AtLeastOne, ConstrainsViolation}
use Rattle.variables.specs.declared.variable_origin.VariableOrigin.TheVariants.{RequiresGate}

module _ {N S : Type 0} (universe : Universe N S) where
  -- what the origin names is known
  abbrev pub knows_origin : VariableOrigin N S → Bool
  knows_origin Root = true
  knows_origin (Solvable s) = universe.knows_solvable s
  knows_origin (ForbidMultiple n) = universe.knows_name n
  knows_origin (AtLeastOne n) = universe.knows_name n
  knows_origin (ConstrainsViolation v) = universe.knows_set v
  knows_origin (RequiresGate r) = knows_requirement universe r

  -- the variable is one of these, and what its origin names is known
  abbrev pub knows_variable : List (VariableOrigin N S) → ℕ → Bool
  knows_variable origins v = option_map_or knows_origin (slice_get origins v) false

module _ {N S : Type 0} (universe : Universe N S) (texts : Texts N S) where
  -- of what a variable stands for
  abbrev pub origin_text : VariableOrigin N S → List ℕ
  origin_text Root = codes "root"
  origin_text (Solvable s) = texts.solvable s
  origin_text (ForbidMultiple n) = codes "forbid-multiple(" ++ (texts.name n ++ codes ")")
  origin_text (AtLeastOne n) = codes "any-of(" ++ (texts.name n ++ codes ")")
  origin_text (ConstrainsViolation v) = codes "constrains-violation(" ++
      ((texts.name (universe.set_name v) ++ 32 ∷ texts.version_set v) ++ codes ")")
  origin_text (RequiresGate r) = codes "requires-gate(" ++ (requirement_text universe texts r ++ codes ")")

  -- of a variable, which is a place in the list of origins; nothing of one that isn't there
  abbrev pub variable_text : List (VariableOrigin N S) → ℕ → List ℕ
  variable_text origins v = option_map_or origin_text (slice_get origins v) []
