-- How what a variable stands for is stored: the record's kind also tells the kind of requirement.
use Rattle.std.specs.Prelude.{◌≡◌, refl}
use Rattle.providers.specs.declared.requirement.Requirement.TheVariants.{Single, Union}
use Rattle.variables.specs.declared.stored_origin.OriginRecord.{OriginRecord}
use Rattle.variables.specs.declared.stored_origin.OriginRecord.TheVariants as Rec
use Rattle.variables.specs.declared.variable_origin.VariableOrigin.{VariableOrigin}
use Rattle.variables.specs.declared.variable_origin.VariableOrigin.TheVariants as Is

module _ {N S : Type 0} where
  -- what the variable of a record stands for
  abbrev pub recorded_origin : OriginRecord N S → VariableOrigin N S
  recorded_origin Rec.Root = Is.Root
  recorded_origin (Rec.Solvable s) = Is.Solvable s
  recorded_origin (Rec.ForbidMultiple n) = Is.ForbidMultiple n
  recorded_origin (Rec.AtLeastOne n) = Is.AtLeastOne n
  recorded_origin (Rec.ConstrainsViolation v) = Is.ConstrainsViolation v
  recorded_origin (Rec.SetGate v) = Is.RequiresGate (Single v)
  recorded_origin (Rec.UnionGate u) = Is.RequiresGate (Union u)

  -- the record of what a variable stands for
  abbrev pub record_for : VariableOrigin N S → OriginRecord N S
  record_for Is.Root = Rec.Root
  record_for (Is.Solvable s) = Rec.Solvable s
  record_for (Is.ForbidMultiple n) = Rec.ForbidMultiple n
  record_for (Is.AtLeastOne n) = Rec.AtLeastOne n
  record_for (Is.ConstrainsViolation v) = Rec.ConstrainsViolation v
  record_for (Is.RequiresGate (Single v)) = Rec.SetGate v
  record_for (Is.RequiresGate (Union u)) = Rec.UnionGate u

  -- a record comes back
  pub record_comes_back : (r : OriginRecord N S) → record_for (recorded_origin r) ≡ r
  record_comes_back Rec.Root = refl
  record_comes_back (Rec.Solvable s) = refl
  record_comes_back (Rec.ForbidMultiple n) = refl
  record_comes_back (Rec.AtLeastOne n) = refl
  record_comes_back (Rec.ConstrainsViolation v) = refl
  record_comes_back (Rec.SetGate v) = refl
  record_comes_back (Rec.UnionGate u) = refl
