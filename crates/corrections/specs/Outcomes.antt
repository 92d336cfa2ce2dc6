-- What an outcome of the search says.
use Rattle.std.specs.Prelude.{Bool, List, ⊤}
use Rattle.std.specs.declared.vec.Vec.{Vec}
use Rattle.corrections.specs.declared.correcting.Correction.{Correction}
use Rattle.corrections.specs.declared.correcting.Level.{Level}
use Rattle.corrections.specs.declared.correcting.Level.TheVariants as L
use Rattle.corrections.specs.declared.correcting.Tried.{Tried}
use Rattle.corrections.specs.declared.correcting.Tried.TheVariants as T

-- if there is a solution, it has this
abbrev pub IfSolved : {S A : Type 0} → (Vec S A → Type 0) → Tried S A → Type 0
IfSolved Has (T.Solved solvables) = Has solvables
IfSolved Has (T.Conflict conflict) = ⊤
IfSolved Has T.Unknown = ⊤

-- if there is a conflict, it has this
abbrev pub IfConflict : {S A : Type 0} → (Vec Bool A → Type 0) → Tried S A → Type 0
IfConflict Has (T.Solved solvables) = ⊤
IfConflict Has (T.Conflict conflict) = Has conflict
IfConflict Has T.Unknown = ⊤

-- if the level has a correction, it has this
abbrev pub IfFound : {S A : Type 0} → (Correction S A → Type 0) → Level S A → Type 0
IfFound Has (L.Found correction) = Has correction
IfFound Has (L.Next sets) = ⊤
IfFound Has L.Unknown = ⊤

-- if there is a next level, its sets have this
abbrev pub IfNext : {S A : Type 0} → (List (Vec Bool A) → Type 0) → Level S A → Type 0
IfNext Has (L.Found correction) = ⊤
IfNext Has (L.Next sets) = Has sets.items
IfNext Has L.Unknown = ⊤
