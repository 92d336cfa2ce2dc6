-- Keys that are the root or a solvable.
use Rattle.std.specs.Prelude.{Bool, Option, None, Some}
use Rattle.typed_ids.specs.declared.solvable_id_or_root.SolvableIdOrRoot.{SolvableIdOrRoot}
use Rattle.typed_ids.specs.declared.solvable_id_or_root.SolvableIdOrRoot.TheVariants.{Root, Solvable}

-- the one answer for the root, and that of the test for a solvable
abbrev pub root_or : {S : Type 0} → Bool → (S → Bool) → SolvableIdOrRoot S → Bool
root_or at_root test Root = at_root
root_or at_root test (Solvable s) = test s

-- the solvable, or none for the root
abbrev pub solvable_of : {S : Type 0} → SolvableIdOrRoot S → Option S
solvable_of Root = None
solvable_of (Solvable s) = Some s

-- whether the set has the key, where a set is whether the root is in it and a set of solvables
abbrev pub has_key : {S T : Type 0} → (T → S → Bool) → Bool × T → SolvableIdOrRoot S → Bool
has_key has set key = root_or set.0 (has set.1) key
