-- Variables of literals, and their numbers. S are the solvables.
use Rattle.std.specs.Prelude.{ℕ, List, Option}
use Rattle.solutions.specs.declared.package_literal.PackageLiteral.{PackageLiteral}
use Rattle.solutions.specs.declared.package_literal.PackageLiteral.TheVariants.{Picked, Held}

-- for each variable the literal that it is true, and the numbers of literals' variables
pub record Numbered (S : Type 0) : Type 0 where
  pub literals : List (PackageLiteral S)
  pub number : PackageLiteral S → Option ℕ

-- by the numbers of solvables and of version sets
abbrev pub number_of : {S : Type 0} → (S → Option ℕ) → (ℕ → Option ℕ) → PackageLiteral S → Option ℕ
number_of solvables sets (Picked s value) = solvables s
number_of solvables sets (Held set value) = sets set.0

abbrev pub numbered : {S : Type 0} → List (PackageLiteral S) → (S → Option ℕ) → (ℕ → Option ℕ) → Numbered S
numbered literals solvables sets = record { literals = literals; number = number_of solvables sets }
