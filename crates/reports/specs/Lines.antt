-- Lines: reasons that say the same of several versions of a package, told together. N are the names, S the solvables.
use Rattle.std.specs.Prelude.{◌≡◌, ⊤, All, Bool, true, false, List, [], ◌∷◌, ◌++◌, map, flat_map, Option, None, Some}
use Rattle.std.specs.List.Sorted.{IsPermutation}
use Rattle.reports.specs.declared.line.Line.{Line}
use Rattle.solutions.specs.declared.reason.Reason.{Reason}
use Rattle.solutions.specs.declared.reason.Reason.TheVariants.{Needs, Lacks, Limits, Unknown, Excluded}
use Rattle.solutions.specs.declared.reason.Reason.TheVariants.{Locked, OneVersion}

-- the solvable of which a reason speaks
abbrev pub solvable_of : {N S : Type 0} → Reason N S → Option S
solvable_of (Needs solvable need) = solvable
solvable_of (Lacks solvable need) = solvable
solvable_of (Limits solvable set) = Some solvable
solvable_of (Unknown solvable string) = Some solvable
solvable_of (Excluded solvable string) = Some solvable
solvable_of (Locked solvable) = Some solvable
solvable_of (OneVersion name) = None

-- what is needed by another one; what is requested stays so
abbrev pub by : {S : Type 0} → Option S → S → Option S
by None solvable = None
by (Some first) solvable = Some solvable

-- the same, said of another solvable
abbrev pub said_of : {N S : Type 0} → Reason N S → S → Reason N S
said_of (Needs parent need) solvable = Needs (by parent solvable) need
said_of (Lacks parent need) solvable = Lacks (by parent solvable) need
said_of (Limits first set) solvable = Limits solvable set
said_of (Unknown first string) solvable = Unknown solvable string
said_of (Excluded first string) solvable = Excluded solvable string
said_of (Locked first) solvable = Locked solvable
said_of (OneVersion name) solvable = OneVersion name

-- the reasons that a line tells: its own, said of each of its versions, if it has any
abbrev pub told_of : {N S : Type 0} → Reason N S → List S → List (Reason N S)
told_of reason [] = reason ∷ []
told_of reason (version ∷ versions) = map (said_of reason) (version ∷ versions)

abbrev pub told : {N S A : Type 0} → Line N S A → List (Reason N S)
told line = told_of line.reason line.versions.items

-- the reasons that lines tell
abbrev pub told_by : {N S A : Type 0} → List (Line N S A) → List (Reason N S)
told_by lines = flat_map told lines

-- all versions of these are of one package
abbrev pub AreOfOnePackage : {N S : Type 0} → (S → N) → List S → Type 0
AreOfOnePackage name [] = ⊤
AreOfOnePackage name (first ∷ others) = All (λ version. name version ≡ name first) others

-- its versions are
abbrev pub IsOfOnePackage : {N S A : Type 0} → (S → N) → Line N S A → Type 0
IsOfOnePackage name line = AreOfOnePackage name line.versions.items

-- the lines tell the reasons, each once
pub record AreTold {N S A : Type 0} (name : S → N) (reasons : List (Reason N S)) (lines : List (Line N S A))
    : Type 0 where
  pub exactly : IsPermutation reasons (told_by lines)
  pub one_package : All (IsOfOnePackage name) lines

-- lines tell a further reason
pub record TellMore {N S A : Type 0} (name : S → N) (old new : List (Line N S A)) (reason : Reason N S) : Type 0 where
  pub exactly : IsPermutation (told_by old ++ reason ∷ []) (told_by new)
  pub one_package : All (IsOfOnePackage name) old → All (IsOfOnePackage name) new

-- a line does, if the reason joins it; else it stays
abbrev pub Joins : {N S A : Type 0} → (S → N) → Line N S A → Line N S A → Reason N S → Bool → Type 0
Joins name old new reason true =
    (told new ≡ told old ++ reason ∷ []) × (IsOfOnePackage name old → IsOfOnePackage name new)
Joins name old new reason false = new ≡ old

-- one of these lines does
abbrev pub JoinsOne : {N S A : Type 0} → (S → N) → List (Line N S A) → List (Line N S A) → Reason N S → Bool → Type 0
JoinsOne name old new reason true = TellMore name old new reason
JoinsOne name old new reason false = new ≡ old
