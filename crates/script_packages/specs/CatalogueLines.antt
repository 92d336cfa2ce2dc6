-- What the lines of a catalogue say.
use Rattle.std.specs.Prelude.{ℕ, List, [], ◌∷◌, Option, None, Some, option_map, option_and_then, if◌then◌else◌, codes}
use Rattle.std.specs.Str.{bytes_eq}
use Rattle.providers.specs.declared.condition.Condition.{Condition}
use Rattle.providers.specs.declared.condition.Condition.TheVariants.{Binary, Requirement}
use Rattle.providers.specs.declared.condition.LogicalOperator.{LogicalOperator}
use Rattle.providers.specs.declared.condition.LogicalOperator.TheVariants.{And, Or}
use Rattle.script_text.specs.Words.{words}
use Rattle.script_packages.specs.Ids.{number_32, clause_of}
use Rattle.script_text.specs.Statements.{line_says, statement_says}
use Rattle.script_text.specs.declared.statement.Line.{Line}
use Rattle.script_text.specs.declared.statement.Statement.{Statement}
use Rattle.script_text.specs.declared.statement.Line.TheVariants.{Skipped, Unreadable, Says}
use Rattle.script_packages.specs.declared.catalogue_line.CatalogueLine.{CatalogueLine}
use Rattle.script_packages.specs.declared.catalogue_line.CatalogueLine.TheVariants.{Package, Set, Union}
use Rattle.script_packages.specs.declared.catalogue_line.CatalogueLine.TheVariants.{Condition as OfCondition}
use Rattle.script_packages.specs.declared.catalogue_line.CatalogueLine.TheVariants.{String as OfString, Begin}

-- what a line says, with lists where the program has slices
pub data Said : Type 0 where
  Lists : (name : List ℕ) (versions : List (List ℕ)) → Said
  Bounds : (name : List ℕ) (low high : ℕ) → Said
  Unites : (sets : List (List ℕ)) → Said
  Conditions : (c : Condition) → Said
  Strings : (text : List ℕ) → Said
  Begins : Said

abbrev pub plain_said : CatalogueLine → Said
plain_said (Package name versions) = Lists name.now (words versions.now)
plain_said (Set name low high) = Bounds name.now low high
plain_said (Union sets) = Unites (words sets.now)
plain_said (OfCondition c) = Conditions c
plain_said (OfString text) = Strings text.now
plain_said Begin = Begins

abbrev pub plain : Option CatalogueLine → Option Said
plain None = None
plain (Some said) = Some (plain_said said)

abbrev pub plain_line : Line CatalogueLine → Line Said
plain_line Skipped = Skipped
plain_line Unreadable = Unreadable
plain_line (Says said) = Says (plain_said said)

abbrev pub package_of : List (List ℕ) → Option Said
package_of (name ∷ version ∷ versions) = Some (Lists name (version ∷ versions))
package_of _ = None

abbrev pub set_of : List (List ℕ) → Option Said
set_of (name ∷ low ∷ high ∷ []) =
    option_and_then (λ l. option_map (λ h. Bounds name l h) (number_32 high)) (number_32 low)
set_of _ = None

abbrev pub union_of : List (List ℕ) → Option Said
union_of (set ∷ sets) = Some (Unites (set ∷ sets))
union_of _ = None

-- a version set as a condition
abbrev pub set_condition : List ℕ → List ℕ → Option Condition
set_condition kind set =
    if bytes_eq kind (codes "set") then option_map (λ v. Requirement (record { 0 = v })) (number_32 set) else None

abbrev pub operator_of : List ℕ → Option LogicalOperator
operator_of kind =
    if bytes_eq kind (codes "and") then Some And else if bytes_eq kind (codes "or") then Some Or else None

-- two conditions as one
abbrev pub joined_condition : Option LogicalOperator → List ℕ → List ℕ → Option Condition
joined_condition None left right = None
joined_condition (Some operator) left right =
    option_and_then (λ l. option_map (λ r. Binary operator l r) (clause_of right)) (clause_of left)

abbrev pub condition_of : List (List ℕ) → Option Said
condition_of (kind ∷ set ∷ []) = option_map Conditions (set_condition kind set)
condition_of (kind ∷ left ∷ right ∷ []) = option_map Conditions (joined_condition (operator_of kind) left right)
condition_of _ = None

abbrev pub string_of : List (List ℕ) → Option Said
string_of (text ∷ []) = Some (Strings text)
string_of _ = None

abbrev pub begin_of : List (List ℕ) → Option Said
begin_of [] = Some Begins
begin_of _ = None

abbrev pub said_of : List ℕ → List (List ℕ) → Option Said
said_of keyword ws =
    if bytes_eq keyword (codes "package") then package_of ws
    else if bytes_eq keyword (codes "set") then set_of ws
    else if bytes_eq keyword (codes "union") then union_of ws
    else if bytes_eq keyword (codes "condition") then condition_of ws
    else if bytes_eq keyword (codes "string") then string_of ws
    else if bytes_eq keyword (codes "begin") then begin_of ws
    else None

-- the entry of a line that says this
abbrev pub entry_meant : Line Statement → Line Said
entry_meant said = statement_says said_of said

-- what a line up to `begin` says
abbrev pub catalogue_line_of : List ℕ → Line Said
catalogue_line_of line = line_says said_of line
