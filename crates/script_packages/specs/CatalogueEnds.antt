-- Where the catalogue of a script ends, and what it lists by then.
use Rattle.std.specs.Prelude.{◌≡◌, ℕ, ◌+◌, List, [], ◌∷◌, ◌⊎◌, Option, None, Some, ⊤}
use Rattle.std.specs.Prelude.{Bool, true, false, Result, Ok, Err}
use Rattle.script_text.specs.declared.fault.LineFault.{LineFault}
use Rattle.script_text.specs.declared.fault.LineFault.TheVariants as OfLine
use Rattle.script_text.specs.declared.fault.ScriptFault.{ScriptFault}
use Rattle.script_text.specs.declared.fault.ScriptFault.TheVariants as OfScript
use Rattle.script_packages.specs.declared.packages.Packages.{Packages}
use Rattle.script_text.specs.declared.statement.Line.{Line}
use Rattle.script_text.specs.declared.statement.Line.TheVariants.{Skipped, Unreadable, Says}
use Rattle.script_packages.specs.CatalogueLines.{Said, Lists, Bounds, Unites, Conditions}
use Rattle.script_packages.specs.CatalogueLines.{Strings, Begins, catalogue_line_of}
use Rattle.script_packages.specs.Catalogues.{listed, AreListed, CanBeListed}
use Rattle.script_packages.specs.Listing.{Listing, nothing_listed}

-- what a line does: the catalogue goes on with this listing, its end is here, or the line is unreadable
pub data LineEffect : Type 0 where
  GoesOn : (l : Listing) → LineEffect
  Ends : LineEffect
  Faulty : LineEffect

abbrev pub goes_on : Option Listing → LineEffect
goes_on None = Faulty
goes_on (Some l) = GoesOn l

abbrev pub effect_of : Listing → Line Said → LineEffect
effect_of l Skipped = GoesOn l
effect_of l Unreadable = Faulty
effect_of l (Says Begins) = Ends
effect_of l (Says (Lists name versions)) = goes_on (listed l (Lists name versions))
effect_of l (Says (Bounds name low high)) = goes_on (listed l (Bounds name low high))
effect_of l (Says (Unites sets)) = goes_on (listed l (Unites sets))
effect_of l (Says (Conditions c)) = goes_on (listed l (Conditions c))
effect_of l (Says (Strings text)) = goes_on (listed l (Strings text))

-- a fact for what a line does
abbrev pub OnEffect : LineEffect → (Listing → Type 0) → Type 0 → Type 0 → Type 0
OnEffect (GoesOn l) P ends faulty = P l
OnEffect Ends P ends faulty = ends
OnEffect Faulty P ends faulty = faulty

-- after this listing no line begins the commands, and none is unreadable
abbrev pub NeverBegins : Listing → List (List ℕ) → Type 0
NeverBegins l [] = ⊤
NeverBegins l (line ∷ lines) = OnEffect (effect_of l (catalogue_line_of line)) (λ more. NeverBegins more lines) ⊥ ⊥

-- of lines after this listing, with n lines before them, the first `begin` is the line of the number `before`; the
-- packages are those that are listed by then, and the commands are in `left`
abbrev pub CommandsBegin : Listing → ℕ → List (List ℕ) → ℕ → List (List ℕ) → Packages → Type 0
CommandsBegin l n [] before left packages = ⊥
CommandsBegin l n (line ∷ lines) before left packages =
    OnEffect (effect_of l (catalogue_line_of line)) (λ more. CommandsBegin more (n + 1) lines before left packages)
    ((before ≡ n + 1) × (left ≡ lines) × AreListed packages l) ⊥

-- of lines after this listing, with n lines before them, that of this number is the first unreadable one, and no line
-- before it begins the commands
abbrev pub FaultyAt : Listing → ℕ → List (List ℕ) → ℕ → Type 0
FaultyAt l n [] number = ⊥
FaultyAt l n (line ∷ lines) number =
    OnEffect (effect_of l (catalogue_line_of line)) (λ more. FaultyAt more (n + 1) lines number) ⊥ (number ≡ n + 1)

-- a line says something that can be listed
abbrev pub SaysEntry : Listing → Line Said → Type 0
SaysEntry l (Says said) = CanBeListed l said
SaysEntry l _ = ⊥

-- of lines after this listing one says something that can be listed, and all before it go on
abbrev pub NeedMemory : Listing → List (List ℕ) → Type 0
NeedMemory l [] = ⊥
NeedMemory l (line ∷ lines) = SaysEntry l (catalogue_line_of line)
    ⊎ OnEffect (effect_of l (catalogue_line_of line)) (λ more. NeedMemory more lines) ⊥ ⊥

-- the fault of a catalogue
abbrev pub CatalogueFault : List (List ℕ) → ScriptFault → Type 0
CatalogueFault lines (OfScript.Unreadable number) = FaultyAt nothing_listed 0 lines number
CatalogueFault lines OfScript.Device = ⊥
CatalogueFault lines OfScript.Memory = NeedMemory nothing_listed lines

-- a line that does this is listed; or it begins the commands, and nothing is listed; or it is unreadable; or memory was
-- refused for what it lists
abbrev pub ListsLine : LineEffect → Listing → Result Bool LineFault → Listing → Type 0
ListsLine effect l (Ok false) l' = effect ≡ GoesOn l'
ListsLine effect l (Ok true) l' = (effect ≡ Ends) × (l' ≡ l)
ListsLine effect l (Err OfLine.Unreadable) l' = effect ≡ Faulty
ListsLine effect l (Err OfLine.Memory) l' = ⊤
