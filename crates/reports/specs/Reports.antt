-- Reports: lines in an order. N are the names, S the solvables.
use Rattle.std.specs.Prelude.{◌≡◌, ℕ, Bool, true, false, ◌&&◌, ◌-◌, List, [], ◌∷◌, ◌++◌, codes, length, nat_le, nat_lt}
use Rattle.std.specs.Prelude.{if◌then◌else◌, Option, None, Some}
use Rattle.resolvo_pool.specs.Provider.{Answers, Universe}
use Rattle.resolvo_pool.specs.Texts.{Texts}
use Rattle.resolvo_pool.specs.Types.Requirement.{Requirement}
use Rattle.resolvo_pool.specs.Types.Requirement.TheVariants.{Single, Union}
use Rattle.reports.specs.Lines.{AreTold}
use Rattle.reports.specs.LineTexts.{text_of_line}
use Rattle.reports.specs.Nearest.{text_of_meant}
use Rattle.reports.specs.declared.line.Line.{Line}
use Rattle.solutions.specs.declared.reason.Reason.{Reason}
use Rattle.solutions.specs.declared.reason.Reason.TheVariants.{Needs}

module _ {N S : Type 0} (universe : Universe N S) where
  -- the package of a requirement that is no union
  abbrev pub package_of : Requirement → Option N
  package_of (Single set) = if universe.knows_set set then Some (universe.set_name set) else None
  package_of (Union union) = None

  abbrev pub package_of_need : Reason N S → Option N
  package_of_need (Needs parent need) = package_of need.requirement
  package_of_need reason = None

  -- the package that a line needs
  abbrev pub needed_by : {A : Type 0} → Line N S A → Option N
  needed_by line = package_of_need line.reason

-- whether the first of these is a version of the name
abbrev pub are_of : {N S : Type 0} → (N → N → Bool) → Universe N S → Option N → List S → Bool
are_of same universe None versions = false
are_of same universe (Some name) [] = false
are_of same universe (Some name) (version ∷ versions) =
    universe.knows_solvable version && same (universe.solvable_name version) name

-- whether a line says something of versions of the name
abbrev pub says_of : {N S A : Type 0} → (N → N → Bool) → Universe N S → Option N → Line N S A → Bool
says_of same universe name line = are_of same universe name line.versions.items

-- how many further links of a chain fit into a line of text, if `count` lines come behind the first one
abbrev pub room_of : ℕ → ℕ
room_of count = if nat_le 20 count then 2 else 0

-- whether a line goes on in the line of text before it, which has this room, if it is the next link of a chain
abbrev pub goes_on : ℕ → Bool → Bool
goes_on room is_link = nat_lt 0 room && is_link

-- what stands before a line that goes on in the line of text before it, or begins one
abbrev pub between : Bool → List ℕ
between true = codes "; "
between false = codes "\n"

-- the room behind such a line
abbrev pub room_after : Bool → ℕ → ℕ → ℕ
room_after true full room = room - 1
room_after false full room = full

-- of a line: its text, the package that it needs, and whether it says something of one
module _ {N L : Type 0} (text : L → List ℕ) (needed : L → Option N) (says : Option N → L → Bool) where
  -- the lines behind one that needs this package; `room` further ones fit into its line of text
  abbrev pub others_text : ℕ → ℕ → Option N → List L → List ℕ
  others_text full room name [] = codes "\n"
  others_text full room name (line ∷ lines) =
      let joins = goes_on room (says name line) in
      between joins ++ (text line ++ others_text full (room_after joins full room) (needed line) lines)

  -- a chain's next link goes on in the same line of text, while there is room
  abbrev pub lines_text : List L → List ℕ
  lines_text [] = []
  lines_text (first ∷ others) =
      let full = room_of (length others) in
      text first ++ others_text full full (needed first) others

-- what a line says, and which one of the names is meant where it says that there is no package
abbrev pub text_with_names : {N S A : Type 0} → Universe N S → Texts N S → (S → S → Bool) → Answers N S → List N
    → Line N S A → List ℕ
text_with_names universe texts same answers names line =
    text_of_line universe texts same answers line ++ text_of_meant universe texts answers names line.reason

-- a text that tells these reasons, each once, in lines; one of the names is meant where there is no package
pub record IsReport {N S : Type 0} (A : Type 0) (universe : Universe N S) (texts : Texts N S)
    (same_name : N → N → Bool) (same : S → S → Bool) (answers : Answers N S) (names : List N)
    (reasons : List (Reason N S)) (text : List ℕ) : Type 0 where
  pub lines : List (Line N S A)
  pub are_told : AreTold universe.solvable_name reasons lines
  pub is : text ≡ lines_text (text_with_names universe texts same answers names) (needed_by universe)
      (says_of same_name universe) lines
