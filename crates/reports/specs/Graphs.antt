-- Reports as graphs, in Graphviz' language. N are the names, S the solvables.
use Rattle.std.specs.Prelude.{◌≡◌, ℕ, ◌+◌, Bool, true, false, not, ◌==◌, ◌&&◌, ◌||◌, List, [], ◌∷◌, ◌++◌, codes}
use Rattle.std.specs.Prelude.{decimal, encode_utf8, filter, if◌then◌else◌, length, Some}
use Rattle.std.specs.List.{list_any}
use Rattle.std.specs.Str.{chars}
use Rattle.resolvo_ids.specs.Types.VersionSetId.{VersionSetId}
use Rattle.resolvo_pool.specs.Provider.{Answers, Universe, filtered, knows_requirement, sets_of}
use Rattle.resolvo_pool.specs.Texts.{Texts}
use Rattle.resolvo_pool.specs.Types.Requirement.{Requirement}
use Rattle.reports.specs.Lines.{AreTold}
use Rattle.reports.specs.LineTexts.{text_of_line}
use Rattle.reports.specs.Reports.{says_of}
use Rattle.reports.specs.declared.line.Line.{Line}
use Rattle.solutions.specs.declared.reason.Reason.{Reason}
use Rattle.solutions.specs.declared.reason.Reason.TheVariants.{Needs, Limits, Locked, OneVersion}

module _ {N S : Type 0} (same_name : N → N → Bool) (universe : Universe N S) where
  -- whether a reason forbids versions of the package
  abbrev pub forbids : Reason N S → N → Bool
  forbids (Limits solvable set) name = universe.knows_set set && same_name (universe.set_name set) name
  forbids (Locked solvable) name = universe.knows_solvable solvable && same_name (universe.solvable_name solvable) name
  forbids (OneVersion other) name = same_name other name
  forbids reason name = false

-- whether the version set holds one of the versions, of those that are known
abbrev pub holds_any : {N S : Type 0} → Universe N S → Answers N S → VersionSetId → List S → Bool
holds_any universe answers set versions =
    not (length (filtered (answers.matches set) false (filter universe.knows_solvable versions)) == 0)

module _ {N S : Type 0} (same_name : N → N → Bool) (universe : Universe N S) (answers : Answers N S) where
  -- whether a line forbids versions of the set's package, or is said of versions that the set holds
  abbrev pub speaks_of_set : {A : Type 0} → Line N S A → VersionSetId → Bool
  speaks_of_set line set =
      universe.knows_set set && (forbids same_name universe line.reason (universe.set_name set)
      || says_of same_name universe (Some (universe.set_name set)) line
      && holds_any universe answers set line.versions.items)

  abbrev pub speaks_of_any : {A : Type 0} → Line N S A → List VersionSetId → Bool
  speaks_of_any line sets = list_any (speaks_of_set line) sets

  -- whether a line speaks of what a requirement offers
  abbrev pub speaks_of : {A : Type 0} → Line N S A → Requirement → Bool
  speaks_of line requirement =
      knows_requirement universe requirement && speaks_of_any line (sets_of universe requirement)

  -- whether the line speaks of what the reason needs
  abbrev pub speaks_of_need : {A : Type 0} → Line N S A → Reason N S → Bool
  speaks_of_need line (Needs parent need) = speaks_of line need.requirement
  speaks_of_need line reason = false

  -- whether the second line speaks of what the first one needs
  abbrev pub leads_to : {A : Type 0} → Line N S A → Line N S A → Bool
  leads_to from to = speaks_of_need to from.reason

-- what stands before a letter between quotes: a backslash before a quote and a backslash
abbrev pub before_letter : ℕ → List ℕ
before_letter letter = if (letter == 34) || (letter == 92) then 92 ∷ [] else []

-- letters as they stand between quotes
abbrev pub escaped : List ℕ → List ℕ
escaped [] = []
escaped (letter ∷ letters) = before_letter letter ++ (encode_utf8 letter ++ escaped letters)

abbrev pub node_text : ℕ → List ℕ → List ℕ
node_text place label =
    (codes "  n" ++ (decimal place ++ codes " [label=\"")) ++ (escaped (chars label) ++ codes "\"];\n")

-- an edge between two places, if there is one
abbrev pub edge_text : Bool → ℕ → ℕ → List ℕ
edge_text true from to = codes "  n" ++ (decimal from ++ (codes " -> n" ++ (decimal to ++ codes ";\n")))
edge_text false from to = []

-- a node for each line, which has this text; the first one has this place
abbrev pub nodes_text : {L : Type 0} → (L → List ℕ) → ℕ → List L → List ℕ
nodes_text text place [] = []
nodes_text text place (line ∷ lines) = node_text place (text line) ++ nodes_text text (place + 1) lines

-- whether an edge leads from one line to another
module _ {L : Type 0} (leads : L → L → Bool) where
  -- the edges from a line at this place to those of the others to which one leads; the first other has the second place
  abbrev pub edges_from : ℕ → L → ℕ → List L → List ℕ
  edges_from from line place [] = []
  edges_from from line place (other ∷ others) =
      edge_text (leads line other) from place ++ edges_from from line (place + 1) others

  -- the edges from these lines to any line; the first one has this place
  abbrev pub edges_text : List L → ℕ → List L → List ℕ
  edges_text all place [] = []
  edges_text all place (line ∷ lines) = edges_from place line 0 all ++ edges_text all (place + 1) lines

-- of lines with these texts: a node for each, and the edges
abbrev pub graph_text : {L : Type 0} → (L → List ℕ) → (L → L → Bool) → List L → List ℕ
graph_text text leads lines =
    codes "digraph reasons {\n  node [shape=box];\n"
    ++ (nodes_text text 0 lines ++ (edges_text leads lines 0 lines ++ codes "}\n"))

-- a graph of lines that tell these reasons, each once
pub record IsGraph {N S : Type 0} (A : Type 0) (universe : Universe N S) (texts : Texts N S)
    (same_name : N → N → Bool) (same : S → S → Bool) (answers : Answers N S) (reasons : List (Reason N S))
    (text : List ℕ) : Type 0 where
  pub lines : List (Line N S A)
  pub are_told : AreTold universe.solvable_name reasons lines
  pub is : text ≡ graph_text (text_of_line universe texts same answers) (leads_to same_name universe answers) lines
