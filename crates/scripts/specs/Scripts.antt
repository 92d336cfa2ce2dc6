-- What a whole script is answered.
use Rattle.std.specs.Prelude.{◌≡◌, ℕ, List, [], ◌⊎◌, Option, None, Some}
use Rattle.resolvo_store.specs.Store.{Provider, new_store}
use Rattle.script_packages.specs.declared.packages.Packages.{Packages}
use Rattle.script_packages.specs.Listing.{Listing, nothing_listed}
use Rattle.script_packages.specs.CatalogueEnds.{NeverBegins, CommandsBegin, FaultyAt}
use Rattle.scripts.specs.Commands.{Ids}
use Rattle.scripts.specs.Replies.{unreadable_text}
use Rattle.scripts.specs.ScriptStore.{numbers, provider_of}
use Rattle.scripts.specs.Transcript.{Answered}

-- the line that names the first unreadable line, if there is one
abbrev pub faulty_text : Option ℕ → List ℕ
faulty_text None = []
faulty_text (Some number) = unreadable_text number

-- lines in which numbers stand for these names and solvables, with what a store knows of the packages that it is over
module _ {N S : Type 0} (ids : Ids N S) (provided : Packages → Provider N S) where
  -- after this listing the commands begin in these lines, of which the first has the number after this one, and are
  -- answered by this text, over the packages that are listed by then
  abbrev pub CommandsFrom : Listing → ℕ → List (List ℕ) → List ℕ → Option ℕ → Type 0
  CommandsFrom l n lines text faulty =
      (packages : Packages) × (before : ℕ) × (left : List (List ℕ)) × CommandsBegin l n lines before left packages
      × Answered ids (new_store (provided packages)) before left text faulty

  -- after this listing the lines, of which the first has the number after this one, are answered by this text, up to
  -- the first unreadable one: there are no commands, the catalogue has an unreadable line, or the commands are answered
  abbrev pub LinesFrom : Listing → ℕ → List (List ℕ) → List ℕ → Option ℕ → Type 0
  LinesFrom l n lines text None = (NeverBegins l lines × (text ≡ [])) ⊎ CommandsFrom l n lines text None
  LinesFrom l n lines text (Some number) =
      (FaultyAt l n lines number × (text ≡ [])) ⊎ CommandsFrom l n lines text (Some number)

  -- the lines of a script are answered by this text
  abbrev pub ScriptLinesAnswered : List (List ℕ) → List ℕ → Option ℕ → Type 0
  ScriptLinesAnswered lines text faulty = LinesFrom nothing_listed 0 lines text faulty

-- the lines of a script are answered by this text, over the packages of its catalogue
abbrev pub ScriptAnswered : List (List ℕ) → List ℕ → Option ℕ → Type 0
ScriptAnswered lines text faulty = ScriptLinesAnswered numbers provider_of lines text faulty
