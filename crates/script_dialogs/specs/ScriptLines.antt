-- What a line of a script is answered, by how far the script has come.
use Rattle.std.specs.Prelude.{◌≡◌, ℕ, List, [], Result, Ok}
use Rattle.resolvo_store.specs.Store.{Store, Provider, new_store}
use Rattle.script_text.specs.declared.statement.Line.TheVariants.{Unreadable}
use Rattle.script_packages.specs.declared.packages.Packages.{Packages}
use Rattle.script_packages.specs.Catalogues.{AreListed}
use Rattle.script_packages.specs.CatalogueEnds.{GoesOn, Ends, Faulty, effect_of}
use Rattle.script_packages.specs.CatalogueLines.{catalogue_line_of}
use Rattle.script_packages.specs.Listing.{listing_of, nothing_listed}
use Rattle.scripts.specs.Commands.{Ids, command_line_of}
use Rattle.scripts.specs.Transcript.{ObeysLine}
use Rattle.script_dialogs.specs.declared.stage.Stage.{Stage}
use Rattle.script_dialogs.specs.declared.stage.Stage.TheVariants.{Catalogue, Commands}

-- no line has come
abbrev pub IsAtStart : {C : Type 0} → Stage C → Type 0
IsAtStart (Catalogue packages) = AreListed packages nothing_listed
IsAtStart (Commands kept) = ⊥

-- lines in which numbers stand for these names and solvables
module _ {N S : Type 0} (ids : Ids N S) where
  -- a line isn't in the format
  abbrev pub IsUnreadable : {C : Type 0} → Stage C → List ℕ → Type 0
  IsUnreadable (Catalogue packages) line = effect_of (listing_of packages) (catalogue_line_of line) ≡ Faulty
  IsUnreadable (Commands kept) line = command_line_of ids line ≡ Unreadable

  -- with what a store knows of the packages that it is over
  module _ (provided : Packages → Provider N S) where
    -- with what the abstract store is of what a store keeps
    module _ {C : Type 0} (store : C → Store N S) where
      -- a line of the catalogue is listed, or begins the commands over the packages that are listed; neither is
      -- answered. Of the commands each is answered by the line of its reply, and a line that is skipped by none
      abbrev pub IsAnswered : Stage C → List ℕ → List ℕ → Stage C → Type 0
      IsAnswered (Catalogue packages) line text (Catalogue more) =
          (effect_of (listing_of packages) (catalogue_line_of line) ≡ GoesOn (listing_of more)) × (text ≡ [])
      IsAnswered (Catalogue packages) line text (Commands kept) =
          (effect_of (listing_of packages) (catalogue_line_of line) ≡ Ends)
          × ((listed : Packages) × AreListed listed (listing_of packages) × (store kept ≡ new_store (provided listed)))
          × (text ≡ [])
      IsAnswered (Commands kept) line text (Commands next) =
          ObeysLine {T = ℕ} (store kept) (command_line_of ids line) [] (Ok 0) text (store next)
      IsAnswered (Commands kept) line text (Catalogue more) = ⊥
