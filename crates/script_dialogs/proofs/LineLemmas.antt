-- Lines that are answered one by one are answered as a whole script is.
use Rattle.std.proofs.Common.{◌≡◌, ℕ, ◌+◌, List, [], ◌∷◌, ◌++◌, ◌⊎◌, Option, None, Some, Result, Ok, refl, sym, ap}
use Rattle.std.proofs.Common.{subst, inl, inr, ◌∙◌}
use Rattle.resolvo_store.specs.Command.{Command}
use Rattle.resolvo_store.specs.Store.{Store, Provider, new_store}
use Rattle.script_text.specs.declared.statement.Line.{Line}
use Rattle.script_text.specs.declared.statement.Line.TheVariants.{Skipped, Unreadable, Says}
use Rattle.script_packages.specs.declared.packages.Packages.{Packages}
use Rattle.script_packages.specs.Catalogues.{AreListed}
use Rattle.script_packages.specs.CatalogueEnds.{LineEffect, GoesOn, Ends, Faulty, OnEffect, effect_of, NeverBegins}
use Rattle.script_packages.specs.CatalogueEnds.{CommandsBegin, FaultyAt}
use Rattle.script_packages.specs.CatalogueLines.{catalogue_line_of}
use Rattle.script_packages.specs.Listing.{Listing, listing_of, nothing_listed}
use Rattle.scripts.specs.Commands.{Ids, command_line_of}
use Rattle.scripts.specs.Replies.{reply_text}
use Rattle.scripts.specs.Scripts.{CommandsFrom, LinesFrom, ScriptLinesAnswered}
use Rattle.scripts.specs.Transcript.{ObeysLine, LineAnswered, Answered}
use Rattle.dialogs.specs.Answering.{AreAnswered}
use Rattle.script_dialogs.specs.ScriptLines.{IsAtStart, IsUnreadable, IsAnswered}
use Rattle.script_dialogs.specs.declared.stage.Stage.{Stage}
use Rattle.script_dialogs.specs.declared.stage.Stage.TheVariants.{Catalogue, Commands}

-- a line that was obeyed, and what is after it
line_goes : {N S : Type 0} (old new : Store N S) (number : ℕ) (said : Line (Command N S)) (goes : Store N S →
    List ℕ → Type 0) (own rest : List ℕ) (faulty : Option ℕ)
    → ObeysLine {T = ℕ} old said [] (Ok 0) own new → goes new rest →
    LineAnswered old number said goes (own ++ rest) faulty
line_goes old new number Skipped goes own rest faulty h on =
    subst (λ st. goes st (own ++ rest)) h.1 (subst (λ l. goes new (l ++ rest)) (sym h.0) on)
line_goes old new number Unreadable goes own rest faulty h on = absurd h
line_goes old new number (Says c) goes own rest faulty h on = (h.0, new, rest, h.1, ap (λ l. l ++ rest) h.2, on)

module _ {N S : Type 0} (ids : Ids N S) (provided : Packages → Provider N S) where
  module _ (l more : Listing) (n : ℕ) (line : List ℕ) (lines : List (List ℕ))
      (does : effect_of l (catalogue_line_of line) ≡ GoesOn more) where
    commands_on : (text : List ℕ) (faulty : Option ℕ) → CommandsFrom ids provided more (n + 1) lines text faulty →
        CommandsFrom ids provided l n (line ∷ lines) text faulty
    commands_on text faulty (packages, before, left, begins, answered) = (
      packages,
      before,
      left,
      subst (λ e. OnEffect e (λ m. CommandsBegin m (n + 1) lines before left packages) ((before ≡ n + 1)
          × (left ≡ lines) × AreListed packages l) ⊥) (sym does) begins,
      answered,
    )

    lines_on : (text : List ℕ) (faulty : Option ℕ) → LinesFrom ids provided more (n + 1) lines text faulty →
        LinesFrom ids provided l n (line ∷ lines) text faulty
    lines_on text None (inl (never, none)) =
        inl (subst (λ e. OnEffect e (λ m. NeverBegins m lines) ⊥ ⊥) (sym does) never, none)
    lines_on text None (inr on) = inr (commands_on text None on)
    lines_on text (Some number) (inl (faulty, none)) =
        inl (subst (λ e. OnEffect e (λ m. FaultyAt m (n + 1) lines number) ⊥ (number ≡ n + 1)) (sym does) faulty, none)
    lines_on text (Some number) (inr on) = inr (commands_on text (Some number) on)

  begun_here : (l : Listing) (n : ℕ) (line : List ℕ) (lines : List (List ℕ)) (packages : Packages) (text : List ℕ)
      (faulty : Option ℕ)
      → effect_of l (catalogue_line_of line) ≡ Ends → AreListed packages l
      → Answered ids (new_store (provided packages)) (n + 1) lines text faulty →
      CommandsFrom ids provided l n (line ∷ lines) text faulty
  begun_here l n line lines packages text faulty does are answered = (
    packages,
    n + 1,
    lines,
    subst (λ e. OnEffect e (λ m. CommandsBegin m (n + 1) lines (n + 1) lines packages) ((n + 1 ≡ n + 1)
        × (lines ≡ lines) × AreListed packages l) ⊥) (sym does) (refl, refl, are),
    answered,
  )

  either_from : (l : Listing) (n : ℕ) (lines : List (List ℕ)) (text : List ℕ) (faulty : Option ℕ) →
      CommandsFrom ids provided l n lines text faulty → LinesFrom ids provided l n lines text faulty
  either_from l n lines text None h = inr h
  either_from l n lines text (Some number) h = inr h

  faulty_here : (l : Listing) (n : ℕ) (line : List ℕ) (lines : List (List ℕ)) (text : List ℕ) →
      effect_of l (catalogue_line_of line) ≡ Faulty → text ≡ []
      → LinesFrom ids provided l n (line ∷ lines) text (Some (n + 1))
  faulty_here l n line lines text does none =
      inl (subst (λ e. OnEffect e (λ m. FaultyAt m (n + 1) lines (n + 1)) ⊥ (n + 1 ≡ n + 1)) (sym does) refl, none)

  module _ {A C : Type 0} (stage : A → Stage C) (store : C → Store N S) where
    abbrev pub OneByOne : A → ℕ → List (List ℕ) → List ℕ → Option ℕ → Type 0
    OneByOne a n lines text faulty =
        AreAnswered (λ a line own b. IsAnswered ids provided store (stage a) line own (stage b))
        (λ a line. IsUnreadable ids (stage a) line) a n lines text faulty

    commands : (kept : C) (a : A) (n : ℕ) (lines : List (List ℕ)) (text : List ℕ) (faulty : Option ℕ) →
        stage a ≡ Commands kept
        → OneByOne a n lines text faulty → Answered ids (store kept) n lines text faulty
    commands kept a n [] text faulty at h = h
    commands kept a n (line ∷ lines) text faulty at (inl (refused, none, is)) =
        let unreadable : IsUnreadable ids {C = C} (Commands kept) line =
        subst (λ s. IsUnreadable ids s line) at refused in
        subst (λ said. LineAnswered (store kept) (n + 1) said (λ mid r. Answered ids mid (n + 1) lines r faulty) text
        faulty) (sym unreadable) (none, is)
    commands kept a n (line ∷ lines) text faulty at (inr (own, rest, next, answered, split, on)) =
        by (stage next) refl (subst (λ s. IsAnswered ids provided store s line own (stage next)) at answered)
        (λ then is. commands then next (n + 1) lines rest faulty is on)
      where
        by : (s : Stage C) → stage next ≡ s → IsAnswered ids provided store (Commands kept) line own s
            → ((then : C) → stage next ≡ Commands then → Answered ids (store then) (n + 1) lines rest faulty) →
            Answered ids (store kept) n (line ∷ lines) text faulty
        by (Catalogue more) is h goes = absurd h
        by (Commands then) is h goes =
            subst (λ t. Answered ids (store kept) n (line ∷ lines) t faulty) (sym split)
            (line_goes (store kept) (store then) (n + 1) (command_line_of ids line)
            (λ mid r. Answered ids mid (n + 1) lines r faulty) own rest faulty h (goes then is))

    catalogue : (packages : Packages) (a : A) (n : ℕ) (lines : List (List ℕ)) (text : List ℕ) (faulty : Option ℕ) →
        stage a ≡ Catalogue packages
        → OneByOne a n lines text faulty → LinesFrom ids provided (listing_of packages) n lines text faulty
    catalogue packages a n [] text faulty at (none, is) =
        subst (LinesFrom ids provided (listing_of packages) n [] text) (sym is) (inl (tt, none))
    catalogue packages a n (line ∷ lines) text faulty at (inl (refused, none, is)) =
        subst (LinesFrom ids provided (listing_of packages) n (line ∷ lines) text) (sym is)
        (faulty_here (listing_of packages) n line lines text (subst (λ s. IsUnreadable ids s line) at refused) none)
    catalogue packages a n (line ∷ lines) text faulty at (inr (own, rest, next, answered, split, on)) =
        by (stage next) refl (subst (λ s. IsAnswered ids provided store s line own (stage next)) at answered)
        (λ more is. catalogue more next (n + 1) lines rest faulty is on)
      where
        whole : own ≡ [] → text ≡ rest
        whole none = split ∙ ap (λ l. l ++ rest) none

        by : (s : Stage C) → stage next ≡ s → IsAnswered ids provided store (Catalogue packages) line own s
            → ((more : Packages) → stage next ≡ Catalogue more →
            LinesFrom ids provided (listing_of more) (n + 1) lines rest faulty)
            → LinesFrom ids provided (listing_of packages) n (line ∷ lines) text faulty
        by (Catalogue more) is (does, none) goes =
            subst (λ t. LinesFrom ids provided (listing_of packages) n (line ∷ lines) t faulty) (sym (whole none))
            (lines_on (listing_of packages) (listing_of more) n line lines does rest faulty (goes more is))
        by (Commands kept) is (does, (listed, are, made), none) goes =
            subst (λ t. LinesFrom ids provided (listing_of packages) n (line ∷ lines) t faulty) (sym (whole none))
            (either_from (listing_of packages) n (line ∷ lines) rest faulty
            (begun_here (listing_of packages) n line lines listed rest faulty does are
            (subst (λ st. Answered ids st (n + 1) lines rest faulty) made
            (commands kept next (n + 1) lines rest faulty is on))))

    -- from the start on
    pub lines_answered : (a : A) (lines : List (List ℕ)) (text : List ℕ) (faulty : Option ℕ) → IsAtStart (stage a) →
        OneByOne a 0 lines text faulty
        → ScriptLinesAnswered ids provided lines text faulty
    lines_answered a lines text faulty start h = by (stage a) refl start
      where
        by : (s : Stage C) → stage a ≡ s → IsAtStart s → ScriptLinesAnswered ids provided lines text faulty
        by (Catalogue packages) is none =
            subst (λ l. LinesFrom ids provided l 0 lines text faulty) none
            (catalogue packages a 0 lines text faulty is h)
        by (Commands kept) is never = absurd never
