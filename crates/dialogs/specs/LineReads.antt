-- How the next line comes of a reader, of which more may be held than was taken.
use Rattle.std.specs.Prelude.{◌≡◌, ℕ, zero, suc, ◌^◌, ◌==◌, ◌≤◌, Bool, false, true, List, [], ◌∷◌, ◌++◌, ◌⊎◌}
use Rattle.std.specs.Prelude.{Option, ⊤, if◌then◌else◌}
use Rattle.std.specs.Io.KnownBytes.{Consumes}
use Rattle.script_text.specs.Lines.{without_return}
use Rattle.script_text.specs.declared.fault.ScriptFault.{ScriptFault}
use Rattle.script_text.specs.declared.fault.ScriptFault.TheVariants.{Unreadable, Device, Memory}

-- a text has no line feed
abbrev pub HasNoFeed : List ℕ → Type 0
HasNoFeed [] = ⊤
HasNoFeed (b ∷ bs) = (b == 10 ≡ false) × HasNoFeed bs

-- the lines of a text that have their line feeds, where these bytes of the first one were read
abbrev pub whole_lines_from : List ℕ → List ℕ → List (List ℕ)
whole_lines_from begun [] = []
whole_lines_from begun (b ∷ bs) =
    if b == 10 then without_return begun ∷ whole_lines_from [] bs else whole_lines_from (begun ++ b ∷ []) bs

-- the lines of a text that have their line feeds: what comes after them doesn't change them
abbrev pub whole_lines : List ℕ → List (List ℕ)
whole_lines text = whole_lines_from [] text

-- a line with its line feed
abbrev pub IsFed : List ℕ → Type 0
IsFed line = (begun : List ℕ) × (line ≡ begun ++ 10 ∷ []) × HasNoFeed begun

module _ {S : Type 0} (remaining : S → Option (List ℕ)) (reads fails : S → S → Type 0) where
  -- n reads are made, each because no line's end is held, and what they give is held too
  abbrev pub LineReads : ℕ → S → List ℕ → S → List ℕ → Type 0
  LineReads zero s held t held' = (s ≡ t) × (held' ≡ held)
  LineReads (suc n) s held t held' =
      (m : S) × (before : List ℕ) × LineReads n s held m before × HasNoFeed before
      × reads m t
      × ((bytes : List ℕ) × Consumes (remaining m) (remaining t) bytes × (held' ≡ before ++ bytes))

  -- a line is taken, with its line feed; or the reader has ended, and all that was held is taken. None is read once the
  -- reader has ended
  abbrev pub NextLine : Bool → S → List ℕ → List ℕ → Bool → S → List ℕ → Type 0
  NextLine ended s held line ended' t held' =
      (n : ℕ) × LineReads n s held t (line ++ held')
      × (ended ≡ true → (n ≡ 0) × (ended' ≡ true))
      × (IsFed line ⊎ ((ended' ≡ true) × HasNoFeed line × (held' ≡ [])))

  -- no line could be taken: memory was refused; or a read failed, or 2^32 were made
  abbrev pub NextLineFails : Bool → S → List ℕ → ScriptFault → S → Type 0
  NextLineFails ended s held (Unreadable number) t = ⊥
  NextLineFails ended s held Memory t =
      (n : ℕ) × (m : S) × (held' : List ℕ) × LineReads n s held m held' × (ended ≡ true → n ≡ 0)
      × ((m ≡ t) ⊎ ((ended ≡ false) × HasNoFeed held' × reads m t))
  NextLineFails ended s held Device t =
      (ended ≡ false)
      × (((n : ℕ) × (m : S) × (held' : List ℕ) × LineReads n s held m held' × HasNoFeed held' × fails m t)
      ⊎ ((n : ℕ) × (held' : List ℕ) × (2 ^ 32 ≤ n) × LineReads n s held t held'))
