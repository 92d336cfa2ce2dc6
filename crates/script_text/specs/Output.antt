-- What a writer holds, and what waits to be written.
use Rattle.std.specs.Prelude.{◌≡◌, ℕ, List, ◌++◌, Option, None, Some, ⊤}
use Rattle.std.specs.Io.KnownBytes.{Appends}

-- what the writer holds and what waits after it grow by a text, where it is known what the writer holds
abbrev pub Writes : Option (List ℕ) → List ℕ → Option (List ℕ) → List ℕ → List ℕ → Type 0
Writes None waiting new waiting' text = ⊤
Writes (Some held) waiting None waiting' text = ⊥
Writes (Some held) waiting (Some held') waiting' text = held' ++ waiting' ≡ (held ++ waiting) ++ text

-- what waited and a text behind it: the writer took a beginning, and what is left waits now
abbrev pub HandsOn : Option (List ℕ) → List ℕ → Option (List ℕ) → List ℕ → List ℕ → Type 0
HandsOn held waiting held' waiting' text = (front : List ℕ) × Appends held held' front ×
    (front ++ waiting' ≡ waiting ++ text)

-- the writer took a beginning of what waited
abbrev pub TakesSome : Option (List ℕ) → List ℕ → Option (List ℕ) → Type 0
TakesSome held waiting held' = (front back : List ℕ) × Appends held held' front × (front ++ back ≡ waiting)
