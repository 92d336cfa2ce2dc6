-- What the reader adds line by line.
use Rattle.std.specs.Prelude.{◌≡◌, ℕ, Bool, true, false, List, Option, None, Some, Result, Ok, Err, ⊤}
use Rattle.std.specs.List.{AllZip}
use Rattle.index_text.specs.Entries.{EntryText}
use Rattle.index_text.specs.Lines.{VersionText}
use Rattle.resolvo_pool.specs.Types.Solvable.{Solvable}
use Rattle.example_index.specs.Listed.{with_bytes}
use Rattle.example_index.specs.Meaning.{IsNeed, needs_in}
use Rattle.example_index.specs.declared.fault.IndexFault.{IndexFault}
use Rattle.example_index.specs.declared.fault.IndexFault.TheVariants.{Unreadable, Refused}
use Rattle.example_index.specs.declared.index.SmallIndex.{SmallIndex}

-- a version by its name's id and its number
abbrev pub numbered : Solvable ℕ → ℕ × ℕ
numbered s = (s.name, s.payload)

-- the lines with one more, if it is no line of the same version as another, and whether it was added
abbrev pub IsAdded : (List VersionText → Type 0) → Option (List VersionText) → Bool → Type 0
IsAdded AreKept None false = ⊤
IsAdded AreKept (Some versions) true = AreKept versions
IsAdded AreKept _ _ = ⊥

-- a line's version was added; or the line is unreadable, and is that of the fault
abbrev pub IsLineAdded : (List VersionText → Type 0) → Option (List VersionText) → ℕ → Result ⊤ IndexFault → Type 0
IsLineAdded AreKept (Some versions) number (Ok _) = AreKept versions
IsLineAdded AreKept None number (Ok _) = ⊥
IsLineAdded AreKept versions number (Err (Unreadable n)) = (versions ≡ None) × (n ≡ number)
IsLineAdded AreKept versions number (Err (Refused refused)) = ⊤

-- a line's request is the index's; or the line is unreadable, and is that of the fault
abbrev pub IsRequestAdded : SmallIndex → Option (List EntryText) → ℕ → Result ⊤ IndexFault → Type 0
IsRequestAdded index (Some entries) number (Ok _) = AllZip (IsNeed (with_bytes index.pool)) index.request.items
    (needs_in entries)
IsRequestAdded index None number (Ok _) = ⊥
IsRequestAdded index entries number (Err (Unreadable n)) = (entries ≡ None) × (n ≡ number)
IsRequestAdded index entries number (Err (Refused refused)) = ⊤
