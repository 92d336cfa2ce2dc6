-- Numbers by the names of packages; N are the names, P the maps from names to places.
use Rattle.std.specs.Prelude.{◌≡◌, ◌<◌, ◌⊎◌, ℕ, Bool, true, List, length, Option, Some, slice_get, IfSome}
use Rattle.resolvo_queue.specs.Members.{Stands}
use Rattle.resolvo_queue.specs.Parts.{names_at}
use Rattle.resolvo_queue.specs.declared.clauses_by_name.NameEntry.{NameEntry}

-- the entries of all names, and where each name's newest one stands
pub record ByName (P : Type 0) : Type 0 where
  pub newest : P
  pub entries : List NameEntry

-- from a place back, one of the entries has the number
pub data IsFrom (entries : List NameEntry) (number : ℕ) : Option ℕ → Type 0 where
  at_place : (place : ℕ) (e : NameEntry) → slice_get entries place ≡ Some e → e.number ≡ number
      → IsFrom entries number (Some place)
  further : (place : ℕ) (e : NameEntry) → slice_get entries place ≡ Some e → IsFrom entries number e.earlier
      → IsFrom entries number (Some place)

-- the number stands under the name
abbrev pub StandsUnder : {N P : Type 0} → (P → N → Option ℕ) → ByName P → N → ℕ → Type 0
StandsUnder value_at b name number = IsFrom b.entries number (value_at b.newest name)

-- each place is that of an entry
abbrev pub HaveEntries : {N : Type 0} → (N → Option ℕ) → List NameEntry → Type 0
HaveEntries {N} newest entries = (name : N) → IfSome (newest name) (λ place. place < length entries)

-- each entry stands behind the one that it leads to
abbrev pub AreBehind : List NameEntry → Type 0
AreBehind entries = (place : ℕ) (e : NameEntry) → slice_get entries place ≡ Some e → IfSome e.earlier (λ p. p < place)

-- no number left a name
abbrev pub KeepsNumbers : {N : Type 0} → (old new : N → ℕ → Type 0) → Type 0
KeepsNumbers {N} old new = (name : N) (n : ℕ) → old name n → new name n

-- the number stands under the name, or no map can hold the name
abbrev pub IsEntered : {N : Type 0} → (N → Bool) → (N → ℕ → Type 0) → ℕ → N → Type 0
IsEntered is_too_large under n name = (is_too_large name ≡ true) ⊎ under name n

-- each clause's number stands under its names
abbrev pub AreEntered : {N : Type 0} → (N → Bool) → (N → ℕ → Type 0) → List (List N) → Type 0
AreEntered {N} is_too_large under names =
    (n : ℕ) (name : N) → Stands name (names_at names n) → IsEntered is_too_large under n name
