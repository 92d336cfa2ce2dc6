-- What a line says of its version.
use Rattle.std.specs.Prelude.{ℕ, Bool, false, ◌||◌, List, [], ◌∷◌, ◌++◌, Option, None, Some}
use Rattle.std.specs.Prelude.{option_map, option_and_then, if◌then◌else◌, codes}
use Rattle.std.specs.Borrow.{Bor}
use Rattle.std.specs.List.{slice_split}
use Rattle.std.specs.Str.{bytes_eq}
use Rattle.index_text.specs.Formats.{VersionFormat}
use Rattle.index_text.specs.Sets.{SetText, texts, set_of, sets_of, alternatives_of, each_of}

-- one of the sets is needed; if there are alternatives, where all sets of one of them hold
pub record NeedText : Type 0 where
  pub union : List SetText
  pub condition : List (List SetText)

pub data EntryText : Type 0 where
  Needs : (need : NeedText) → EntryText
  Limits : (set : SetText) → EntryText
  Favored : EntryText
  Locked : EntryText

-- a list's first element begins another part
abbrev pub starts : {X : Type 0} → (X → Bool) → List X → Bool
starts begins [] = false
starts begins (x ∷ xs) = begins x

-- parts, with these elements in front of the first one, unless that begins with an element that begins a part
abbrev pub put_front : {X : Type 0} → (X → Bool) → List X → List (List X) → List (List X)
put_front begins front [] = front ∷ []
put_front begins front (part ∷ parts) =
    if starts begins part then front ∷ part ∷ parts else (front ++ part) ∷ parts

-- a list, cut before each element that begins a part
abbrev pub cut : {X : Type 0} → (X → Bool) → List X → List (List X)
cut begins [] = []
cut begins (x ∷ xs) = put_front begins (x ∷ []) (cut begins xs)

-- a word that begins an entry
abbrev pub is_entry : List ℕ → Bool
is_entry word = bytes_eq word (codes "needs") || (bytes_eq word (codes "limits")
    || (bytes_eq word (codes "favored") || bytes_eq word (codes "locked")))

-- no condition, or what is behind an `if`
abbrev pub condition_in_parts : VersionFormat → List (List (List ℕ)) → Option (List (List SetText))
condition_in_parts format [] = Some []
condition_in_parts format (words ∷ []) = alternatives_of format words
condition_in_parts format _ = None

-- UNION, and behind an `if`, if there is one, CONDITION
abbrev pub need_in_parts : VersionFormat → List (List (List ℕ)) → Option NeedText
need_in_parts format [] = None
need_in_parts format (union ∷ condition) =
    option_and_then (λ sets. option_map (λ lists. record { union = sets; condition = lists })
    (condition_in_parts format condition))
    (sets_of format (codes "|") union)

abbrev pub need_of : VersionFormat → List (List ℕ) → Option NeedText
need_of format words = need_in_parts format (slice_split (bytes_eq (codes "if")) words)

-- an entry without anything behind it
abbrev pub alone : EntryText → List (List ℕ) → Option EntryText
alone entry [] = Some entry
alone entry _ = None

-- an entry's words, the first of which says its kind
abbrev pub entry_of : VersionFormat → List (List ℕ) → Option EntryText
entry_of format [] = None
entry_of format (keyword ∷ words) =
    if bytes_eq keyword (codes "needs") then option_map Needs (need_of format words)
    else if bytes_eq keyword (codes "limits") then option_map Limits (set_of format words)
    else if bytes_eq keyword (codes "favored") then alone Favored words
    else if bytes_eq keyword (codes "locked") then alone Locked words
    else None

abbrev pub entries_of : VersionFormat → List (List ℕ) → Option (List EntryText)
entries_of format words = each_of (entry_of format) (cut is_entry words)

-- the words of the entries from here on, if there are some
abbrev pub entries_behind : Option (Bor (List (Bor (List ℕ)))) → List (List (List ℕ))
entries_behind None = []
entries_behind (Some rest) = cut is_entry (texts rest.now)
