-- What words say of version sets.
use Rattle.std.specs.Prelude.{ℕ, Bool, nat_le, ◌^◌, List, [], ◌∷◌, map, Option, None, Some}
use Rattle.std.specs.Prelude.{option_map, option_and_then, if◌then◌else◌, codes}
use Rattle.std.specs.Borrow.{Bor}
use Rattle.std.specs.List.{slice_split}
use Rattle.std.specs.Str.{bytes_eq}
use Rattle.index_text.specs.Formats.{VersionFormat, number_in, ends_of}
use Rattle.script_text.specs.Numbers.{number_of, below}

-- the versions v of a package with low <= v < high
pub record SetText : Type 0 where
  pub name : List ℕ
  pub low : ℕ
  pub high : ℕ

-- words as their bytes
abbrev pub texts : List (Bor (List ℕ)) → List (List ℕ)
texts words = map (λ (word : Bor (List ℕ)). word.now) words

-- a number below 2^32
abbrev pub version_of : List ℕ → Option ℕ
version_of word = below (2 ^ 32) (number_of word)

-- the lower bound first
abbrev pub ordered : Option ℕ → Option ℕ → Option (ℕ × ℕ)
ordered (Some low) (Some high) = if nat_le low high then Some (low, high) else None
ordered _ _ = None

-- LOW..HIGH
abbrev pub range_of : VersionFormat → List ℕ → Option (ℕ × ℕ)
range_of format word =
    option_and_then (λ ends. ordered (number_in format ends.0) (number_in format ends.1)) (ends_of word)

abbrev pub set_within : List ℕ → ℕ × ℕ → SetText
set_within name range = record { name = name; low = range.0; high = range.1 }

-- NAME LOW..HIGH
abbrev pub set_of : VersionFormat → List (List ℕ) → Option SetText
set_of format (name ∷ range ∷ []) = option_map (set_within name) (range_of format range)
set_of format _ = None

-- what each part says, if each says something
abbrev pub each_of : {X Y : Type 0} → (X → Option Y) → List X → Option (List Y)
each_of read [] = Some []
each_of read (x ∷ xs) = option_and_then (λ y. option_map (λ ys. y ∷ ys) (each_of read xs)) (read x)

-- sets with this word between them
abbrev pub sets_of : VersionFormat → List ℕ → List (List ℕ) → Option (List SetText)
sets_of format between words = each_of (set_of format) (slice_split (bytes_eq between) words)

-- lists of sets: `or` between the lists, `and` between the sets of one
abbrev pub alternatives_of : VersionFormat → List (List ℕ) → Option (List (List SetText))
alternatives_of format words = each_of (sets_of format (codes "and")) (slice_split (bytes_eq (codes "or")) words)

-- the parts behind a separator, if there is one
abbrev pub parts_behind : (List ℕ → Bool) → Option (Bor (List (Bor (List ℕ)))) → List (List (List ℕ))
parts_behind separates None = []
parts_behind separates (Some rest) = slice_split separates (texts rest.now)
