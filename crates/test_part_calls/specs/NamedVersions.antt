-- Worked examples: which versions some answers name, where, and what is put into a buffer.
use Rattle.std.specs.Prelude.{◌≡◌, ℕ, List, [], ◌∷◌, codes, length}
use Rattle.call_texts.specs.Versions.{filled, versions_in}
use Rattle.call_texts.specs.declared.versions.Version.{Version}

-- a name of `n` bytes that begins here, and a version
abbrev pub place : ℕ → ℕ → ℕ → ℕ → Version
place name name_length version version_length = record {
  name = name;
  name_length = name_length;
  version = version;
  version_length = version_length;
}

abbrev pub blank : Version
blank = place 0 0 0 0

-- those of an answer that names two
abbrev pub two : List Version
two = versions_in (codes "request:\na 1\nbb 2.0.0\nthe best by the first 1 of 2 wishes\n")

-- how many versions an answer names
abbrev pub count : List ℕ → ℕ
count answer = length (versions_in answer)

pub record NamesVersions : Type 0 where
  pub picked : two ≡ place 9 1 11 1 ∷ place 13 2 16 5 ∷ []
  pub room_for_three : filled 0 two (blank ∷ blank ∷ blank ∷ []) ≡ place 9 1 11 1 ∷ place 13 2 16 5 ∷ blank ∷ []
  pub room_for_one : filled 0 two (blank ∷ []) ≡ place 9 1 11 1 ∷ []
  pub nothing_picked : count (codes "request:\n") ≡ 0
  pub none : count (codes "request:\nnone\nrequest needs a 1..2, and there is none\n") ≡ 0
  pub unreadable : count (codes "line 7 unreadable\n") ≡ 0
  pub last_line_cut : count (codes "request:\na 1\nb 2") ≡ 1
  pub first_line_alone : count (codes "a 1") ≡ 0
  pub empty : count [] ≡ 0
