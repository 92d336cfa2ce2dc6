-- Which versions an answer names, and where.
use Rattle.std.specs.Prelude.{◌≡◌, ℕ, ◌+◌, ◌==◌, false, All, List, [], ◌∷◌, ◌++◌, Option, None, Some, codes, length}
use Rattle.std.specs.Prelude.{slice_set}
use Rattle.std.specs.List.{slice_split}
use Rattle.call_texts.specs.declared.versions.Version.{Version}

-- the version of a line that begins at this byte, by its parts between blanks: a name and a version
abbrev pub version_at : ℕ → List (List ℕ) → Option Version
version_at at (name ∷ version ∷ []) = Some (record {
  name = at;
  name_length = length name;
  version = at + length name + 1;
  version_length = length version;
})
version_at at _ = None

-- a version and those behind it; none if there is no first one
abbrev pub in_front : Option Version → List Version → List Version
in_front None versions = []
in_front (Some version) versions = version ∷ versions

-- the versions of the first lines, up to one that names none. The first line begins at this byte, and the last part has
-- no line feed
abbrev pub versions_from : ℕ → List (List ℕ) → List Version
versions_from at [] = []
versions_from at (last ∷ []) = []
versions_from at (line ∷ next ∷ rest) =
    in_front (version_at at (slice_split (λ b. b == 32) line)) (versions_from (at + (length line + 1)) (next ∷ rest))

-- the versions below the first line
abbrev pub below_first : List (List ℕ) → List Version
below_first [] = []
below_first (first ∷ rest) = versions_from (length first + 1) rest

-- the versions that an answer names, in their order
abbrev pub versions_in : List ℕ → List Version
versions_in answer = below_first (slice_split (λ b. b == 10) answer)

-- a buffer that has these from this place on, as far as it has room
abbrev pub filled : ℕ → List Version → List Version → List Version
filled place [] buffer = buffer
filled place (version ∷ versions) buffer = filled (place + 1) versions (slice_set buffer place version)

-- a package and its version
pub record Named : Type 0 where
  pub name : List ℕ
  pub version : List ℕ

-- no blank and no line feed is in it
pub record IsWord (word : List ℕ) : Type 0 where
  pub no_blank : All (λ b. (b == 32) ≡ false) word
  pub no_feed : All (λ b. (b == 10) ≡ false) word

-- neither has a blank or a line feed
pub record AreWords (named : Named) : Type 0 where
  pub name : IsWord named.name
  pub version : IsWord named.version

-- as an answer writes it
abbrev pub text_of : Named → List ℕ
text_of named = named.name ++ (codes " " ++ named.version)

-- where it is, if its line begins at this byte
abbrev pub place_of : ℕ → Named → Version
place_of at named = record {
  name = at;
  name_length = length named.name;
  version = at + length named.name + 1;
  version_length = length named.version;
}

-- where those are that have a line each, of which the first begins at this byte
abbrev pub places_from : ℕ → List Named → List Version
places_from at [] = []
places_from at (named ∷ rest) = place_of at named ∷ places_from (at + (length (text_of named) + 1)) rest
