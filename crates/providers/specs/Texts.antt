-- The texts that messages are made of, as their bytes. N are the names, S the solvables.
use Rattle.std.specs.Prelude.{◌≡◌, ◌↔◌, ◌⊎◌, ℕ, List, [], ◌∷◌, ◌++◌, Contains, map, codes, Option, None, Some}
use Rattle.std.specs.Cmp.Lexicographic.{slice_cmp}
use Rattle.std.specs.List.{join_by}
use Rattle.std.specs.List.Sorted.{IsStrictlySortedBy}
use Rattle.std.specs.Ordering.{nat_cmp}
use Rattle.std.specs.Str.{trim_end}
use Rattle.std.specs.String.{string_bytes}
use Rattle.std.specs.declared.string.String.{String}
use Rattle.typed_ids.specs.declared.solvable_id_or_root.SolvableIdOrRoot.{SolvableIdOrRoot}
use Rattle.typed_ids.specs.declared.solvable_id_or_root.SolvableIdOrRoot.TheVariants.{Root, Solvable}
use Rattle.typed_ids.specs.declared.string_id.StringId.{StringId}
use Rattle.typed_ids.specs.declared.version_set_id.VersionSetId.{VersionSetId}
use Rattle.providers.specs.Provider.{Universe, sets_of}
use Rattle.providers.specs.declared.requirement.Requirement.{Requirement}

-- the fixed texts of an interner
pub record Texts (N S : Type 0) : Type 0 where
  pub solvable : S → List ℕ
  pub name : N → List ℕ
  pub version_set : VersionSetId → List ℕ
  pub string : StringId → List ℕ

-- the text comes after what was there
abbrev pub IsAppended : {A : Type 0} → String A → String A → List ℕ → Type 0
IsAppended old new text = string_bytes new ≡ string_bytes old ++ text

-- some text does
abbrev pub IsContinued : {A : Type 0} → String A → String A → Type 0
IsContinued old new = (text : List ℕ) × IsAppended old new text

-- a text of this kind does
abbrev pub IsContinuedBy : {A : Type 0} → String A → String A → (List ℕ → Type 0) → Type 0
IsContinuedBy old new IsText = (text : List ℕ) × IsAppended old new text × IsText text

abbrev pub IsSameText : {A : Type 0} → String A → String A → Type 0
IsSameText old new = string_bytes new ≡ string_bytes old

module _ {N S : Type 0} (universe : Universe N S) (texts : Texts N S) where
  -- of a version set: its package's name, a blank and its own text, without white space at the end
  abbrev pub single_text : VersionSetId → List ℕ
  single_text v = trim_end (texts.name (universe.set_name v) ++ 32 ∷ texts.version_set v)

  -- of a requirement: the texts of its version sets, with a bar between blanks between them
  abbrev pub requirement_text : Requirement → List ℕ
  requirement_text r = join_by single_text (codes " | ") (sets_of universe r)

-- of the root's key, and of a solvable's
abbrev pub key_text : {S : Type 0} → (S → List ℕ) → SolvableIdOrRoot S → List ℕ
key_text text Root = codes "root"
key_text text (Solvable s) = text s

-- the text is the interner's own, if it has one, or else as the default has it
abbrev pub IsOwnOr : (List ℕ → Type 0) → Option (List ℕ) → List ℕ → Type 0
IsOwnOr IsDefault None text = IsDefault text
IsOwnOr IsDefault (Some own) text = (text ≡ own) ⊎ IsDefault text

-- the texts in ascending order of their bytes, each once
pub record IsAscending (texts ascending : List (List ℕ)) : Type 0 where
  pub sorted : IsStrictlySortedBy (slice_cmp nat_cmp) ascending
  pub members : (text : List ℕ) → Contains texts text ↔ Contains ascending text

-- a name, a blank and the texts in ascending order, with a bar between blanks between them
pub record IsMerged (name : List ℕ) (texts : List (List ℕ)) (merged : List ℕ) : Type 0 where
  pub ascending : List (List ℕ)
  pub is_ascending : IsAscending texts ascending
  pub is : merged ≡ name ++ 32 ∷ join_by (λ text. text) (codes " | ") ascending

module _ {N S : Type 0} (universe : Universe N S) (texts : Texts N S) (own_name : S → Option (List ℕ)) where
  -- of the name of a solvable's package: by default, as any name's
  abbrev pub IsSolvableName : S → List ℕ → Type 0
  IsSolvableName s = IsOwnOr (λ text. text ≡ texts.name (universe.solvable_name s)) (own_name s)

  -- of several solvables, by default: nothing for none, else the first one's name with all their texts
  abbrev pub IsMergedByDefault : List S → List ℕ → Type 0
  IsMergedByDefault [] text = text ≡ []
  IsMergedByDefault (s ∷ rest) text =
      (name : List ℕ) × IsSolvableName s name × IsMerged name (map texts.solvable (s ∷ rest)) text
