-- What was expected where words can't go on.
use Rattle.std.proofs.Common.{◌≡◌, ◌∙◌, ℕ, Bool, true, false, List, ◌∷◌, Some, ap, sym}
use Rattle.std.specs.Prelude.{Ok, Err, if◌then◌else◌}
use Rattle.index_text.specs.Expected.{expected_from, expected_in, expected_of, or_expected, place_behind}
use Rattle.index_text.specs.Formats.{VersionFormat}
use Rattle.index_text.specs.Indexes.{are_too_many}
use Rattle.index_text.specs.declared.expected.Expected.{Expected}
use Rattle.index_text.specs.declared.expected.Expected.TheVariants as Is
use Rattle.index_text.specs.declared.place.LineKind.{LineKind}
use Rattle.index_text.specs.declared.place.Place.{Place}
use Rattle.script_text.specs.Words.{words}

module _ (format : VersionFormat) (kind : LineKind) (place : Place) (text word rest : List ℕ)
    (split : words text ≡ word ∷ words rest) where
  -- a word that can stand there is passed
  pub goes_on : (next : Place) → Ok next ≡ place_behind format kind place word
      → expected_from format kind next (words rest) ≡ expected_from format kind place (words text)
  goes_on next behind =
      ap (or_expected (λ (at : Place). expected_from format kind at (words rest))) behind
      ∙ sym (ap (expected_from format kind place) split)

  -- at another one something was expected
  pub stops : (expected : Expected) → Err expected ≡ place_behind format kind place word
      → expected ≡ expected_from format kind place (words text)
  stops expected behind =
      ap (or_expected (λ (at : Place). expected_from format kind at (words rest))) behind
      ∙ sym (ap (expected_from format kind place) split)

-- a line with too many words should have ended; another one is followed
module _ (format : VersionFormat) (kind : LineKind) (words : List (List ℕ)) where
  abbrev by_length : Bool → Expected
  by_length b = if b then Is.LineEnd else expected_of format kind words

  pub surplus : true ≡ are_too_many words → Is.LineEnd ≡ expected_in format kind (Some words)
  surplus many = ap by_length many

  pub no_surplus : false ≡ are_too_many words → expected_of format kind words ≡ expected_in format kind (Some words)
  no_surplus few = ap by_length few
