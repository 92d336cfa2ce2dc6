-- The first part of a list of words: what is before the word at a place, and what is behind it.
use Rattle.std.proofs.Common.{◌≡◌, ◌∙◌, ℕ, ◌+◌, ◌<◌, true, false, List, [], ◌∷◌, ◌++◌, length, take, drop, Option}
use Rattle.std.proofs.Common.{None, Some, arith, refl, ap, sym}
use Rattle.std.specs.Borrow.{Bor}
use Rattle.std.specs.List.{slice_split}
use Rattle.std.specs.Str.{bytes_eq}
use Rattle.std.specs.Prelude.{slice_index_or, is_some, codes}
use Rattle.std.proofs.lemmas.List.{take_more, take_all, drop_all, at_drop_more, map-append}
use Rattle.std.proofs.lemmas.List.Splits.{length-slice_split}
use Rattle.index_text.specs.Entries.{is_entry, cut, put_front, condition_in_parts}
use Rattle.index_text.specs.Formats.{VersionFormat}
use Rattle.index_text.specs.Sets.{texts, parts_behind}
use Rattle.index_text.proofs.Cuts.{onto_front, onto_front-more, onto_front-ends, onto_front-last}
use Rattle.index_text.proofs.Cuts.{put_front-starts}

abbrev pub Word : Type 0
Word = Bor (List ℕ)

module _ (words : List Word) (i : ℕ) (d : Word) (here : i < length words) where
  abbrev pub word : List ℕ
  word = (slice_index_or words i d).now

  -- the words up to this one
  texts_more : texts (take (i + 1) words) ≡ texts (take i words) ++ word ∷ []
  texts_more = ap texts (take_more words i d here) ∙ map-append (λ (w : Word). w.now) (take i words)
      (slice_index_or words i d ∷ [])

  module _ (between : List ℕ) where
    pub part_goes_on : bytes_eq between (slice_index_or words i d).now ≡ false
        → slice_split (bytes_eq between) (texts words) ≡ onto_front (texts (take i words))
        (slice_split (bytes_eq between) (texts (drop i words)))
        → slice_split (bytes_eq between) (texts words)
        ≡ onto_front (texts (take (i + 1) words)) (slice_split (bytes_eq between) (texts (drop (i + 1) words)))
    part_goes_on h so_far =
        so_far ∙ at_drop_more (λ rest. onto_front (texts (take i words))
        (slice_split (bytes_eq between) (texts rest))) words i d here
        ∙ onto_front-more (bytes_eq between) (texts (take i words)) word (texts (drop (i + 1) words)) h
        ∙ ap (λ front. onto_front front (slice_split (bytes_eq between) (texts (drop (i + 1) words)))) (sym texts_more)

    pub part_ends : bytes_eq between (slice_index_or words i d).now ≡ true
        → slice_split (bytes_eq between) (texts words) ≡ onto_front (texts (take i words))
        (slice_split (bytes_eq between) (texts (drop i words)))
        → slice_split (bytes_eq between) (texts words) ≡ texts (take i words) ∷ slice_split (bytes_eq between)
        (texts (drop (i + 1) words))
    part_ends h so_far =
        so_far ∙ at_drop_more (λ rest. onto_front (texts (take i words))
        (slice_split (bytes_eq between) (texts rest))) words i d here
        ∙ onto_front-ends (bytes_eq between) (texts (take i words)) word (texts (drop (i + 1) words)) h

  pub entry_ends : is_entry (slice_index_or words i d).now ≡ true
      → cut is_entry (texts words) ≡ put_front is_entry (texts (take i words)) (cut is_entry (texts (drop i words)))
      → cut is_entry (texts words) ≡ texts (take i words) ∷ cut is_entry (texts (drop i words))
  entry_ends h so_far =
      so_far ∙ at_drop_more (λ rest. put_front is_entry (texts (take i words)) (cut is_entry (texts rest))) words i
      d here
      ∙ put_front-starts is_entry (texts (take i words)) word (cut is_entry (texts (drop (i + 1) words))) h
      ∙ sym (at_drop_more (λ rest. texts (take i words) ∷ cut is_entry (texts rest)) words i d here)

-- where no word separates, all words are one part
pub all_before : (between : List ℕ) (words : List Word) (i : ℕ) → i ≡ length words
    → slice_split (bytes_eq between) (texts words) ≡ onto_front (texts (take i words))
    (slice_split (bytes_eq between) (texts (drop i words)))
    → slice_split (bytes_eq between) (texts words) ≡ texts words ∷ []
all_before between words i is so_far =
    so_far ∙ ap (λ rest. onto_front (texts (take i words)) (slice_split (bytes_eq between) (texts rest)))
    (drop_all i words (omega (arith, is)))
    ∙ onto_front-last (bytes_eq between) (texts (take i words))
    ∙ ap (λ front. texts front ∷ []) (take_all i words (omega (arith, is)))

-- a second `if` is no condition
pub no_condition : (format : VersionFormat) (front : List (List ℕ)) (parts : List (List (List ℕ))) → 0 < length parts
    → None ≡ condition_in_parts format (front ∷ parts)
no_condition format front [] h = absurd (omega (arith, h))
no_condition format front (part ∷ parts) h = refl

pub second_if : (format : VersionFormat) (words : List (List ℕ)) (front : List (List ℕ))
    (rest : Option (Bor (List Word))) → is_some rest ≡ true
    → slice_split (bytes_eq (codes "if")) words ≡ front ∷ parts_behind (bytes_eq (codes "if")) rest
    → None ≡ condition_in_parts format (slice_split (bytes_eq (codes "if")) words)
second_if format words front None some is = cc
second_if format words front (Some rest) some is =
    no_condition format front (slice_split (bytes_eq (codes "if")) (texts rest.now))
    (omega (arith, length-slice_split (bytes_eq (codes "if")) (texts rest.now)))
    ∙ ap (condition_in_parts format) (sym is)
