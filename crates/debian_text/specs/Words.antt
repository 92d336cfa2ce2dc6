-- Parts of a text.
use Rattle.std.specs.Prelude.{ℕ, ◌+◌, ◌-◌, ◌==◌, ◌||◌, Bool, List, Option, None, Some, drop, length}
use Rattle.std.specs.Prelude.{option_and_then, option_map, take, if◌then◌else◌}
use Rattle.std.specs.Char.{is_ascii_alphanumeric, is_ascii_whitespace}
use Rattle.std.specs.List.{list_all, list_any, position, prefix_len, suffix_len}

-- what is before the first such byte, and what is behind it
abbrev pub cut_at : ℕ → List ℕ → Option (List ℕ × List ℕ)
cut_at byte text = option_map (λ n. (take n text, drop (n + 1) text)) (position (λ b. b == byte) text)

abbrev pub trimmed_start : List ℕ → List ℕ
trimmed_start text = drop (prefix_len is_ascii_whitespace text) text

abbrev pub trimmed_end : List ℕ → List ℕ
trimmed_end text = take (length text - suffix_len is_ascii_whitespace text) text

-- a text without white space at its ends
abbrev pub trimmed : List ℕ → List ℕ
trimmed text = trimmed_end (trimmed_start text)

-- the text, if it is a word: some bytes, and no white space
abbrev pub only_word : List ℕ → Option (List ℕ)
only_word text = if (length text == 0) || list_any is_ascii_whitespace text then None else Some text

-- the only word of a text
abbrev pub word_of : List ℕ → Option (List ℕ)
word_of text = only_word (trimmed text)

-- a letter, a digit or one of `+-.:~`
abbrev pub is_of_version : ℕ → Bool
is_of_version c = is_ascii_alphanumeric c || (c == 43) || (c == 45) || (c == 46) || (c == 58) || (c == 126)

abbrev pub only_version : List ℕ → Option (List ℕ)
only_version word = if list_all is_of_version word then Some word else None

-- the only word of a text, if it has no characters but those of versions
abbrev pub version_of : List ℕ → Option (List ℕ)
version_of text = option_and_then only_version (word_of text)
