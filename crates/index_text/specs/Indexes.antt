-- The indexes of a text, and the lines of each.
use Rattle.std.specs.Prelude.{ℕ, ◌+◌, ◌^◌, Bool, true, false, nat_lt, List, [], ◌∷◌, length, Option, None, Some}
use Rattle.std.specs.Prelude.{if◌then◌else◌, codes}
use Rattle.std.specs.List.{list_all}
use Rattle.std.specs.Str.{bytes_eq}
use Rattle.index_text.specs.Entries.{cut, put_front}
use Rattle.script_text.specs.Lines.{is_printed, lines}
use Rattle.script_text.specs.Statements.{is_comment}
use Rattle.script_text.specs.Words.{words}

-- a line's words, with its number; no words if a byte of it isn't printed
pub record NumberedWords : Type 0 where
  pub number : ℕ
  pub words : Option (List (List ℕ))

abbrev pub words_in : List ℕ → Option (List (List ℕ))
words_in line = if list_all is_printed line then Some (words line) else None

-- a request or a version has at most 2^21 words
abbrev pub are_too_many : List (List ℕ) → Bool
are_too_many words = nat_lt (2 ^ 21) (length words)

-- a line without words, or a comment
abbrev pub is_skipped : Option (List (List ℕ)) → Bool
is_skipped None = false
is_skipped (Some []) = true
is_skipped (Some (word ∷ rest)) = is_comment word

-- the other lines, of which the first has this number
abbrev pub numbered : ℕ → List (List ℕ) → List NumberedWords
numbered n [] = []
numbered n (line ∷ rest) =
    if is_skipped (words_in line) then numbered (n + 1) rest
    else record { number = n; words = words_in line } ∷ numbered (n + 1) rest

-- the first word is `request`
abbrev pub is_request : Option (List (List ℕ)) → Bool
is_request (Some (word ∷ rest)) = bytes_eq word (codes "request")
is_request _ = false

abbrev pub begins_index : NumberedWords → Bool
begins_index line = is_request line.words

-- the lines of each index of a text. What is before the first request is an index too, without a request
abbrev pub indexes_of : List ℕ → List (List NumberedWords)
indexes_of text = cut begins_index (numbered 1 (lines text))

-- the parts, with these lines before them, if there are some
abbrev pub before_parts : List NumberedWords → List (List NumberedWords) → List (List NumberedWords)
before_parts [] parts = parts
before_parts (line ∷ lines) parts = put_front begins_index (line ∷ lines) parts
