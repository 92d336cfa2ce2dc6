-- What is written to a buffer.
use Rattle.std.specs.Prelude.{ℕ, List, ◌++◌, drop, length}

-- the text at the start of a buffer, and behind it what is there
abbrev pub written : List ℕ → List ℕ → List ℕ
written text buffer = text ++ drop (length text) buffer
