-- What a field of relations is made of.
use Rattle.std.specs.Prelude.{ℕ, ◌==◌, Bool, not, List, filter}
use Rattle.std.specs.Char.{is_ascii_whitespace}
use Rattle.std.specs.List.{list_all, slice_split}

abbrev pub is_blank : List ℕ → Bool
is_blank text = list_all is_ascii_whitespace text

-- `a | b, c`: groups that commas join; a part that is blank is none
abbrev pub groups : List ℕ → List (List ℕ)
groups text = filter (λ part. not (is_blank part)) (slice_split (λ b. b == 44) text)

-- `a | b`: alternatives that bars join
abbrev pub alternatives : List ℕ → List (List ℕ)
alternatives group = slice_split (λ b. b == 124) group
