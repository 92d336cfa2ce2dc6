-- Beginnings of texts.
use Rattle.std.proofs.Common.{◌≡◌, ℕ, List, ◌++◌, length, take, drop, ap, ◌∙◌, append_assoc}
use Rattle.std.proofs.Math.Seq.{take-append_seam}
use Rattle.std.specs.Io.{StartsWith}
use Rattle.std.proofs.KnownBytes.{starts_with_rest}

pub begins_with : (all p rest : List ℕ) → all ≡ p ++ rest → StartsWith all p
begins_with all p rest e = ap (take (length p)) e ∙ take-append_seam p rest

-- a beginning of a text is one of a longer text
pub begins_more : (all more p : List ℕ) → take (length p) all ≡ p → take (length p) (all ++ more) ≡ p
begins_more all more p h =
    begins_with (all ++ more) p (drop (length p) all ++ more)
    (ap (λ l. l ++ more) (starts_with_rest all p h) ∙ append_assoc p (drop (length p) all) more)

pub begins_whole : (p more : List ℕ) → take (length p) (p ++ more) ≡ p
begins_whole p more = take-append_seam p more
