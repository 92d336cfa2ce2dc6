-- Words that begin with a mark.
use Rattle.std.proofs.Common.{◌≡◌, ◌≢◌, ℕ, ◌==◌, ◌<◌, Bool, true, false, List, [], ◌∷◌, ◌++◌, length, arith, refl, ap}
use Rattle.std.proofs.Common.{sym, ◌∙◌}
use Rattle.std.specs.Prelude.{if◌then◌else◌, slice_get, IfSome}
use Rattle.std.proofs.lemmas.Bool.Decides.{nat_tests}
use Rattle.script_text.specs.Words.{words, words_from, begun_word}

-- words with a byte before the first one
abbrev marked : ℕ → List (List ℕ) → List (List ℕ)
marked mark [] = []
marked mark (w ∷ ws) = (mark ∷ w) ∷ ws

-- a word is begun by a mark and what was begun of it
marked_from : (mark b : ℕ) (begun text : List ℕ) → words_from (mark ∷ b ∷ begun) text
    ≡ marked mark (words_from (b ∷ begun) text)
marked_from mark b begun [] = refl
marked_from mark b begun (t ∷ text) =
    by_test (t == 32) (marked_from mark b (begun ++ t ∷ []) text)
  where
    by_test : (ends : Bool) → words_from (mark ∷ b ∷ begun ++ t ∷ []) text
        ≡ marked mark (words_from (b ∷ begun ++ t ∷ []) text)
        → (if ends then begun_word (mark ∷ b ∷ begun) ++ words_from [] text else words_from
        (mark ∷ b ∷ begun ++ t ∷ []) text)
        ≡ marked mark (if ends then begun_word (b ∷ begun) ++ words_from [] text else words_from
        (b ∷ begun ++ t ∷ []) text)
    by_test true further = refl
    by_test false further = further

other_byte : (b : ℕ) → b ≢ 32 → (b == 32) ≡ false
other_byte b other = grind (arith, nat_tests, other)

begins_word : (mark : ℕ) (text : List ℕ) → mark ≢ 32 → words (mark ∷ text) ≡ words_from (mark ∷ []) text
begins_word mark text other =
    ap (λ ends. if ends then words text else words_from (mark ∷ []) text) (other_byte mark other)

-- a mark alone
pub marked_alone : (mark : ℕ) (text : List ℕ) → mark ≢ 32 → (IfSome (slice_get text 0) (λ b. b ≡ 32)) →
    words (mark ∷ text) ≡ (mark ∷ []) ∷ words text
marked_alone mark [] other ends = begins_word mark [] other
marked_alone mark (b ∷ text) other blank =
    begins_word mark (b ∷ text) other
    ∙ ap (λ ends. if ends then (mark ∷ []) ∷ words text else words_from (mark ∷ b ∷ []) text) (ap (λ x. x == 32) blank)
    ∙ ap (λ ws. (mark ∷ []) ∷ ws) (sym (ap (λ ends. if ends then words text else words_from (b ∷ []) text)
    (ap (λ x. x == 32) blank)))

-- a mark, and a word directly behind it
pub marked_word : (mark : ℕ) (text word : List ℕ) (ws : List (List ℕ)) → mark ≢ 32 → 0 < length text
    → IfSome (slice_get text 0) (λ b. b ≢ 32) → words text ≡ word ∷ ws → words (mark ∷ text) ≡ (mark ∷ word) ∷ ws
marked_word mark [] word ws other some begins is = absurd (omega (arith, some))
marked_word mark (b ∷ text) word ws other some begins is =
    begins_word mark (b ∷ text) other
    ∙ ap (λ ends. if ends then (mark ∷ []) ∷ words text else words_from (mark ∷ b ∷ []) text) (other_byte b begins)
    ∙ marked_from mark b [] text
    ∙ ap (marked mark) (sym (begins_word b text begins) ∙ is)
