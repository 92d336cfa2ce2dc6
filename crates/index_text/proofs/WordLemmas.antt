-- The first word of a line, and those behind it.
use Rattle.std.specs.Prelude.{if◌then◌else◌, slice_get, IfSome, not, ◌≢◌}
use Rattle.std.proofs.Common.{◌≡◌, ◌∙◌, ℕ, ◌+◌, ◌<◌, ◌==◌, Bool, true, false, cond, List, [], ◌∷◌, ◌++◌, length, suc}
use Rattle.std.proofs.Common.{take, drop, arith, refl, ap, sym, append-nil, append_assoc}
use Rattle.std.specs.List.{position_or_len}
use Rattle.std.proofs.lemmas.Bool.Decides.{nat_tests}
use Rattle.script_text.specs.Words.{words, words_from, begun_word}

abbrev pub is_blank : ℕ → Bool
is_blank byte = byte == 32

-- how many bytes come before the first blank
abbrev pub to_blank : List ℕ → ℕ
to_blank line = position_or_len is_blank line

-- of a list with one element more in front
behind_first : (front : List ℕ) (b : ℕ) (line : List ℕ) (n : ℕ)
    → (front ++ take (1 + n) (b ∷ line)) ∷ words (drop (1 + n) (b ∷ line))
    ≡ (front ++ b ∷ take n line) ∷ words (drop n line)
behind_first front b line n =
    let one : 1 + n ≡ suc n = omega arith in
    ap (λ k. (front ++ take k (b ∷ line)) ∷ words (drop k (b ∷ line))) one

-- a word that has begun ends at the first blank
word_ends : (x : ℕ) (begun line : List ℕ)
    → words_from (x ∷ begun) line ≡ ((x ∷ begun) ++ take (to_blank line) line) ∷ words (drop (to_blank line) line)
word_ends x begun [] = ap (λ word. word ∷ []) (sym (append-nil (x ∷ begun)))
word_ends x begun (b ∷ line) = by_test (b == 32) refl (word_ends x (begun ++ b ∷ []) line)
  where
    left : ℕ
    left = to_blank line

    by_test : (v : Bool) → (b == 32) ≡ v
        → words_from ((x ∷ begun) ++ b ∷ []) line ≡ (((x ∷ begun) ++ b ∷ []) ++ take left line) ∷ words (drop left line)
        → words_from (x ∷ begun) (b ∷ line)
        ≡ ((x ∷ begun) ++ take (to_blank (b ∷ line)) (b ∷ line)) ∷ words (drop (to_blank (b ∷ line)) (b ∷ line))
    by_test true e further =
        ap (λ v. if v then begun_word (x ∷ begun) ++ words_from [] line else words_from ((x ∷ begun) ++ b ∷ []) line) e
        ∙ ap (λ word. word ∷ words line) (sym (append-nil (x ∷ begun)))
        ∙ ap (λ rest. ((x ∷ begun) ++ []) ∷ rest)
        (sym (ap (λ v. if v then begun_word [] ++ words_from [] line else words_from ([] ++ b ∷ []) line) e))
        ∙ sym (ap (λ v. ((x ∷ begun) ++ take (cond (not v) (1 + left) 0) (b ∷ line))
        ∷ words (drop (cond (not v) (1 + left) 0) (b ∷ line))) e)
    by_test false e further =
        ap (λ v. if v then begun_word (x ∷ begun) ++ words_from [] line else words_from ((x ∷ begun) ++ b ∷ []) line) e
        ∙ further
        ∙ ap (λ word. word ∷ words (drop left line)) (append_assoc (x ∷ begun) (b ∷ []) (take left line))
        ∙ sym (ap (λ v. ((x ∷ begun) ++ take (cond (not v) (1 + left) 0) (b ∷ line))
        ∷ words (drop (cond (not v) (1 + left) 0) (b ∷ line))) e
        ∙ behind_first (x ∷ begun) b line left)

no_blank : (b : ℕ) → b ≢ 32 → (b == 32) ≡ false
no_blank b h = grind (arith, nat_tests, h)

-- the first word of a line that begins with it
pub first_word : (line : List ℕ) → 0 < length line → IfSome (slice_get line 0) (λ b. b ≢ 32)
    → words line ≡ take (to_blank line) line ∷ words (drop (to_blank line) line)
first_word [] some begins = absurd (omega (arith, some))
first_word (b ∷ line) some begins =
    ap (λ v. if v then [] ++ words_from [] line else words_from (b ∷ []) line) (no_blank b begins)
    ∙ word_ends b [] line
    ∙ sym (ap (λ v. take (cond (not v) (1 + left) 0) (b ∷ line)
    ∷ words (drop (cond (not v) (1 + left) 0) (b ∷ line))) (no_blank b begins)
    ∙ behind_first [] b line left)
  where
    left : ℕ
    left = to_blank line

-- it isn't empty
pub some_bytes : (line : List ℕ) → 0 < length line → IfSome (slice_get line 0) (λ b. b ≢ 32) → 0 < to_blank line
some_bytes [] some begins = absurd (omega (arith, some))
some_bytes (b ∷ line) some begins =
    omega (arith, ap (λ v. cond (not v) (1 + to_blank line) 0) (no_blank b begins))

pub some : (n : ℕ) → (n == 0) ≡ false → 0 < n
some n h = grind (arith, nat_tests, h)
