-- The first word of a printed line, by how many bytes are those of a word.
use Rattle.std.specs.Prelude.{if◌then◌else◌}
use Rattle.std.proofs.Common.{◌≡◌, ℕ, ◌+◌, ◌==◌, ◌<◌, ◌≤◌, ◌⊎◌, inl, inr, Bool, true, false, cond, min, zero, suc}
use Rattle.std.proofs.Common.{List, []}
use Rattle.std.proofs.Common.{◌∷◌, ◌++◌, take, drop, length, arith, refl, sym, ap, subst, ◌∙◌, append_assoc, append-nil}
use Rattle.std.specs.List.{prefix_len}
use Rattle.std.proofs.lemmas.Bool.{cases_lt}
use Rattle.std.proofs.lemmas.List.{take-append-drop}
use Rattle.script_text.specs.Words.{words, words_from, begun_word, is_graphic}
use Rattle.std.proofs.lemmas.Bool.Decides.{nat_tests}
use Rattle.script_text.specs.Lines.{is_printed, IsPrinted}
use Rattle.script_text.proofs.Prefixes.{ends_in_sixteen}
use Rattle.script_text.proofs.Printing.{both}

-- so many bytes of a line are of a word, and there the line or the word ends
abbrev pub Ends : List ℕ → ℕ → ℕ → Type 0
Ends line n k = (k ≤ length line) × (k ≤ n) × ((length line ≤ k) ⊎ (n ≤ k))

graphic_no_blank : (b : ℕ) → is_graphic b ≡ true → (b == 32) ≡ false
graphic_no_blank b graphic = grind (arith, nat_tests, graphic)

other_blank : (b : ℕ) → is_printed b ≡ true → is_graphic b ≡ false → (b == 32) ≡ true
other_blank b printed other = grind (arith, nat_tests, printed, other)

word_goes_on : (begun line more : List ℕ) (k : ℕ) → IsPrinted line → Ends line (prefix_len is_graphic (line ++ more)) k
    → words_from begun line ≡ begun_word (begun ++ take k line) ++ words (drop k line)
word_goes_on begun [] more zero printed ends = ap begun_word (sym (append-nil begun))
    ∙ sym (append-nil (begun_word (begun ++ [])))
word_goes_on begun [] more (suc k) printed ends = absurd (omega (arith, ends.0))
word_goes_on begun (b ∷ line) more k printed ends =
    by_test (is_graphic b) refl k ends (λ j. word_goes_on (begun ++ b ∷ []) line more j
    (both (is_printed b) _ printed).1)
  where
    rest : ℕ
    rest = prefix_len is_graphic (line ++ more)

    by_test : (v : Bool) → is_graphic b ≡ v → (k : ℕ) → Ends (b ∷ line) (cond (is_graphic b) (1 + rest) 0) k
        → ((j : ℕ) → Ends line rest j → words_from (begun ++ b ∷ []) line
        ≡ begun_word ((begun ++ b ∷ []) ++ take j line) ++ words (drop j line))
        → words_from begun (b ∷ line) ≡ begun_word (begun ++ take k (b ∷ line)) ++ words (drop k (b ∷ line))
    by_test false e zero h further =
        let blank = other_blank b (both (is_printed b) _ printed).0 e in
        ap (λ ends. if ends then begun_word begun ++ words_from [] line else words_from (begun ++ b ∷ []) line) blank
        ∙ sym ((λ i. begun_word (append-nil begun i) ++ (if blank i then begun_word [] ++ words_from [] line else
        words_from ([] ++ b ∷ []) line)))
    by_test false e (suc k) h further = absurd (omega (arith, subst (λ v. suc k ≤ cond v (1 + rest) 0) e h.1))
    by_test true e zero h further =
        absurd (none (subst (λ v. (suc (length line) ≤ 0) ⊎ (cond v (1 + rest) 0 ≤ 0)) e h.2))
      where
        none : (suc (length line) ≤ 0) ⊎ (1 + rest ≤ 0) → ⊥
        none (inl l) = omega (arith, l)
        none (inr l) = omega (arith, l)
    by_test true e (suc k) h further =
        ap (λ ends. if ends then begun_word begun ++ words_from [] line else words_from (begun ++ b ∷ []) line)
        (graphic_no_blank b e)
        ∙ further k (
          omega (arith, h.0),
          omega (arith, subst (λ v. suc k ≤ cond v (1 + rest) 0) e h.1),
          less (subst (λ v. (suc (length line) ≤ suc k) ⊎ (cond v (1 + rest) 0 ≤ suc k)) e h.2),
        )
        ∙ ap (λ l. begun_word l ++ words (drop k line)) (append_assoc begun (b ∷ []) (take k line))
      where
        less : (suc (length line) ≤ suc k) ⊎ (1 + rest ≤ suc k) → (length line ≤ k) ⊎ (rest ≤ k)
        less (inl l) = inl (omega (arith, l))
        less (inr l) = inr (omega (arith, l))

begun_whole : (xs : List ℕ) (k : ℕ) → 0 < k → k ≤ length xs → begun_word (take k xs) ≡ take k xs ∷ []
begun_whole [] k some within = absurd (omega (arith, some, within))
begun_whole (x ∷ xs) zero some within = absurd (omega (arith, some))
begun_whole (x ∷ xs) (suc k) some within = refl

-- the first word of a line with which a text begins, where so many of the text's first sixteen bytes come before
-- another one
pub first_word_ends : (line text : List ℕ) (found k : ℕ) → line ≡ take (length line) text → 16 ≤ length text
    → found ≡ prefix_len is_graphic (take 16 text) → found < 16 → 0 < k → IsPrinted line → Ends line found k →
    words line ≡ take k line ∷ words (drop k line)
first_word_ends line text found k begins room is short some printed ends =
    let more = drop (length line) text in
    let whole : text ≡ line ++ more = sym (take-append-drop (length line) text) ∙ ap (λ l. l ++ more) (sym begins) in
    let counted : found ≡ prefix_len is_graphic (line ++ more) =
    sym (ends_in_sixteen is_graphic text 0 found room is short) ∙ ap (prefix_len is_graphic) whole in
    word_goes_on [] line more k printed (subst (λ n. Ends line n k) counted ends)
    ∙ ap (λ ws. ws ++ words (drop k line)) (begun_whole line k some ends.0)

pub ends : (k n l : ℕ) → k ≡ min n l → (k ≤ l) × (k ≤ n) × ((l ≤ k) ⊎ (n ≤ k))
ends k n l is = (omega (arith, is), omega (arith, is), by_order (cases_lt l n))
  where
    by_order : (l < n) ⊎ (n ≤ l) → (l ≤ k) ⊎ (n ≤ k)
    by_order (inl h) = inl (omega (arith, is, h))
    by_order (inr h) = inr (omega (arith, is, h))
