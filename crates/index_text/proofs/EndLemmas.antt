-- What is before the first `..` of a word, and what is behind it.
use Rattle.std.proofs.Common.{◌≡◌, ◌∙◌, ℕ, ◌+◌, ◌-◌, ◌<◌, true, false, List, [], ◌∷◌, ◌++◌, length, take, drop, get_or}
use Rattle.std.proofs.Common.{Option, None, Some, refl, ap, sym, arith, append_assoc}
use Rattle.std.specs.Prelude.{option_map, if◌then◌else◌}
use Rattle.std.proofs.lemmas.List.{take_more, take_all, drop_all, drop-drop, at_drop_more, length-drop, append-nil}
use Rattle.index_text.specs.Formats.{begins_with_dots, ends_of}

abbrev pub behind : List ℕ → Option (List ℕ × List ℕ) → Option (List ℕ × List ℕ)
behind front ends = option_map (λ (e : List ℕ × List ℕ). (front ++ e.0, e.1)) ends

-- the ends of a word of which these bytes were read
abbrev pub ends_from : List ℕ → ℕ → Option (List ℕ × List ℕ)
ends_from word i = behind (take i word) (ends_of (drop i word))

pub behind_nothing : (ends : Option (List ℕ × List ℕ)) → behind [] ends ≡ ends
behind_nothing None = refl
behind_nothing (Some e) = refl

behind_more : (front front' : List ℕ) (b : ℕ) (ends : Option (List ℕ × List ℕ)) → front' ≡ front ++ b ∷ []
    → behind front' ends ≡ behind front (option_map (λ (e : List ℕ × List ℕ). (b ∷ e.0, e.1)) ends)
behind_more front front' b None is = refl
behind_more front front' b (Some e) is =
    ap (λ f. Some (f ++ e.0, e.1)) is ∙ ap (λ f. Some (f, e.1)) (append_assoc front (b ∷ []) e.0)

module _ (word : List ℕ) (i : ℕ) (here : i < length word) where
  abbrev at_byte : List ℕ → Option (List ℕ × List ℕ)
  at_byte rest = if begins_with_dots rest then Some ([], drop 2 rest)
      else option_map (λ (e : List ℕ × List ℕ). (get_or word i 0 ∷ e.0, e.1)) (ends_of (drop (i + 1) word))

  at : ends_of (drop i word) ≡ at_byte (drop i word)
  at = at_drop_more ends_of word i 0 here ∙ sym (at_drop_more at_byte word i 0 here)

  -- what is behind a place
  pub rest_of : (j : ℕ) → take (length word - j) (drop j word) ≡ drop j word
  rest_of j = take_all (length word - j) (drop j word) (omega (arith, length-drop j word))

  -- no `..` begins here
  pub ends_go_on : begins_with_dots (drop i word) ≡ false → ends_from word i ≡ ends_of word
      → ends_from word (i + 1) ≡ ends_of word
  ends_go_on h so_far =
      behind_more (take i word) (take (i + 1) word) (get_or word i 0) (ends_of (drop (i + 1) word))
      (take_more word i 0 here)
      ∙ ap (behind (take i word)) (sym (at ∙ ap (λ t. if t then Some ([], drop 2 (drop i word))
      else option_map (λ (e : List ℕ × List ℕ). (get_or word i 0 ∷ e.0, e.1)) (ends_of (drop (i + 1) word))) h))
      ∙ so_far

  -- a `..` begins here
  pub ends_here : begins_with_dots (drop i word) ≡ true → ends_from word i ≡ ends_of word
      → Some (take i word, take (length word - (i + 2)) (drop (i + 2) word)) ≡ ends_of word
  ends_here h so_far =
      ap (λ front. Some (front, take (length word - (i + 2)) (drop (i + 2) word))) (sym (append-nil (take i word)))
      ∙ ap (λ rest. Some (take i word ++ [], rest)) (rest_of (i + 2) ∙ sym (drop-drop 2 i word))
      ∙ ap (behind (take i word)) (sym (at ∙ ap (λ t. if t then Some ([], drop 2 (drop i word))
      else option_map (λ (e : List ℕ × List ℕ). (get_or word i 0 ∷ e.0, e.1)) (ends_of (drop (i + 1) word))) h))
      ∙ so_far

-- a word without `..` has no ends
pub no_ends : (word : List ℕ) (i : ℕ) → i ≡ length word → ends_from word i ≡ ends_of word → None ≡ ends_of word
no_ends word i all so_far =
    ap (λ rest. behind (take i word) (ends_of rest)) (sym (drop_all i word (omega (arith, all)))) ∙ so_far
