-- Where a line has no star, none of its words has one.
use Rattle.std.proofs.Common.{◌≡◌, ℕ, suc, ◌-◌, ◌+◌, ◌==◌, ◌&&◌, ◌++◌, Bool, true, false, cond, List, [], ◌∷◌, refl}
use Rattle.std.proofs.Common.{ap, ◌∙◌, arith, length, filter, None, Some}
use Rattle.std.specs.Prelude.{take, drop, nat_lt, Option, if◌then◌else◌}
use Rattle.std.proofs.lemmas.Bool.{or_from, or_parts}
use Rattle.std.proofs.lemmas.Bool.Decides.{nat_tests}
use Rattle.std.proofs.lemmas.List.Folds.{list_any-append}
use Rattle.script_text.proofs.NumberWords.{digit_of}
use Rattle.script_packages.proofs.Words.{begun_word, bytes_eq, codes, favored_place, is_digit, is_starred, list_any}
use Rattle.script_packages.proofs.Words.{nat_eq, number_32, number_of, option_and_then, position_from, value_from}
use Rattle.script_packages.proofs.Words.{version_of, with_digit, words, words_from}

abbrev is_star : ℕ → Bool
is_star b = nat_eq b 42

unstarred : (word : List ℕ) → list_any is_star word ≡ false → is_starred word ≡ false
unstarred [] none = refl
unstarred (x ∷ []) none = ap (λ t. t && true) (or_parts _ _ none).0
unstarred (x ∷ y ∷ ys) none =
    let shorter : length (x ∷ y ∷ ys) - 1 ≡ suc (length (y ∷ ys) - 1) = omega arith in
    ap (λ n. bytes_eq (drop n (x ∷ y ∷ ys)) (codes "*")) shorter ∙ unstarred (y ∷ ys) (or_parts _ _ none).1

begun_unstarred : (begun : List ℕ) → list_any is_star begun ≡ false → list_any is_starred (begun_word begun) ≡ false
begun_unstarred [] none = refl
begun_unstarred (b ∷ bs) none = or_from _ _ (unstarred (b ∷ bs) none) refl

words_unstarred : (begun line : List ℕ) → list_any is_star begun ≡ false → list_any is_star line ≡ false →
    list_any is_starred (words_from begun line) ≡ false
words_unstarred begun [] none left = begun_unstarred begun none
words_unstarred begun (b ∷ bs) none left =
    elim (b == 32) as (λ t. list_any is_starred
    (if t then begun_word begun ++ words_from [] bs else words_from (begun ++ b ∷ []) bs) ≡ false) [
      | true ↦ list_any-append is_starred (begun_word begun) (words_from [] bs)
          ∙ or_from _ _ (begun_unstarred begun none) (words_unstarred [] bs refl (or_parts _ _ left).1)
      | false ↦ words_unstarred (begun ++ b ∷ []) bs
          (list_any-append is_star begun (b ∷ []) ∙ or_from _ _ none (or_from _ _ (or_parts _ _ left).0 refl))
          (or_parts _ _ left).1
    ]

none_filtered : (all : List (List ℕ)) → list_any is_starred all ≡ false → filter is_starred all ≡ []
none_filtered [] none = refl
none_filtered (w ∷ ws) none =
    ap (λ t. if t then w ∷ filter is_starred ws else filter is_starred ws) (or_parts _ _ none).0
    ∙ none_filtered ws (or_parts _ _ none).1

none_placed : (n : ℕ) (all : List (List ℕ)) → list_any is_starred all ≡ false → position_from is_starred n all ≡ None
none_placed n [] none = refl
none_placed n (w ∷ ws) none =
    ap (λ t. cond t (Some n) (position_from is_starred (n + 1) ws)) (or_parts _ _ none).0
    ∙ none_placed (n + 1) ws (or_parts _ _ none).1

pub no_star : (line : List ℕ) → list_any is_star line ≡ false → favored_place (words line) ≡ Some None
no_star line none =
    let unstarred = words_unstarred [] line refl none in
    ap (λ l. if nat_lt 1 (length l) then None else Some (position_from is_starred 0 (words line)))
    (none_filtered (words line) unstarred)
    ∙ ap Some (none_placed 0 (words line) unstarred)

is_no_star : (b : ℕ) → is_digit b ≡ true → is_star b ≡ false
is_no_star b digit = grind (arith, nat_tests, digit)

-- digits have no star
digits_unstarred : (n v : ℕ) (word : List ℕ) → value_from n word ≡ Some v → list_any is_star word ≡ false
digits_unstarred n v [] h = refl
digits_unstarred n v (b ∷ word) h = by_digit (with_digit n b) (λ m k. digits_unstarred m v word k) refl h
  where
    by_digit : (o : Option ℕ) → ((m : ℕ) → value_from m word ≡ Some v → list_any is_star word ≡ false) →
        with_digit n b ≡ o →
        option_and_then (λ m. value_from m word) o ≡ Some v → list_any is_star (b ∷ word) ≡ false
    by_digit None later e k = cc
    by_digit (Some m) later e k = or_from _ _ (is_no_star b (digit_of n b m e)) (later m k)

number_unstarred : (v : ℕ) (word : List ℕ) → number_of word ≡ Some v → list_any is_star word ≡ false
number_unstarred v [] h = refl
number_unstarred v (b ∷ word) h = by_length (nat_lt 20 (length (b ∷ word))) h
  where
    by_length : (long : Bool) → (if long then None else value_from 0 (b ∷ word)) ≡ Some v →
        list_any is_star (b ∷ word) ≡ false
    by_length true k = cc
    by_length false k = digits_unstarred 0 v (b ∷ word) k

pub version_of_number : (v : ℕ) (word : List ℕ) → number_of word ≡ Some v → version_of word ≡ number_32 word
version_of_number v word h =
    ap (λ t. if t then number_32 (take (length word - 1) word) else number_32 word)
    (unstarred word (number_unstarred v word h))
