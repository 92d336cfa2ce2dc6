-- Words of digits.
use Rattle.std.proofs.Common.{◌≡◌, ◌≢◌, ℕ, ◌+◌, ◌*◌, ◌-◌, ◌^◌, ◌<◌, ◌≤◌, ◌==◌, Bool, true, false, ◌&&◌, nat_lt, List}
use Rattle.std.proofs.Common.{[]}
use Rattle.std.proofs.Common.{◌∷◌, ◌++◌, length, drop, take, get_or, arith, refl, sym, ap, ap₂, ◌∙◌, append_assoc}
use Rattle.std.proofs.Common.{append-nil, lit<, Option, None, Some}
use Rattle.std.proofs.Common.{◌%◌}
use Rattle.std.proofs.Math.Nat.{pow-le-pow_right, mod-eq_of_lt}
use Rattle.std.specs.Prelude.{if◌then◌else◌, option_and_then, slice_get, IfSome}
use Rattle.std.proofs.lemmas.Bool.Decides.{nat_tests}
use Rattle.std.proofs.lemmas.Grind.{common_steps}
use Rattle.std.proofs.lemmas.List.{take_more, drop_more, take_all, drop_all, take-append-drop, length-take}
use Rattle.script_text.specs.Numbers.{is_digit, with_digit, value_from, number_of}
use Rattle.script_text.specs.Words.{words, words_from, begun_word, ends_word}

digit_by : (t u : Bool) (n v : ℕ) → (if t && u then Some n else None) ≡ Some v → t ≡ true
digit_by true u n v h = refl
digit_by false u n v h = cc

-- what goes on a number is a digit
pub digit_of : (n b v : ℕ) → with_digit n b ≡ Some v → is_digit b ≡ true
digit_of n b v h = digit_by (is_digit b) (nat_lt (n * 10 + (b - 48)) (2 ^ 64)) (n * 10 + (b - 48)) v h

fits : (n b : ℕ) → n < 10 ^ 18 → is_digit b ≡ true → nat_lt (n * 10 + (b - 48)) (2 ^ 64) ≡ true
fits n b small digit = grind (arith, nat_tests, small, digit)

pub small_enough : (n i : ℕ) → i ≤ 18 → n < 10 ^ i → n < 10 ^ 18
small_enough n i few small =
    let bound : 10 ^ i ≤ 10 ^ 18 = pow-le-pow_right {n = 10} (lit< tt) few in
    omega (arith, small)

pub one_digit_more : (n m i : ℕ) → n < 10 ^ i → m < 10 * (n + 1) → m < 10 ^ (i + 1)
one_digit_more n m i small more = grind (arith, common_steps, small, more)

-- a digit goes on a small number
digit_goes_on : (n b : ℕ) → n < 10 ^ 18 → is_digit b ≡ true → with_digit n b ≡ Some (n * 10 + (b - 48))
digit_goes_on n b small digit =
    ap₂ (λ t u. if t && u then Some (n * 10 + (b - 48)) else None) digit (fits n b small digit)

-- and wraps nowhere
not_wrapped : (n b : ℕ) → n < 10 ^ 18 → is_digit b ≡ true →
    (n * 10 % (2 ^ 64) + (b - 48)) % (2 ^ 64) ≡ n * 10 + (b - 48)
not_wrapped n b small digit = grind (arith, nat_tests, mod-eq_of_lt, small, digit)

one_more : (n b : ℕ) (xs : List ℕ) → value_from n (xs ++ b ∷ [])
    ≡ option_and_then (λ m. value_from m (b ∷ [])) (value_from n xs)
one_more n b [] = refl
one_more n b (x ∷ xs) =
    elim (with_digit n x) as (λ o. option_and_then (λ m. value_from m (xs ++ b ∷ [])) o
    ≡ option_and_then (λ m. value_from m (b ∷ [])) (option_and_then (λ m. value_from m xs) o))
    [ None ↦ refl | Some m ↦ one_more m b xs ]

-- of a text so many digits are read, and their value is so much
module _ (text : List ℕ) (i n : ℕ) (within : i < length text) where
  pub value_goes_on : (v : ℕ) → value_from 0 (take i text) ≡ Some n → with_digit n (get_or text i 0) ≡ Some v →
      value_from 0 (take (i + 1) text) ≡ Some v
  value_goes_on v before digit =
      ap (value_from 0) (take_more text i 0 within)
      ∙ one_more 0 (get_or text i 0) (take i text)
      ∙ ap (option_and_then (λ m. value_from m (get_or text i 0 ∷ []))) before
      ∙ ap (option_and_then (λ m. value_from m [])) digit

-- of a text this many digits are read, fewer than twenty
pub record ShortValue (text : List ℕ) (i n : ℕ) : Type 0 where
  pub value : value_from 0 (take i text) ≡ Some n
  pub small : n < 10 ^ i

pub short_goes_on : (text : List ℕ) (i n v : ℕ) → i < length text → (i ≤ 19 → ShortValue text i n) →
    is_digit (get_or text i 0) ≡ true →
    v ≡ (n * 10 % (2 ^ 64) + (get_or text i 0 - 48)) % (2 ^ 64) → i + 1 ≤ 19 → ShortValue text (i + 1) v
short_goes_on text i n v within before digit is few =
    let b = get_or text i 0 in
    let here : ShortValue text i n = before (omega arith) in
    let small : n < 10 ^ 18 = small_enough n i (omega arith) here.small in
    let plain : v ≡ n * 10 + (b - 48) = is ∙ not_wrapped n b small digit in
    let digit_small : b - 48 < 10 = grind (arith, nat_tests, digit) in
    record {
      value = value_goes_on text i n within v here.value (digit_goes_on n b small digit ∙ ap Some (sym plain));
      small = one_digit_more n v i here.small (omega (arith, plain, digit_small));
    }

not_blank : (b : ℕ) → is_digit b ≡ true → (b == 32) ≡ false
not_blank b digit = grind (arith, nat_tests, digit)

-- what is begun goes on with digits
goes_on : (n v : ℕ) (begun word rest : List ℕ) → value_from n word ≡ Some v →
    words_from begun (word ++ rest) ≡ words_from (begun ++ word) rest
goes_on n v begun [] rest h = ap (λ l. words_from l rest) (sym (append-nil begun))
goes_on n v begun (b ∷ word) rest h =
    by_digit (with_digit n b) (λ m k. goes_on m v (begun ++ b ∷ []) word rest k) refl h
  where
    by_digit : (o : Option ℕ) → ((m : ℕ) → value_from m word ≡ Some v → words_from (begun ++ b ∷ []) (word ++ rest)
        ≡ words_from ((begun ++ b ∷ []) ++ word) rest) → with_digit n b ≡ o →
        option_and_then (λ m. value_from m word) o ≡ Some v →
        words_from begun (b ∷ (word ++ rest)) ≡ words_from (begun ++ b ∷ word) rest
    by_digit None later e k = cc
    by_digit (Some m) later e k =
        ap (λ ends. if ends then begun_word begun ++ words_from [] (word ++ rest) else words_from (begun ++ b ∷ [])
        (word ++ rest))
        (not_blank b (digit_of n b m e))
        ∙ later m k
        ∙ ap (λ l. words_from l rest) (append_assoc begun (b ∷ []) word)

blank_after : (b : ℕ) (t : Bool) (word bs : List ℕ) (w : List ℕ) → (b == 32) ≡ t → t ≡ true →
    words_from (w) (b ∷ bs) ≡ begun_word w ++ words_from [] bs
blank_after b t word bs w e h =
    ap (λ ends. if ends then begun_word w ++ words_from [] bs else words_from (w ++ b ∷ []) bs) (e ∙ h)

-- a word ends there
ended : (b : ℕ) (word rest : List ℕ) → ends_word rest ≡ true → words_from (b ∷ word) rest ≡ (b ∷ word) ∷ words rest
ended b word [] h = refl
ended b word (r ∷ rest) h =
    blank_after r (r == 32) word rest (b ∷ word) refl h
    ∙ ap (λ l. (b ∷ word) ∷ l) (sym (blank_after r (r == 32) word rest [] refl h))

begins_otherwise : (text : List ℕ) → 0 < length text → IfSome (slice_get text 0) (λ b. b ≢ 32) →
    ends_word text ≡ true → ⊥
begins_otherwise [] some begins ends = omega (arith, some)
begins_otherwise (b ∷ text) some begins ends = begins (equal b ends)
  where
    equal : (b : ℕ) → (b == 32) ≡ true → b ≡ 32
    equal b e = grind (arith, nat_tests, e)

-- digits are the first word of a text, where a word ends behind them
module _ (text word rest : List ℕ) (v : ℕ) (whole : word ++ rest ≡ text) (some : 0 < length text)
    (begins : IfSome (slice_get text 0) (λ b. b ≢ 32))
    (ends : ends_word rest ≡ true) (value : value_from 0 word ≡ Some v) where
  not_none : word ≡ [] → ⊥
  not_none none =
      begins_otherwise text some begins (ap ends_word (sym whole ∙ ap (λ w. w ++ rest) none) ∙ ends)

  by_word : (w : List ℕ) → word ≡ w → words_from w rest ≡ w ∷ words rest
  by_word [] e = absurd (not_none e)
  by_word (b ∷ w) e = ended b w rest ends

  pub first_number : words text ≡ word ∷ words rest
  first_number = ap words (sym whole) ∙ goes_on 0 v [] word rest value ∙ by_word word refl

  number_by : (w : List ℕ) → word ≡ w → length w ≤ 19 → number_of w ≡ value_from 0 w
  number_by [] e few = absurd (not_none e)
  number_by (b ∷ w) e few =
      ap (λ long. if long then None else value_from 0 (b ∷ w)) (short (length (b ∷ w)) few)
    where
      short : (n : ℕ) → n ≤ 19 → nat_lt 20 n ≡ false
      short n few = grind (arith, nat_tests, few)

  pub number_first : length word ≤ 19 → Some v ≡ number_of word
  number_first few = sym (number_by word refl few ∙ value)

-- what is behind a blank has the same words
after_blank : (b : ℕ) (bs : List ℕ) → b ≡ 32 → words (b ∷ bs) ≡ words bs
after_blank b bs is = ap (λ ends. if ends then words bs else words_from (b ∷ []) bs) (ap (λ x. x == 32) is)

-- a short number up to a blank, and up to the end
module _ (text : List ℕ) (i n : ℕ) (some : 0 < length text) (begins : IfSome (slice_get text 0) (λ b. b ≢ 32))
    (few : i ≤ 19)
    (short : i ≤ 19 → ShortValue text i n) where
  ends_at : (rest : List ℕ) → drop i text ≡ rest → ends_word rest ≡ true → words text ≡ take i text ∷ words rest
  ends_at rest is ends =
      first_number text (take i text) rest n (ap (λ l. take i text ++ l) (sym is)
      ∙ take-append-drop i text) some begins ends
      (short few).value

  pub first_until_blank : i < length text → get_or text i 0 ≡ 32 → words text ≡ take i text ∷ words (drop (i + 1) text)
  first_until_blank within blank =
      ends_at (get_or text i 0 ∷ drop (i + 1) text) (drop_more text i 0 within) (ap (λ x. x == 32) blank)
      ∙ ap (λ l. take i text ∷ l) (after_blank (get_or text i 0) (drop (i + 1) text) blank)

  pub first_until_end : length text ≤ i → words text ≡ text ∷ words []
  first_until_end end = ends_at [] (drop_all i text end) refl ∙ ap (λ w. w ∷ words []) (take_all i text end)

  pub number_until_end : length text ≤ i → number_of text ≡ Some n
  number_until_end end =
      ap number_of (sym (take_all i text end))
      ∙ sym (number_first text (take i text) [] n (ap (λ l. take i text ++ l) (sym (drop_all i text end))
      ∙ take-append-drop i text) some begins refl
      (short few).value (omega (arith, length-take i text, few)))
