-- Lines that have too many words.
use Rattle.std.proofs.Common.{◌≡◌, ℕ, ◌+◌, ◌-◌, ◌^◌, ◌==◌, ◌<◌, ◌≤◌, Bool, true, false, List, [], ◌∷◌, ◌++◌, length}
use Rattle.std.proofs.Common.{arith, ap, sym}
use Rattle.std.specs.Prelude.{nat_lt, if◌then◌else◌}
use Rattle.std.proofs.lemmas.Bool.{le-ltb, lt-ltb}
use Rattle.std.proofs.lemmas.Bool.Decides.{nat_tests}
use Rattle.std.proofs.lemmas.List.{length-append}
use Rattle.index_text.specs.Indexes.{are_too_many}
use Rattle.script_text.specs.Words.{words, words_from, begun_word}

-- a line has no more words than bytes
begun_few : (begun : List ℕ) → length (begun_word begun) ≤ length begun
begun_few [] = omega arith
begun_few (b ∷ begun) = omega arith

few_words : (begun line : List ℕ) → length (words_from begun line) ≤ length begun + length line
few_words begun [] = omega (arith, begun_few begun)
few_words begun (b ∷ line) = by (b == 32) (few_words [] line) (few_words (begun ++ b ∷ []) line)
  where
    by : (blank : Bool) → length (words_from [] line) ≤ 0 + length line
        → length (words_from (begun ++ b ∷ []) line) ≤ length (begun ++ b ∷ []) + length line
        → length (if blank then begun_word begun ++ words_from [] line else words_from (begun ++ b ∷ []) line)
        ≤ length begun + length (b ∷ line)
    by true ended others =
        omega (arith, ended, begun_few begun, length-append (begun_word begun) (words_from [] line))
    by false ended others = omega (arith, others, length-append begun (b ∷ []))

pub few_bytes : (line : List ℕ) (most : ℕ) → length line ≤ most → false ≡ nat_lt most (length (words line))
few_bytes line most few =
    let within : length (words line) ≤ most = omega (arith, few, few_words [] line) in
    sym (le-ltb most (length (words line)) within)

-- `passed` words are read, and these are left
module _ (text : List ℕ) (passed all most : ℕ) (counted : passed + length (words text) ≡ all) where
  module _ (word rest : List ℕ) (split : words text ≡ word ∷ words rest) where
    pub one_passed : (passed + 1) + length (words rest) ≡ all
    one_passed = omega (arith, counted, ap length split)

    pub too_many : passed ≡ most → true ≡ nat_lt most all
    too_many full =
        let more : most < all = omega (arith, full, counted, ap length split) in
        sym (lt-ltb most all more)

  pub not_too_many : words text ≡ [] → passed ≤ most → false ≡ nat_lt most all
  not_too_many none few =
      let within : all ≤ most = omega (arith, few, counted, ap length none) in
      sym (le-ltb most all within)

pub ruleset passing = (few_bytes, one_passed, too_many, not_too_many)

-- the first word counts too
pub with_keyword : (keyword : List ℕ) (words : List (List ℕ))
    → nat_lt (2 ^ 21 - 1) (length words) ≡ are_too_many (keyword ∷ words)
with_keyword keyword words = grind (arith, nat_tests)
