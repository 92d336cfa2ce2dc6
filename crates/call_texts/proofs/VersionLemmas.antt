-- Parts of a text, and the versions that they name.
use Rattle.std.proofs.Common.{◌≡◌, ◌∙◌, ℕ, ◌+◌, ◌<◌, ◌==◌, Bool, true, false, List, [], ◌∷◌, Option, None, Some, length}
use Rattle.std.proofs.Common.{cond, not, refl, ap, sym, subst, arith, take, drop, nat_lt, ◌-◌, length-drop, slice_set}
use Rattle.std.specs.List.{position, position_or_len, slice_split, onto_first}
use Rattle.std.proofs.Math.Seq.{take-length}
use Rattle.std.proofs.lemmas.List.Splits.{slice_split_first}
use Rattle.std.proofs.lemmas.List.Sums.{prefix_len-le-length}
use Rattle.call_texts.specs.Versions.{filled, version_at, versions_from, in_front}
use Rattle.call_texts.specs.declared.versions.Version.{Version}

module _ (p : ℕ → Bool) where
  -- if no element passes, the list is its one part
  none_pass : (xs : List ℕ) → position_or_len p xs ≡ length xs → slice_split p xs ≡ xs ∷ []
  none_pass [] is = refl
  none_pass (x ∷ xs) is =
      (elim (p x) as (λ b. cond (not b) (1 + position_or_len p xs) 0 ≡ length (x ∷ xs) →
      cond b ([] ∷ slice_split p xs) (onto_first x (slice_split p xs)) ≡ (x ∷ xs) ∷ [])
      [ true ↦ λ h. absurd (omega (arith, h)) | false ↦ λ h. ap (onto_first x) (none_pass xs (omega (arith, h))) ])
      is

  all_before : (xs : List ℕ) (b : Bool) → nat_lt (position_or_len p xs) (length xs) ≡ b
      → cond b (Some (position_or_len p xs)) None ≡ None → position_or_len p xs ≡ length xs
  all_before xs true test is = cc
  all_before xs false test is = let le = prefix_len-le-length (λ x. not (p x)) xs in grind arith

  pub split_none : (xs : List ℕ) → position p xs ≡ None → slice_split p xs ≡ xs ∷ []
  split_none xs is = none_pass xs (all_before xs _ refl is)

  split_tested : (xs : List ℕ) (end : ℕ) (b : Bool) → nat_lt (position_or_len p xs) (length xs) ≡ b
      → cond b (Some (position_or_len p xs)) None ≡ Some end
      → slice_split p xs ≡ take end xs ∷ slice_split p (drop (end + 1) xs)
  split_tested xs end true test is =
      let same : position_or_len p xs ≡ end = cc in
      let below : position_or_len p xs < length xs = grind arith in
      subst (λ (m : ℕ). slice_split p xs ≡ take m xs ∷ slice_split p (drop (m + 1) xs)) same
      (slice_split_first p xs 0 below)
  split_tested xs end false test is = cc

  -- the first element that passes ends the first part
  split_some : (xs : List ℕ) (end : ℕ) → position p xs ≡ Some end
      → slice_split p xs ≡ take end xs ∷ slice_split p (drop (end + 1) xs)
  split_some xs end is = split_tested xs end _ refl is

  -- the same, with the rest as it is cut off
  pub split_cut : (xs : List ℕ) (end : ℕ) → position p xs ≡ Some end
      → slice_split p xs ≡ take end xs ∷ slice_split p (take (length xs - (end + 1)) (drop (end + 1) xs))
  split_cut xs end is =
      let whole = ap (λ (n : ℕ). take n (drop (end + 1) xs)) (sym (length-drop (end + 1) xs))
      ∙ take-length (drop (end + 1) xs) in
      split_some xs end is ∙ ap (λ (rest : List ℕ). take end xs ∷ slice_split p rest) (sym whole)

  onto_some : (x : ℕ) (parts : List (List ℕ)) →
      (first : List ℕ) × (rest : List (List ℕ)) × (onto_first x parts ≡ first ∷ rest)
  onto_some x [] = (x ∷ [], [], refl)
  onto_some x (part ∷ parts) = (x ∷ part, parts, refl)

  -- there is a part
  pub some_part : (xs : List ℕ) → (first : List ℕ) × (rest : List (List ℕ)) × (slice_split p xs ≡ first ∷ rest)
  some_part [] = ([], [], refl)
  some_part (x ∷ xs) =
      elim (p x) as (λ b. (first : List ℕ) × (rest : List (List ℕ)) ×
      (cond b ([] ∷ slice_split p xs) (onto_first x (slice_split p xs)) ≡ first ∷ rest))
      [ true ↦ ([], slice_split p xs, refl) | false ↦ onto_some x (slice_split p xs) ]

-- a line with two blanks names no version
pub three_parts : (at : ℕ) (line name text version rest : List ℕ)
    → slice_split (λ b. b == 32) line ≡ name ∷ slice_split (λ b. b == 32) text
    → slice_split (λ b. b == 32) text ≡ version ∷ slice_split (λ b. b == 32) rest
    → None ≡ version_at at (slice_split (λ b. b == 32) line)
three_parts at line name text version rest first second =
    let third = (some_part (λ b. b == 32) rest).2 in
    sym (ap (version_at at) (first ∙ ap (λ (parts : List (List ℕ)). name ∷ parts)
    (second ∙ ap (λ (parts : List (List ℕ)). version ∷ parts) third)))

-- a line with its line feed, which names this version
pub version_first : (at : ℕ) (line others rest : List ℕ) (version : Version)
    → slice_split (λ b. b == 10) rest ≡ line ∷ slice_split (λ b. b == 10) others
    → Some version ≡ version_at at (slice_split (λ b. b == 32) line)
    → versions_from at (slice_split (λ b. b == 10) rest)
    ≡ version ∷ versions_from (at + (length line + 1)) (slice_split (λ b. b == 10) others)
version_first at line others rest version parts is =
    let some = some_part (λ b. b == 10) others in
    let more = λ (tail : List (List ℕ)). versions_from (at + (length line + 1)) tail in
    ap (versions_from at) (parts ∙ ap (λ (tail : List (List ℕ)). line ∷ tail) some.2)
    ∙ (ap (λ (v : Option Version). in_front v (more (some.0 ∷ some.1))) (sym is)
    ∙ ap (λ (tail : List (List ℕ)). version ∷ more tail) (sym some.2))

-- with it one more is counted, and put into the buffer
pub counted_more : (at count all : ℕ) (line others rest : List ℕ) (version : Version)
    → slice_split (λ b. b == 10) rest ≡ line ∷ slice_split (λ b. b == 10) others
    → Some version ≡ version_at at (slice_split (λ b. b == 32) line)
    → count + length (versions_from at (slice_split (λ b. b == 10) rest)) ≡ all
    → count + 1 + length (versions_from (at + (length line + 1)) (slice_split (λ b. b == 10) others)) ≡ all
counted_more at count all line others rest version parts is counted =
    let one = ap length (version_first at line others rest version parts is) in omega (arith, one, counted)

pub filled_more : (at count : ℕ) (line others rest : List ℕ) (version : Version) (buffer new all : List Version)
    → slice_split (λ b. b == 10) rest ≡ line ∷ slice_split (λ b. b == 10) others
    → Some version ≡ version_at at (slice_split (λ b. b == 32) line) → new ≡ slice_set buffer count version
    → filled count (versions_from at (slice_split (λ b. b == 10) rest)) buffer ≡ all
    → filled (count + 1) (versions_from (at + (length line + 1)) (slice_split (λ b. b == 10) others)) new ≡ all
filled_more at count line others rest version buffer new all parts is put now =
    let more = versions_from (at + (length line + 1)) (slice_split (λ b. b == 10) others) in
    ap (filled (count + 1) more) put
    ∙ (sym (ap (λ (versions : List Version). filled count versions buffer)
    (version_first at line others rest version parts is)) ∙ now)
