use Rattle.std.proofs.Common.{◌≡◌, ℕ, ◌<◌, ◌^◌, List, length, map, arith, sym, ap, subst, ◌∙◌, w16, w64}
use Rattle.std.proofs.lemmas.List.{length-map}
use Rattle.std.proofs.lemmas.Nat.Bits.{bit_at-trailing_zeros}
use Rattle.std.proofs.lemmas.Simd.{leading_from_mask_l, trailing_mask_l, mask_l-lt}
use Rattle.std.specs.Int.{trailing_zeros}
use Rattle.std.specs.Simd.Lanes.{mask_l}
use Rattle.index_text.proofs.WordLemmas.{is_blank, to_blank}
use Rattle.index_text.proofs.word_length.length_in_sixteen.Goals as goal

module _ (bytes : List ℕ) (long : length bytes ≡ 16) (mask : ℕ) (is : mask ≡ mask_l (map is_blank bytes)) where
  none : mask ≡ 0 → to_blank bytes ≡ 16
  none zero = leading_from_mask_l is_blank bytes (sym is ∙ zero) ∙ long

  up_to : (mask ≡ 0 → ⊥) → (trailing_zeros w64 mask ≡ to_blank bytes) × (trailing_zeros w64 mask < 16)
  up_to some =
      let bits = mask_l (map is_blank bytes) in
      let set : 0 < bits = omega (arith, some, is) in
      let small : bits < 2 ^ 16 = subst (λ n. bits < 2 ^ n) (length-map bytes _
      ∙ long) (mask_l-lt (map is_blank bytes)) in
      let found = ap (trailing_zeros w64) is ∙ trailing_mask_l is_blank 64 bytes (omega (arith, long)) set in
      let within = trailing_mask_l is_blank 16 bytes (omega (arith, long)) set in
      (found, subst (λ n. n < 16) (within ∙ sym found) (bit_at-trailing_zeros w16 bits set small).0)

pub returns-then-blanks-eq0 : goal.returns-then-blanks-eq0
returns-then-blanks-eq0 c = none c.args.bytes c.fits-bytes.0 c.blank_bits-blanks.result c.blank_bits-blanks.ensures
    c.if-blanks-eq0.true

pub returns-else-blanks-eq0 : goal.returns-else-blanks-eq0
returns-else-blanks-eq0 c = up_to c.args.bytes c.fits-bytes.0 c.blank_bits-blanks.result c.blank_bits-blanks.ensures
    c.if-blanks-eq0.false
