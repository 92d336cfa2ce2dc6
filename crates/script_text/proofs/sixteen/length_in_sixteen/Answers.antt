use Rattle.std.proofs.Common.{◌≡◌, ℕ, ◌<◌, ◌^◌, Bool, true, false, not, List, length, map}
use Rattle.std.proofs.Common.{arith, refl, sym, ap, subst, ◌∙◌, w16, w64}
use Rattle.std.proofs.lemmas.List.{length-map}
use Rattle.std.proofs.lemmas.Nat.Bits.{bit_at-trailing_zeros}
use Rattle.std.proofs.lemmas.Simd.{leading_from_mask_l, trailing_mask_l, mask_l-lt}
use Rattle.std.specs.Int.{trailing_zeros}
use Rattle.std.specs.List.{prefix_len}
use Rattle.std.specs.Simd.Lanes.{mask_l}
use Rattle.script_text.proofs.sixteen.length_in_sixteen.Goals as goal
use Rattle.script_text.specs.Lines.{is_from}

not_not : (b : Bool) → not (not b) ≡ b
not_not true = refl
not_not false = refl

-- of sixteen bytes a bit is set for each that fails a test
module _ (p : ℕ → Bool) (bytes : List ℕ) (long : length bytes ≡ 16) (mask : ℕ)
    (is : mask ≡ mask_l (map (λ b. not (p b)) bytes)) where
  passed_before : prefix_len (λ b. not (not (p b))) bytes ≡ prefix_len p bytes
  passed_before = λ i. prefix_len (λ b. not_not (p b) i) bytes

  all_pass : mask ≡ 0 → prefix_len p bytes ≡ 16
  all_pass none = sym passed_before ∙ leading_from_mask_l (λ b. not (p b)) bytes (sym is ∙ none) ∙ long

  pass_up_to : (mask ≡ 0 → ⊥) → (trailing_zeros w64 mask ≡ prefix_len p bytes) × (trailing_zeros w64 mask < 16)
  pass_up_to some =
      let bits = mask_l (map (λ b. not (p b)) bytes) in
      let set : 0 < bits = omega (arith, some, is) in
      let small : bits < 2 ^ 16 = subst (λ n. bits < 2 ^ n) (length-map bytes _
      ∙ long) (mask_l-lt (map (λ b. not (p b)) bytes)) in
      let found = ap (trailing_zeros w64) is ∙ trailing_mask_l (λ b. not (p b)) 64 bytes (omega (arith, long)) set in
      let within = trailing_mask_l (λ b. not (p b)) 16 bytes (omega (arith, long)) set in
      (found ∙ passed_before, subst (λ n. n < 16) (within ∙ sym found) (bit_at-trailing_zeros w16 bits set small).0)

pub returns-then-others-eq0 : goal.returns-then-others-eq0
returns-then-others-eq0 c =
    all_pass (is_from c.args.first) c.args.bytes c.fits-bytes.0 c.other_bits-others.result
    c.other_bits-others.ensures c.if-others-eq0.true

pub returns-else-others-eq0 : goal.returns-else-others-eq0
returns-else-others-eq0 c =
    pass_up_to (is_from c.args.first) c.args.bytes c.fits-bytes.0 c.other_bits-others.result
    c.other_bits-others.ensures c.if-others-eq0.false
