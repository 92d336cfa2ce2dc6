use Rattle.std.proofs.Common.{◌≡◌, ℕ, ◌+◌, ◌-◌, ◌%◌, ◌^◌, ◌<◌, ◌≤◌, not, nat_lt, List, [], ◌∷◌}
use Rattle.std.proofs.Common.{length, map, replicate, cond, arith, refl, ap, ◌∙◌, Fits, w8}
use Rattle.std.proofs.lemmas.Bool.Decides.{nat_tests}
use Rattle.std.proofs.lemmas.List.{length-map}
use Rattle.std.proofs.lemmas.Simd.{zip2_splat, zip2_splat_left, tops_compared, mask_l-mod, map-map}
use Rattle.std.specs.Simd.Lanes.{zip2, mask_l, top, Each1}
use Rattle.script_text.specs.Lines.{is_from}
use Rattle.script_text.proofs.sixteen.other_bits.Goals as goal

-- a byte counted from the first character, and round by 256 below it
abbrev counted : ℕ → ℕ → ℕ
counted b first = (b + (256 - first)) % 256

module _ (first : ℕ) (within : first ≤ 126) where
  byte_above : (b : ℕ) → b < 256 → nat_lt (126 - first) (counted b first) ≡ not (is_from first b)
  byte_above b small = grind (arith, nat_tests, small, within)

  bytes_above : (bytes : List ℕ) → Each1 (Fits w8) bytes →
      map (λ b. nat_lt (126 - first) (counted b first)) bytes ≡ map (λ b. not (is_from first b)) bytes
  bytes_above [] fit = refl
  bytes_above (b ∷ bytes) fit = λ i. byte_above b fit.0.fits i ∷ bytes_above bytes fit.1 i

  above_mask : (bytes : List ℕ) → length bytes ≡ 16 → Each1 (Fits w8) bytes
      → mask_l (map (top 7) (zip2 (λ a b. cond (nat_lt a b) 255 0) (replicate 16 (126 - first))
      (zip2 counted bytes (replicate 16 first)))) % 2 ^ 64
      ≡ mask_l (map (λ b. not (is_from first b)) bytes)
  above_mask bytes long fit =
      let lanes = λ (bs : List ℕ). mask_l
      (map (top 7) (zip2 (λ a b. cond (nat_lt a b) 255 0) (replicate 16 (126 - first)) bs)) % 2 ^ 64 in
      let above = map (λ b. counted b first) bytes in
      ap lanes (zip2_splat counted bytes 16 first long)
      ∙ ap (λ ms. mask_l ms % 2 ^ 64) (tops_compared w8 nat_lt (replicate 16 (126 - first)) above
      ∙ zip2_splat_left nat_lt (126 - first) 16 above (length-map bytes _ ∙ long)
      ∙ map-map _ _ bytes
      ∙ bytes_above bytes fit)
      ∙ mask_l-mod (map (λ b. not (is_from first b)) bytes) 64
      (omega (arith, length-map bytes (λ b. not (is_from first b)), long))

pub returns : goal.returns
returns c = above_mask c.args.first c.requires c.args.bytes c.fits-bytes.0 c.fits-bytes.1
