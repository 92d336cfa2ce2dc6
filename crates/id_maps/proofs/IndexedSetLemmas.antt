-- The bits of words.
use Rattle.std.proofs.Common.{◌≡◌, ℕ, ◌*◌, ◌/◌, ◌%◌, ◌^◌, ◌<◌, true, not, eqb, List, length, get_or, set, sym}
use Rattle.std.proofs.Common.{◌∙◌, ap, inl, inr, arith, get_or-set_same, get_or-set_other, eq-eqb, ne_eqb, w64}
use Rattle.std.proofs.lemmas.Bool.{cases_eq}
use Rattle.std.proofs.lemmas.Nat.{one_shl, pow_pos}
use Rattle.std.proofs.lemmas.Nat.Bits.{bit_at_set_same, bit_at_set_other, and_pow}
use Rattle.std.specs.Prelude.{bit_and, bit_or}
use Rattle.std.specs.Int.{bit_at}
use Rattle.id_maps.specs.IndexedSet.{has_bit}
use Rattle.typed_ids.specs.TotalMaps.{IsUpdate}

-- the word that has the bit at the index
abbrev pub get_word : List ℕ → ℕ → ℕ
get_word words index = get_or words (index / 64) 0

-- the test `word & bit == 0`
pub bit_clear : (word k : ℕ) → k < 64 → eqb (bit_and word (1 * 2 ^ k % 2 ^ 64)) 0 ≡ not (eqb (bit_at word k) 1)
bit_clear word k h =
    let masked : bit_and word (1 * 2 ^ k % 2 ^ 64) ≡ bit_at word k * 2 ^ k = ap (bit_and word) (one_shl k 64 h)
    ∙ and_pow word k in
    let bit : ℕ = bit_at word k in
    let small : bit < 2 = omega arith in
    elim (cases_eq bit 1) [
      | inl one ↦
          let big : 0 < bit_and word (1 * 2 ^ k % 2 ^ 64) = rw (masked, one) (omega (arith, pow_pos k)) in
          ne_eqb _ 0 (omega arith) ∙ sym (ap not (eq-eqb bit 1 one))
      | inr other ↦
          let none : bit ≡ 0 = omega arith in
          eq-eqb _ 0 (rw (masked, none) (omega arith)) ∙ sym (ap not (ne_eqb bit 1 other))
    ]

-- the words once the bit at the index is set
pub bit_set : (words : List ℕ) (index word : ℕ) → index / 64 < length words → word ≡ get_or words (index / 64) 0
    → IsUpdate (has_bit words) index true
    (has_bit (set words (index / 64) (bit_or word (1 * 2 ^ (index % 64) % 2 ^ 64))))
bit_set words index word within read =
    let place : ℕ = index / 64 in
    let marked : ℕ = bit_or word (1 * 2 ^ (index % 64) % 2 ^ 64) in
    let low : index % 64 < 64 = omega arith in (
      ap (λ w. eqb (bit_at w (index % 64)) 1) (get_or-set_same words place marked 0 within)
          ∙ eq-eqb _ 1 (bit_at_set_same w64 word (index % 64) low),
      λ other apart.
          elim (cases_eq (other / 64) place) as (λ _. has_bit (set words place marked) other ≡ has_bit words other) [
            | inl row ↦
                ap (λ x. eqb (bit_at (get_or (set words place marked) x 0) (other % 64)) 1) row
                ∙ ap (λ x. eqb (bit_at x (other % 64)) 1) (get_or-set_same words place marked 0 within)
                ∙ ap (λ x. eqb x 1) (bit_at_set_other w64 word (index % 64) low (other % 64) (λ e. apart (omega arith)))
                ∙ ap (λ x. eqb (bit_at x (other % 64)) 1) (read ∙ ap (λ x. get_or words x 0) (sym row))
            | inr away ↦ ap (λ x. eqb (bit_at x (other % 64)) 1) (get_or-set_other words place
                (other / 64) marked 0 away)
          ],
    )
