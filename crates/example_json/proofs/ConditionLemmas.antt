-- Conditions, spelled out to a depth.
use Rattle.std.proofs.Common.{◌≡◌, ◌∙◌, ℕ, zero, suc, ◌-◌, ◌<◌, true, false, if◌then◌else◌, codes, refl, ap, arith}
use Rattle.example_json.proofs.Words.{Condition, condition_data, null, parts_data, string, Texts, Universe}

module _ {N S : Type 0} (universe : Universe N S) (texts : Texts N S) where
  pub too_deep : (depth condition : ℕ) → depth ≡ 0 → condition_data universe texts depth condition ≡ string (codes "..")
  unfolding condition_data
  too_deep zero condition h = refl
  too_deep (suc depth) condition h = absurd (omega arith)

  pub unknown_condition : (depth condition : ℕ) → 0 < depth → universe.knows_condition condition ≡ false
      → condition_data universe texts depth condition ≡ null
  unfolding condition_data
  unknown_condition zero condition above unknown = absurd (omega arith)
  unknown_condition (suc depth) condition above unknown = rw unknown

  pub known_condition : (depth condition : ℕ) (parts : Condition) → 0 < depth
      → universe.knows_condition condition ≡ true → universe.condition condition ≡ parts
      → condition_data universe texts depth condition
      ≡ parts_data universe texts (condition_data universe texts (depth - 1)) parts
  unfolding condition_data
  known_condition zero condition parts above known is = absurd (omega arith)
  known_condition (suc depth) condition parts above known is =
      let same : suc depth - 1 ≡ depth = omega arith in
      rw (known, is, same)
