-- The numbers of a span, one after another.
use Rattle.std.proofs.Common.{◌≡◌, ℕ, ◌+◌, ◌-◌, ◌<◌, ◌∷◌, suc, ap, arith}
use Rattle.script_packages.proofs.Words.{numbers}

pub numbers_more : (first end : ℕ) → first < end → numbers first (end - first)
    ≡ first ∷ numbers (first + 1) (end - (first + 1))
numbers_more first end lt = let e : end - first ≡ suc (end - (first + 1)) = omega arith in ap (numbers first) e
