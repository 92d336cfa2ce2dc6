use Rattle.std.proofs.Common.{◌≡◌, ℕ, ◌<◌, List, Bool, true, false}
use Rattle.corrections.proofs.Words.{HasNone, is_marked, IsWithin}
use Rattle.corrections.proofs.marks.add_extensions.Given as goal

abbrev pub invariant-loop-place : goal.invariant-loop-place
invariant-loop-place g l = (other : List Bool) → HasNone other l.sets.items →
    HasNone other l.initial.sets.items
    × (IsWithin l.marks other → (k : ℕ) → k < l.place → is_marked l.conflict k ≡ true → is_marked other k ≡ false)
