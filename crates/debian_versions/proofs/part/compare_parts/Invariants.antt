use Rattle.std.proofs.Common.{◌≡◌, ◌+◌, length}
use Rattle.debian_versions.specs.Order.{part_cmp}
use Rattle.debian_versions.proofs.part.compare_parts.Given as goal

abbrev pub invariant-runs : goal.invariant-runs
invariant-runs l = part_cmp l.a l.b ≡ part_cmp l.x l.y

abbrev pub decreases-runs : goal.decreases-runs
decreases-runs l = length l.x + length l.y
