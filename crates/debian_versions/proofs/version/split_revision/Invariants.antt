use Rattle.std.proofs.Common.{◌≡◌, ◌==◌, ◌≤◌, drop, false, length}
use Rattle.std.specs.List.{list_any}
use Rattle.debian_versions.proofs.version.split_revision.Given as goal

abbrev pub invariant-bytes : goal.invariant-bytes
invariant-bytes l = (l.n ≤ length l.text) × (list_any (λ b. b == 45) (drop l.n l.text) ≡ false)

abbrev pub decreases-bytes : goal.decreases-bytes
decreases-bytes l = l.n
