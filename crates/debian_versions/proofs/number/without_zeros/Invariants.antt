use Rattle.std.proofs.Common.{◌≡◌, length}
use Rattle.debian_versions.specs.Steps.{strip_zeros}
use Rattle.debian_versions.proofs.number.without_zeros.Given as goal

abbrev pub invariant-zeros : goal.invariant-zeros
invariant-zeros l = strip_zeros l.digits ≡ strip_zeros l.rest

abbrev pub decreases-zeros : goal.decreases-zeros
decreases-zeros l = length l.rest
