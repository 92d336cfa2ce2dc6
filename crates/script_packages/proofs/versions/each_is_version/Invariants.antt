use Rattle.std.proofs.Common.{◌≡◌, length}
use Rattle.script_packages.proofs.Words.{each_is_version, words}
use Rattle.script_packages.proofs.versions.each_is_version.Given as goal

abbrev pub invariant-loop-word : goal.invariant-loop-word
invariant-loop-word l = each_is_version (words l.rest) ≡ each_is_version (words l.text)

abbrev pub decreases-loop-word : goal.decreases-loop-word
decreases-loop-word l = length l.rest
