use Rattle.std.proofs.Common.{◌≡◌, ◌+◌, drop}
use Rattle.example_certificates.specs.Texts.{count_in}
use Rattle.example_certificates.proofs.writing.count.Given as goal

abbrev pub invariant-loop-part : goal.invariant-loop-part
invariant-loop-part g l = l.count + count_in (drop l.part-index l.parts) ≡ count_in l.parts
