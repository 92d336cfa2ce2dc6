use Rattle.std.proofs.Common.{◌≡◌, take}
use Rattle.std.specs.Prelude.{string_bytes}
use Rattle.index_text.specs.Lines.{joined}
use Rattle.index_text.specs.Sets.{texts}
use Rattle.index_text.proofs.version.joined.Given as goal

abbrev pub invariant-loop-i : goal.invariant-loop-i
invariant-loop-i l = string_bytes l.text ≡ joined (texts (take l.i l.words))
