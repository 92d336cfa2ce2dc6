use Rattle.std.proofs.Common.{◌≡◌}
use Rattle.index_text.proofs.EndLemmas.{ends_from}
use Rattle.index_text.specs.Formats.{ends_of}
use Rattle.index_text.proofs.format.split_at_dots.Given as goal

-- no `..` begins so far
abbrev pub invariant-loop-i : goal.invariant-loop-i
invariant-loop-i l = ends_from l.word l.i ≡ ends_of l.word
