use Rattle.std.proofs.Common.{◌≡◌, [], drop, map}
use Rattle.index_text.specs.PlainLines.{plain_line}
use Rattle.index_text.specs.PlainFormats.{plain_keys}
use Rattle.index_text.specs.Written.{written, with_versions}
use Rattle.index_text.proofs.format.VersionFormat.of.Given as goal

-- the versions so far, and those of the lines that are left
abbrev pub invariant-loop-line : goal.invariant-loop-line
invariant-loop-line l = with_versions (plain_keys l.known) (written (map plain_line (drop l.line-index l.lines)))
    ≡ with_versions [] (written (map plain_line l.lines))
