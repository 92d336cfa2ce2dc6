use Rattle.std.proofs.Common.{◌≡◌, length}
use Rattle.std.specs.List.{flat_map}
use Rattle.index_text.specs.PlainLines.{plain_line}
use Rattle.index_text.specs.PlainFormats.{plain_keys}
use Rattle.index_text.specs.Written.{written_in, written_on, with_versions}
use Rattle.script_text.specs.Words.{words}
use Rattle.index_text.proofs.format.add_line.Given as goal

-- the versions so far, and those of the rest
abbrev pub invariant-loop-word : goal.invariant-loop-word
invariant-loop-word l = with_versions (plain_keys l.known) (flat_map written_in (words l.rest))
    ≡ with_versions (plain_keys l.fn.known) (written_on (plain_line l.fn.line).words)

abbrev pub decreases-loop-word : goal.decreases-loop-word
decreases-loop-word l = length l.rest
