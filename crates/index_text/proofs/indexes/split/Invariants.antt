use Rattle.std.proofs.Common.{◌≡◌, ◌++◌, ◌+◌, ◌≤◌, length, map}
use Rattle.index_text.specs.Entries.{cut}
use Rattle.index_text.specs.Indexes.{indexes_of, begins_index, before_parts, numbered}
use Rattle.index_text.specs.PlainLines.{plain_lines}
use Rattle.script_text.specs.Lines.{lines as lines_of}
use Rattle.index_text.proofs.indexes.split.Given as goal

-- the indexes so far, and what is left of the text behind the lines of the last one
abbrev pub invariant-loop-said : goal.invariant-loop-said
invariant-loop-said l = record {
  fits : l.number + length l.rest ≤ length l.text;
  indexes : map plain_lines l.indexes.items
      ++ before_parts (plain_lines l.lines) (cut begins_index (numbered (l.number + 1) (lines_of l.rest))) ≡
      indexes_of l.text;
}

abbrev pub decreases-loop-said : goal.decreases-loop-said
decreases-loop-said l = length l.rest
