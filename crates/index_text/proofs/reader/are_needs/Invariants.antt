use Rattle.std.proofs.Common.{◌≡◌, drop, map}
use Rattle.std.specs.List.{list_all}
use Rattle.index_text.specs.Lines.{is_need}
use Rattle.index_text.specs.Plain.{plain_entry}
use Rattle.index_text.proofs.reader.are_needs.Given as goal

abbrev pub invariant-loop-entry : goal.invariant-loop-entry
invariant-loop-entry l =
    list_all is_need (map plain_entry (drop l.entry-index l.entries)) ≡ list_all is_need (map plain_entry l.entries)
