use Rattle.std.proofs.Common.{◌≡◌, ◌++◌, ◌<◌, length}
use Rattle.std.specs.Prelude.{option_map, IfSome}
use Rattle.index_text.proofs.Cuts.{words_left}
use Rattle.index_text.specs.Entries.{entry_of, entries_of, entries_behind}
use Rattle.index_text.specs.Plain.{plain_entries}
use Rattle.index_text.specs.PlainFormats.{plain_format}
use Rattle.index_text.specs.Sets.{texts, each_of}
use Rattle.index_text.proofs.entry.entries.Given as goal

-- the entries so far, and those of the words behind
abbrev pub invariant-entries : goal.invariant-entries
invariant-entries l = record {
  entries : option_map (λ more. plain_entries l.found ++ more)
      (each_of (entry_of (plain_format l.format)) (entries_behind l.rest))
      ≡ entries_of (plain_format l.format) (texts l.words);
  some : IfSome l.rest (λ rest. 0 < length rest.now);
}

abbrev pub decreases-entries : goal.decreases-entries
decreases-entries l = words_left l.rest
