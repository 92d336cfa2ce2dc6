use Rattle.std.proofs.Common.{◌≡◌, ◌<◌, take, drop}
use Rattle.index_text.specs.Entries.{is_entry, cut, put_front}
use Rattle.index_text.specs.Sets.{texts}
use Rattle.index_text.proofs.entry.first_entry.Given as goal

-- behind the first word none so far begins an entry
abbrev pub invariant-loop-i : goal.invariant-loop-i
invariant-loop-i l = 0 < l.i → cut is_entry (texts l.words) ≡
    put_front is_entry (texts (take l.i l.words)) (cut is_entry (texts (drop l.i l.words)))
