use Rattle.std.proofs.Common.{◌≡◌, take, drop}
use Rattle.std.specs.List.{slice_split}
use Rattle.std.specs.Str.{bytes_eq}
use Rattle.index_text.proofs.Cuts.{onto_front}
use Rattle.index_text.specs.Sets.{texts}
use Rattle.index_text.proofs.words.first_part.Given as goal

-- no word so far separates
abbrev pub invariant-loop-i : goal.invariant-loop-i
invariant-loop-i l = slice_split (bytes_eq l.between) (texts l.words) ≡
    onto_front (texts (take l.i l.words)) (slice_split (bytes_eq l.between) (texts (drop l.i l.words)))
