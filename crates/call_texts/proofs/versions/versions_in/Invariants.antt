use Rattle.std.proofs.Common.{◌≡◌, ◌+◌, ◌≤◌, ◌==◌, length}
use Rattle.std.specs.List.{slice_split}
use Rattle.call_texts.specs.Versions.{filled, versions_from, versions_in}
use Rattle.call_texts.proofs.versions.versions_in.Given as goal

-- the versions of the lines that are left
abbrev pub invariant-loop-line : goal.invariant-loop-line
invariant-loop-line l =
    let left = versions_from l.at (slice_split (λ b. b == 10) l.rest) in record {
      within : l.at + length l.rest ≡ length l.answer;
      few : l.count ≤ l.at;
      count : l.count + length left ≡ length (versions_in l.answer);
      filled : filled l.count left l.buffer ≡ filled 0 (versions_in l.answer) l.initial.buffer;
    }

abbrev pub decreases-loop-line : goal.decreases-loop-line
decreases-loop-line l = length l.rest
