use Rattle.std.proofs.Common.{◌≡◌, ◌≤◌, ◌++◌, ◌-◌, ◌+◌, vec_len, vec_capacity}
use Rattle.script_packages.proofs.Words.{numbers}
use Rattle.script_packages.proofs.provider.numbers.Given as goal

abbrev pub invariant-loop-i : goal.invariant-loop-i
invariant-loop-i l = record {
  listed : l.found.items ++ numbers l.i (l.fn.span.last + 1 - l.i)
      ≡ numbers l.fn.span.first (l.fn.span.last + 1 - l.fn.span.first);
  room : vec_len l.found + (l.fn.span.last + 1 - l.i) ≤ vec_capacity l.found;
}
