use Rattle.std.proofs.Common.{◌≡◌, ◌+◌, drop}
use Rattle.std.specs.Char.{is_ascii_digit}
use Rattle.std.specs.List.{prefix_len}
use Rattle.debian_versions.proofs.number.number_len.Given as goal

abbrev pub invariant-bytes : goal.invariant-bytes
invariant-bytes l = prefix_len is_ascii_digit l.text ≡ l.i + prefix_len is_ascii_digit (drop l.i l.text)
