use Rattle.std.proofs.Common.{◌≡◌, ◌+◌, drop}
use Rattle.std.specs.List.{prefix_len}
use Rattle.debian_text.specs.Relations.{is_of_sign}
use Rattle.debian_text.proofs.relation.sign_len.Given as goal

abbrev pub invariant-bytes : goal.invariant-bytes
invariant-bytes l = prefix_len is_of_sign l.text ≡ l.i + prefix_len is_of_sign (drop l.i l.text)
