use Rattle.std.proofs.Common.{◌≡◌, drop, take}
use Rattle.debian_text.specs.Fields.{fields, fields_from}
use Rattle.debian_text.proofs.field.next_field.Given as goal

-- no field ended so far
abbrev pub invariant-bytes : goal.invariant-bytes
invariant-bytes l = fields l.text ≡ fields_from (take l.i l.text) (drop l.i l.text)
