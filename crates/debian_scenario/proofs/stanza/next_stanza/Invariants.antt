use Rattle.std.proofs.Common.{◌≡◌, ◌≤◌, length}
use Rattle.debian_text.specs.Fields.{fields}
use Rattle.debian_scenario.specs.Plain.{plain_stanza}
use Rattle.debian_scenario.specs.Stanzas.{behind as behind_empty, front}
use Rattle.debian_scenario.specs.Values.{values_from, values_of}
use Rattle.debian_scenario.proofs.stanza.next_stanza.Given as goal

-- the values so far, and the fields that are left
abbrev pub invariant-fields : goal.invariant-fields
invariant-fields l = record {
  values : values_from (plain_stanza l.stanza) (front (fields l.rest)) ≡ values_of (front (fields l.text));
  behind : behind_empty (fields l.rest) ≡ behind_empty (fields l.text);
  shorter : length l.rest ≤ length l.text;
}

abbrev pub decreases-fields : goal.decreases-fields
decreases-fields l = length l.rest
