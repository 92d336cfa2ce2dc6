use Rattle.std.proofs.Common.{◌≡◌, ◌≤◌, length}
use Rattle.debian_text.specs.Fields.{fields}
use Rattle.debian_scenario.specs.Stanzas.{stanzas}
use Rattle.debian_scenario.proofs.scenario.first_stanza.Given as goal

-- so far there was no stanza
abbrev pub invariant-empty : goal.invariant-empty
invariant-empty l = record {
  same : stanzas (fields l.rest) ≡ stanzas (fields l.text);
  shorter : length l.rest ≤ length l.text;
}

abbrev pub decreases-empty : goal.decreases-empty
decreases-empty l = length l.rest
