use Rattle.std.proofs.Common.{List, ℕ, None, Bor, sym}
use Rattle.std.specs.Prelude.{option_map}
use Rattle.std.proofs.Math.ListN.{get_or-map}
use Rattle.debian_scenario.specs.Keys.{place}
use Rattle.debian_scenario.proofs.stanza.Stanza.value.Goals as goal

pub returns : goal.returns
returns c =
    rw c.place.ensures.value (sym (get_or-map (option_map {T = Bor (List ℕ)} (λ v. v.now)) c.args.self.now.values
    (place c.args.key) None))
