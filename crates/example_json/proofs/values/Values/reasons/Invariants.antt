use Rattle.std.proofs.Common.{◌≡◌, ◌++◌, map, drop}
use Rattle.example_json.proofs.Words.{reason_data, view}
use Rattle.example_json.proofs.values.Values.reasons.Given as goal

abbrev pub invariant-loop-reason : goal.invariant-loop-reason
invariant-loop-reason g l =
    let value = reason_data (g.I.Interner.universe l.self.interner.now) (g.I.Interner.texts l.self.interner.now) in
    map view l.values.items ++ map value (drop l.reason-index l.reasons) ≡ map value l.reasons
