use Rattle.std.proofs.Common.{◌≡◌, ◌++◌, map, drop}
use Rattle.example_json.proofs.Words.{set_data, view}
use Rattle.example_json.proofs.values.Values.each_set.Given as goal

abbrev pub invariant-loop-set : goal.invariant-loop-set
invariant-loop-set g l =
    let value = set_data (g.I.Interner.universe l.self.interner.now) (g.I.Interner.texts l.self.interner.now) in
    map view l.values.items ++ map value (drop l.set-index l.sets) ≡ map value l.sets
