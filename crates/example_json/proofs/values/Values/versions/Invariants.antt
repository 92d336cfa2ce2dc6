use Rattle.std.proofs.Common.{◌≡◌, ◌++◌, map, drop}
use Rattle.example_json.proofs.Words.{version_data, view}
use Rattle.example_json.proofs.values.Values.versions.Given as goal

abbrev pub invariant-loop-solvable : goal.invariant-loop-solvable
invariant-loop-solvable g l =
    let value = version_data (g.I.Interner.universe l.self.interner.now) (g.I.Interner.texts l.self.interner.now) in
    map view l.values.items ++ map value (drop l.solvable-index l.solvables) ≡ map value l.solvables
