use Rattle.std.proofs.Common.{◌≡◌, ◌++◌, map, drop, string_bytes}
use Rattle.providers.proofs.interner.Interner.display_merged_solvables.Given as goal

abbrev pub invariant-loop-solvable : goal.invariant-loop-solvable
invariant-loop-solvable g l =
    let text = (g.Self.Interner.texts l.self).solvable in
    record {
      name : l.merged.name ≡ l.initial.merged.name;
      texts : map string_bytes l.merged.texts.items ++ map text (drop l.solvable-index l.solvables)
          ≡ map text l.solvables;
    }
