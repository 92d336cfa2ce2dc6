use Rattle.std.proofs.Common.{◌≡◌, ◌++◌, drop, string_bytes}
use Rattle.reports.specs.Words.{text_of_each}
use Rattle.reports.proofs.words.write_each.Given as goal

abbrev pub invariant-loop-version : goal.invariant-loop-version
invariant-loop-version g l =
    let text = text_of_each (g.I.Interner.universe l.interner) (g.I.Interner.texts l.interner) in
    string_bytes l.text ++ text (drop l.version-index l.versions) ≡ string_bytes l.fn.text ++ text l.versions
