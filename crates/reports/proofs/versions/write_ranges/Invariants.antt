use Rattle.std.proofs.Common.{◌≡◌, ◌++◌, [], drop, false, string_bytes}
use Rattle.reports.specs.Versions.{begun, rest_of, text_of_ranges}
use Rattle.reports.proofs.versions.write_ranges.Given as goal

abbrev pub invariant-loop-version : goal.invariant-loop-version
invariant-loop-version g l =
    let text = text_of_ranges (g.I.Interner.universe l.interner) (g.I.Interner.texts l.interner)
    g.I.SolvableId.PartialEq.eq l.all in
    string_bytes l.text ++ text l.range l.rest (drop l.version-index l.others)
    ≡ string_bytes l.fn.text ++ text (begun l.fn.first) (rest_of g.I.SolvableId.PartialEq.eq false l.all [] l.fn.first)
    l.others
