use Rattle.std.proofs.Common.{◌≡◌, ◌++◌, drop, map}
use Rattle.test_support.specs.Listed.{places_of}
use Rattle.test_support.proofs.listed.named.Given as goal

abbrev pub invariant-loop-i : goal.invariant-loop-i
invariant-loop-i g l =
    l.found.items ++ map g.S.Numbered.id_of (places_of l.name l.i (drop l.i l.packages))
    ≡ map g.S.Numbered.id_of (places_of l.name 0 l.packages)
