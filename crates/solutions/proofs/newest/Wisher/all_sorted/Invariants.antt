use Rattle.std.proofs.Common.{◌≡◌, take}
use Rattle.solutions.proofs.Words.{flat_map, sorted}
use Rattle.solutions.proofs.newest.Wisher.all_sorted.Given as goal

abbrev pub invariant-loop-set : goal.invariant-loop-set
invariant-loop-set g l =
    let provider = l.self.provider.now in
    l.all.items ≡ flat_map (sorted (g.D.Interner.universe provider)
    (g.D.DependencyProvider.answers provider) g.D.SolvableId.PartialEq.eq) (take l.set-index l.sets)
