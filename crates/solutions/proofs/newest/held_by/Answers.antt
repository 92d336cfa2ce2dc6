use Rattle.std.proofs.Common.{◌≡◌, true}
use Rattle.std.proofs.lemmas.List.Elements.{All-filter}
use Rattle.solutions.proofs.DecisionLemmas.{answered}
use Rattle.solutions.proofs.newest.held_by.Goals as goal

pub returns-clause-known : goal.returns-clause-known
returns-clause-known g c =
    let provider = c.args.provider.now in
    answered c.filter_candidates.result
    (λ found is. rw is (All-filter ((g.D.DependencyProvider.answers provider).matches c.args.set)
    (λ s. (g.D.Interner.universe provider).knows_solvable s ≡ true) c.args.solvables.now c.requires.known))
    c.filter_candidates.ensures.ok
