use Rattle.std.proofs.Common.{◌≡◌, ◌∙◌, [], true, ap}
use Rattle.std.proofs.lemmas.List.Elements.{All-filter}
use Rattle.solver_cache.proofs.Words.{matching, unwrap_or}
use Rattle.solver_cache.proofs.cache.SolverCache.matching_list.Goals as goal

pub returns-clause-known : goal.returns-clause-known
returns-clause-known g c =
    let universe = g.D.Interner.universe c.args.self.now.provider in
    let answers = g.D.DependencyProvider.answers c.args.self.now.provider in
    let list : c.list.result.now ≡ matching universe answers c.args.set = c.list.ensures
    ∙ ap (λ o. unwrap_or o []) c.requires in
    rw list (All-filter _ (λ s. universe.knows_solvable s ≡ true) _
    (g.met.D.DependencyProvider.candidates_known c.args.self.now.provider (universe.set_name c.args.set)))

pub returns-clause-list : goal.returns-clause-list
returns-clause-list g c = c.list.ensures ∙ ap (λ o. unwrap_or o []) c.requires
