use Rattle.std.proofs.Common.{◌≡◌, ◌∙◌, refl, sym, ap}
use Rattle.solver_cache.proofs.CacheLemmas.{found_answer, same_answer}
use Rattle.solver_cache.proofs.cache.SolverCache.favored.Goals as goal

pub returns-in-Some : goal.returns-in-Some
returns-in-Some g c =
    let found = found_answer _ _ c.self.invariant g.met.D.NameId.SameValue.same c.version_set_name-name.result
    c.in-Some.id
    (sym c.in-Some.ensures.found) c.in-Some.ensures.answer in
    let same : c.index.result.now ≡ found.0 =
    same_answer c.self.inside.candidates c.self.inside.candidates c.in-Some.id _ _ refl c.index.ensures found.1 in
    rw (sym c.self.view_is)
    (ap (λ a. a.favored) same ∙ found.2.favored
    ∙ ap (g.D.DependencyProvider.answers c.self.inside.provider).favored c.version_set_name-name.ensures)
