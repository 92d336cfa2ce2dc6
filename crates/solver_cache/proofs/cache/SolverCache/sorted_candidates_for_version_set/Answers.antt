use Rattle.std.proofs.Common.{◌≡◌, ◌∙◌, true, false, ap, inr, subst}
use Rattle.std.proofs.lemmas.List.Elements.{All-filter}
use Rattle.solver_cache.proofs.Words.{favored_first, Store}
use Rattle.solver_cache.proofs.CacheLemmas.{handed_on}
use Rattle.solver_cache.proofs.FilteringLemmas.{memory_refused}
use Rattle.solver_cache.proofs.cache.SolverCache.sorted_candidates_for_version_set.Goals as goal

pub best_first-requires-clause-known : goal.best_first-requires-clause-known
best_first-requires-clause-known g c = rw c.in_ok-list.ensures.package.later.provider c.requires

pub best_first-requires-clause-solvables : goal.best_first-requires-clause-solvables
best_first-requires-clause-solvables g c =
    let old = c.args.self.now.provider in
    let universe = g.D.Interner.universe in
    rw (c.in_ok-list.ensures.package.later.provider, c.in_ok-list.ensures.list)
    (All-filter _ (λ s. (universe old).knows_solvable s ≡ true) _
    (g.met.D.DependencyProvider.candidates_known old ((universe old).set_name c.args.set)))

pub returns-clause-list : goal.returns-clause-list
returns-clause-list g c =
    let alike = g.D.SolvableId.PartialEq.eq in
    let answers = g.D.DependencyProvider.answers in
    let universe = g.D.Interner.universe in
    let old = c.args.self.now.provider in
    let set = c.args.set in
    c.in_ok-best_first.ensures.ok
    ∙ ap (λ q. favored_first alike ((answers q).favored ((universe q).set_name set))
    ((answers q).order c.in_ok-list.list.items))
    c.in_ok-list.ensures.package.later.provider
    ∙ ap (λ l. favored_first alike ((answers old).favored ((universe old).set_name set)) ((answers old).order l))
    c.in_ok-list.ensures.list

pub returns-in_err-best_first-clause-refused : goal.returns-in_err-best_first-clause-refused
returns-in_err-best_first-clause-refused g c =
    let done = c.in_ok-list.ensures.package in
    handed_on _ c.from_residual-in_err-best_first.result (Store c.in_err-best_first.field-0.0)
    c.from_residual-in_err-best_first.ensures.1 (record {
      reason = memory_refused _ c.in_err-best_first.field-0.0 c.in_err-best_first.ensures.memory;
      left = inr done.queried;
      later = done.later;
    })

pub returns-clause-fit : goal.returns-clause-fit
returns-clause-fit g c =
    subst (λ q. g.D.NameId.Slots.IdMap.is_too_large ((g.D.Interner.universe q).set_name c.args.set) ≡ false)
    c.in_ok-list.ensures.package.later.provider c.best_first.ensures.fit
