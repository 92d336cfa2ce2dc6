use Rattle.std.proofs.lemmas.Grind.{common_steps}
use Rattle.std.proofs.Common.{◌≡◌, ◌∙◌, ap, subst, sym, inl, inr, arith}
use Rattle.solver_cache.proofs.Words.{filtered, gathered, IsQueried, IsUnanswered, Provider, Store}
use Rattle.solver_cache.proofs.CacheLemmas.{handed_on, same_answer}
use Rattle.solver_cache.proofs.cache.SolverCache.filtered.Given.{Over}
use Rattle.solver_cache.proofs.cache.SolverCache.filtered.Goals as goal

-- the provider's functions
abbrev provided : (g : Over) → g.row.D.Denot → Provider g.row.D-NameId.Denot g.row.D-SolvableId.Denot
provided g = gathered g.D.NameId.PartialEq.eq g.D.SolvableId.PartialEq.eq g.D.NameId.Slots.IdMap.is_too_large
    g.D.SolvableId.Slots.IdMap.is_too_large g.D.SolvableId.Set.IdSet.is_too_large g.D.NameId.SolverId.are_many
    g.D.Interner.universe g.D.DependencyProvider.answers

pub filter_candidates-requires-clause-known : goal.filter_candidates-requires-clause-known
filter_candidates-requires-clause-known g c =
    let answered = c.in_ok-id.ensures.answered in
    let found = answered.answer in
    let same : c.index.result.now ≡ found.0 =
    same_answer _ _ c.in_ok-id.id _ _ (ap (λ v. v.candidates) c.self-2.view_is) c.index.ensures found.1 in
    let provider : c.self-2.inside.provider ≡ c.args.self.now.provider = ap (λ v. v.provider) c.self-2.view_is
    ∙ answered.later.provider in
    let list : c.deref.result.now ≡ (g.D.DependencyProvider.answers c.args.self.now.provider).candidates
    c.version_set_name-name.result =
    c.deref.ensures.value ∙ ap (λ a. a.candidates.items) same ∙ found.2.candidates in
    rw (provider, list) (g.met.D.DependencyProvider.candidates_known c.args.self.now.provider
    c.version_set_name-name.result)

pub returns-clause-package : goal.returns-clause-package
returns-clause-package g c =
    let old = c.args.self.now in
    let p = provided g old.provider in
    let name : c.version_set_name-name.result ≡ p.universe.set_name c.args.set =
    c.version_set_name-name.ensures ∙ ap (λ v. (g.D.Interner.universe v.provider).set_name c.args.set) c.self.view_is in
    record {
      queried = subst (λ n. IsQueried p (g.D.DependencyProvider.may_answer old.provider) g.D.SolvableId.Set.IdSet.has
          old n
          c.cache_candidates.new.self) name c.in_ok-id.ensures.answered.queried;
      later = c.in_ok-id.ensures.answered.later;
      queried_now = grind (arith, common_steps);
    }

pub returns-clause-list : goal.returns-clause-list
returns-clause-list g c =
    let answers = g.D.DependencyProvider.answers in
    let answered = c.in_ok-id.ensures.answered in
    let found = answered.answer in
    let same : c.index.result.now ≡ found.0 =
    same_answer _ _ c.in_ok-id.id _ _ (ap (λ v. v.candidates) c.self-2.view_is) c.index.ensures found.1 in
    let provider : c.self-2.inside.provider ≡ c.args.self.now.provider = ap (λ v. v.provider) c.self-2.view_is
    ∙ answered.later.provider in
    let name : c.version_set_name-name.result ≡ (g.D.Interner.universe c.args.self.now.provider).set_name c.args.set =
    c.version_set_name-name.ensures ∙ ap (λ v. (g.D.Interner.universe v.provider).set_name c.args.set) c.self.view_is in
    let list : c.deref.result.now ≡ (answers c.args.self.now.provider).candidates
    ((g.D.Interner.universe c.args.self.now.provider).set_name c.args.set) =
    c.deref.ensures.value ∙ ap (λ a. a.candidates.items) same ∙ found.2.candidates
    ∙ ap (answers c.args.self.now.provider).candidates name in
    c.in_ok-filter_candidates.ensures.ok
    ∙ ap (λ q. filtered ((answers q).matches c.args.set) c.args.inverse c.deref.result.now) provider
    ∙ ap (filtered ((answers c.args.self.now.provider).matches c.args.set) c.args.inverse) list

pub returns-in_err-id-clause-refused : goal.returns-in_err-id-clause-refused
returns-in_err-id-clause-refused g c =
    let old = c.args.self.now in
    let p = provided g old.provider in
    let refused = c.in_err-id.ensures.refused in
    let name : c.version_set_name-name.result ≡ p.universe.set_name c.args.set =
    c.version_set_name-name.ensures ∙ ap (λ v. (g.D.Interner.universe v.provider).set_name c.args.set) c.self.view_is in
    handed_on _ c.from_residual.result c.in_err-id.field-0.0 c.from_residual.ensures.1 (record {
      reason = rw (sym name) refused.reason;
      left = inl (subst (λ n. IsUnanswered p (g.D.DependencyProvider.may_answer old.provider)
          g.D.SolvableId.Set.IdSet.has old n
          c.cache_candidates.new.self) name refused.left);
      later = refused.later;
    })

pub returns-in_err-filter_candidates-clause-refused : goal.returns-in_err-filter_candidates-clause-refused
returns-in_err-filter_candidates-clause-refused g c =
    let old = c.args.self.now in
    let p = provided g old.provider in
    let answered = c.in_ok-id.ensures.answered in
    let name : c.version_set_name-name.result ≡ p.universe.set_name c.args.set =
    c.version_set_name-name.ensures ∙ ap (λ v. (g.D.Interner.universe v.provider).set_name c.args.set) c.self.view_is in
    handed_on _ c.from_residual-in_err-filter_candidates.result
    (Store c.in_err-filter_candidates.field-0.0) c.from_residual-in_err-filter_candidates.ensures.1 (record {
      reason = grind (arith, common_steps);
      left = inr (subst (λ n. IsQueried p (g.D.DependencyProvider.may_answer old.provider)
          g.D.SolvableId.Set.IdSet.has old n
          c.cache_candidates.new.self) name answered.queried);
      later = answered.later;
    })
