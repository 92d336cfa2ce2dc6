use Rattle.std.proofs.Common.{◌≡◌, ◌^◌, [], ◌∷◌, ◌++◌, ◌∙◌, true, length, leb, refl, sym, ap, subst, arith}
use Rattle.std.proofs.lemmas.Bool.Decides.{nat_tests}
use Rattle.std.proofs.lemmas.List.{append-nil}
use Rattle.variables.proofs.InterningLemmas.{handed_on}
use Rattle.solver_cache.proofs.CacheLemmas.{later_same, refused_in_turn}
use Rattle.solver_cache.specs.Questions.{refusal_of}
use Rattle.resolvo_store.specs.Store.{Provider, gathered}
use Rattle.resolvo_store.proofs.Words.{IdSpace, IsGrowthRefusal, IsPartlyInterned, lacks_variables, OutOfMemory}
use Rattle.resolvo_store.proofs.Words.{sorted_of_set}
use Rattle.resolvo_store.proofs.LoadedSets.{of_cache, of_growth, of_rows}
use Rattle.resolvo_store.proofs.loaded_lists.load_set.Given.{Over}
use Rattle.resolvo_store.proofs.loaded_lists.load_set.Goals as goal

-- the provider's functions
abbrev provided : (g : Over) → g.row.D.Denot → Provider g.row.D-NameId.Denot g.row.D-SolvableId.Denot
provided g = gathered g.D.NameId.PartialEq.eq g.D.SolvableId.PartialEq.eq g.D.NameId.Slots.IdMap.is_too_large
    g.D.SolvableId.Slots.IdMap.is_too_large g.D.SolvableId.Set.IdSet.is_too_large g.D.NameId.SolverId.are_many
    g.D.Interner.universe g.D.DependencyProvider.answers

-- where the cache refuses the candidates

pub returns-in_err-candidates-clause-refused : goal.returns-in_err-candidates-clause-refused
returns-in_err-candidates-clause-refused g c =
    let has = g.D.SolvableId.Set.IdSet.has in
    let old = c.args.cache.now in
    let p = provided g old.provider in
    let new = c.sorted_candidates_for_version_set.new.self in
    let e = c.in_err-candidates.field-0.0 in
    let refused = c.in_err-candidates.ensures.refused in
    handed_on _ c.from_residual.result (refusal_of e) c.from_residual.ensures.1 (record {
      later = refused.later;
      part = (0, refl);
      reason = of_cache p old new (c.args.set ∷ []) _ e (refused_in_turn has p old old new (later_same has old)
          refused.later (c.args.set ∷ []) 0 c.args.set (omega arith) e refused.reason);
    })

-- where the rows are too many

pub returns-in_err-more_rows-clause-refused : goal.returns-in_err-more_rows-clause-refused
returns-in_err-more_rows-clause-refused g c =
    let old = c.args.cache.now in
    let p = provided g old.provider in
    let best = sorted_of_set p c.args.set in
    let here : length (best ++ []) ≡ c.len.result = ap length (append-nil best)
    ∙ sym (ap length c.in_ok-candidates.ensures.list) ∙ sym (c.len.ensures ∙ c.in_ok-candidates.candidates.ok.0) in
    let many = c.in_err-more_rows.ensures.err.1 in
    let out : leb (2 ^ 40) (length (best ++ [])) ≡ true = grind (arith, nat_tests, here, many) in
    handed_on _ c.from_residual-in_err-more_rows.result IdSpace
    (rw (← c.in_err-more_rows.ensures.err.0) c.from_residual-in_err-more_rows.ensures.1) (record {
      later = c.in_ok-candidates.ensures.package.later;
      part = (0, refl);
      reason = of_rows p old c.sorted_candidates_for_version_set.new.self (c.args.set ∷ []) _ _ out;
    })

-- where memory is refused

pub returns-in_err-lists-clause-refused : goal.returns-in_err-lists-clause-refused
returns-in_err-lists-clause-refused g c =
    handed_on _ c.from_residual-in_err-lists.result OutOfMemory c.from_residual-in_err-lists.ensures.1 (record {
      later = c.in_ok-candidates.ensures.package.later;
      part = (0, refl);
      reason = tt;
    })

-- where a variable is refused

pub returns-in_err-list-clause-refused : goal.returns-in_err-list-clause-refused
returns-in_err-list-clause-refused g c =
    let old = c.args.cache.now in
    let p = provided g old.provider in
    let os = c.args.variables.now in
    let best = sorted_of_set p c.args.set in
    let e = c.in_err-list.field-0.0 in
    let here : c.deref.result.now ≡ best ++ [] = c.deref.ensures.value ∙ c.in_ok-candidates.ensures.list
    ∙ sym (append-nil best) in
    handed_on _ c.from_residual-in_err-list.result e c.from_residual-in_err-list.ensures.1 (record {
      later = c.in_ok-candidates.ensures.package.later;
      part = subst (λ l. IsPartlyInterned p.same_solvable os l c.intern_list.new.variables) here
          c.in_err-list.ensures.err;
      reason = of_growth p old c.sorted_candidates_for_version_set.new.self (c.args.set ∷ []) _ _ e
          (subst (λ l. IsGrowthRefusal (lacks_variables p.same_solvable p.is_large_solvable os l) e) here
          c.in_err-list.ensures.refused);
    })
