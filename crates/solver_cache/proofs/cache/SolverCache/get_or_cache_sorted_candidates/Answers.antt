use Rattle.std.proofs.Common.{◌∙◌, [], ap}
use Rattle.solver_cache.proofs.Words.{unwrap_or}
use Rattle.solver_cache.proofs.CacheLemmas.{handed_on}
use Rattle.solver_cache.proofs.RefusalLemmas.{refused_sets}
use Rattle.solver_cache.proofs.cache.SolverCache.get_or_cache_sorted_candidates.Goals as goal

pub returns-clause-list : goal.returns-clause-list
returns-clause-list g c = c.list.ensures ∙ ap (λ o. unwrap_or o []) c.in_ok-id.ensures.answered.list

pub returns-in_err-id-clause-refused : goal.returns-in_err-id-clause-refused
returns-in_err-id-clause-refused g c =
    handed_on _ c.from_residual.result c.in_err-id.field-0.0 c.from_residual.ensures.1
    (refused_sets c.in_err-id.ensures.refused)
