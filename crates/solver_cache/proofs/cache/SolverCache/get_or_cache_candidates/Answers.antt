use Rattle.std.proofs.Common.{◌≡◌, ◌<◌, ◌∙◌, length, sym, arith}
use Rattle.std.proofs.lemmas.List.{length-map}
use Rattle.std.proofs.lemmas.Option.{slice_get_within}
use Rattle.solver_cache.proofs.Words.{values_of}
use Rattle.solver_cache.proofs.CacheLemmas.{handed_on, some_is}
use Rattle.solver_cache.proofs.RefusalLemmas.{refused_name}
use Rattle.solver_cache.proofs.cache.SolverCache.get_or_cache_candidates.Goals as goal

pub candidates-requires : goal.candidates-requires
candidates-requires g c =
    let cached = c.cache_candidates.new.self.candidates in
    let answer = c.in_ok-id.ensures.answered.answer in
    let within : c.in_ok-id.id < length (values_of cached) =
    slice_get_within (values_of cached) c.in_ok-id.id answer.0 answer.1 in
    omega (arith, within, length-map cached (λ e. e.1))

pub returns-clause-answer : goal.returns-clause-answer
returns-clause-answer g c =
    let answer = c.in_ok-id.ensures.answered.answer in
    let same : c.candidates.result.now ≡ answer.0 = some_is _ _ (sym c.candidates.ensures ∙ answer.1) in
    rw same answer.2

pub returns-in_err-id-clause-refused : goal.returns-in_err-id-clause-refused
returns-in_err-id-clause-refused g c =
    handed_on _ c.from_residual.result c.in_err-id.field-0.0 c.from_residual.ensures.1
    (refused_name c.in_err-id.ensures.refused)
