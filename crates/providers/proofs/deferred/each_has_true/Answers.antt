use Rattle.std.proofs.Common.{rules, tests, true, false}
use Rattle.std.proofs.lemmas.Iterator.{cases_from_all, YieldsList-from_slice}
use Rattle.providers.specs.Deferred.{candidates_of, HasAnswer}
use Rattle.providers.proofs.DeferredLaws.{holds_by_cases}
use Rattle.providers.proofs.deferred.each_has_true.Goals as goal

pub returns : goal.returns
returns g c =
    let answers = goal.F-post g c.args.test.now in
    holds_by_cases answers c.args.disjunct.now c.all.result
    (cases_from_all _ _ _ (λ d. HasAnswer answers (candidates_of d) true)
    (λ d. HasAnswer answers (candidates_of d) false) c.all.ensures.ran
    (YieldsList-from_slice c.args.disjunct.now cc) (λ x q k. search (rules, tests)) (λ x q k. search (rules, tests)))
