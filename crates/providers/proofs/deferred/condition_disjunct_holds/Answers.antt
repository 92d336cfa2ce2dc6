use Rattle.providers.proofs.DeferredLaws.{holds_by_test}
use Rattle.providers.proofs.deferred.condition_disjunct_holds.Goals as goal

pub returns-clause-tested : goal.returns-clause-tested
returns-clause-tested g c = λ is_true says.
    holds_by_test (goal.F-post g c.args.is_positively_decided) is_true says c.args.disjunct.now
    c.each_has_true.result c.each_has_true.ensures
