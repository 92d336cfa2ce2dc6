use Rattle.std.proofs.Common.{◌∙◌}
use Rattle.resolvo_store.proofs.CallerLaws.{store_in, unknown_undecided}
use Rattle.test_store_calls.proofs.law_callers.value_of_unknown.Goals as goal

pub returns : goal.returns
returns g c = c.value.ensures.value
    ∙ unknown_undecided (store_in c.value.ensures.sound) c.value.ensures.sound c.args.variable c.requires
