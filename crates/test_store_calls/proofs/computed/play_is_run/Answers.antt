use Rattle.test_store_calls.proofs.PlayLaws
use Rattle.test_store_calls.proofs.computed.play_is_run.Goals as goal

pub returns : goal.returns
returns g c = PlayLaws.play_is_run _ _
