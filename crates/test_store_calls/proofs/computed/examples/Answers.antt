use Rattle.test_store_calls.proofs.ExampleProofs
use Rattle.test_store_calls.proofs.computed.examples.Goals as goal

pub returns : goal.returns
returns c = ExampleProofs.examples
