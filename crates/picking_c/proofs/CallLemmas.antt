-- What follows from a call.
use Rattle.std.proofs.Common.{◌≡◌, ℕ, List, [], refl, inr, arith, rules}
use Rattle.example_answers.specs.Status.{status_of}
use Rattle.example_answers.specs.declared.outcome.Outcome.{Outcome}
use Rattle.example_answers.specs.declared.outcome.Outcome.TheVariants.{GaveUp}
use Rattle.picking_c.specs.Calls.{IsAnswered}

-- a call that has no memory even for an answer leaves the buffer as it was
pub unsaid : (Says : Outcome → List ℕ → Type 0) (buffer : List ℕ) (status : ℕ) → status ≡ status_of GaveUp
    → IsAnswered Says buffer buffer 0 status
unsaid Says buffer status is = record {
  outcome = GaveUp;
  text = [];
  says = inr (refl, refl);
  size = refl;
  answered = λ room. (is, search rules);
  short = λ room. absurd (omega arith);
}
