use Rattle.std.proofs.Common.{◌<◌, length, ltb-true, refl, sym}
use Rattle.std.proofs.lemmas.Option.{slice_get_read}
use Rattle.solutions.proofs.DecisionLemmas.{answered}
use Rattle.solutions.proofs.needed.is_requested_at.Goals as goal

pub returns-in-Some : goal.returns-in-Some
returns-in-Some g c =
    let requirements = c.args.requirements.now in
    let requirement = c.in-Some.requirement.now in
    let below : c.args.place < length requirements =
    ltb-true c.args.place (length requirements) (sym c.in-Some.ensures.lookup.0) in
    answered c.offers.result
    (λ b decides e. (
      requirement,
      slice_get_read requirements
          (length requirements) c.args.place requirement refl below c.in-Some.ensures.lookup.1,
      decides.0 e,
    ))
    c.offers.ensures
