use Rattle.std.proofs.Common.{◌<◌, length, ltb-true, refl, sym}
use Rattle.std.proofs.lemmas.Option.{slice_get_read}
use Rattle.solutions.proofs.DecisionLemmas.{answered}
use Rattle.solutions.proofs.needed.is_required_by.Goals as goal

pub returns : goal.returns
returns g c =
    let before = c.args.before.now in
    let parent = c.in-Some.parent.now in
    let below : c.args.place < length before = ltb-true c.args.place (length before) (sym c.in-Some.ensures.lookup.0) in
    answered c.is_offered_by_needs.result
    (λ b decides e. (
      parent,
      slice_get_read before (length before) c.args.place parent refl below
          c.in-Some.ensures.lookup.1,
      decides.0 e,
    ))
    c.is_offered_by_needs.ensures
