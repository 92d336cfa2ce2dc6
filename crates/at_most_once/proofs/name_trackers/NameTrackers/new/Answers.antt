use Rattle.std.proofs.Common.{◌^◌, ap, ◌∙◌, subst, sym}
use Rattle.id_storage.specs.StoredAnswers.{AreStored}
use Rattle.id_storage.proofs.AnswerLemmas.{none_kept}
use Rattle.at_most_once.specs.NameTrackers.{tracker_of}
use Rattle.at_most_once.proofs.TrackerLaws.{nothing_tracked}
use Rattle.at_most_once.proofs.name_trackers.NameTrackers.new.Goals as goal

pub invariant_of-result : goal.invariant_of-result
invariant_of-result g c =
    let places = g.N.Slots.IdMap.value_at c.new.result in
    subst (AreStored g.N.PartialEq.eq g.N.SolverId.is_id (2 ^ 32) places) (sym c.new-2.ensures.items)
    (none_kept g.N.PartialEq.eq g.N.SolverId.is_id (2 ^ 32) places c.new.ensures)

pub returns : goal.returns
returns g c = ap (tracker_of g.N.PartialEq.eq) c.new-2.ensures.items ∙ nothing_tracked g.N.PartialEq.eq
