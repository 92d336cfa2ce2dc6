use Rattle.std.proofs.Common.{◌∙◌, subst}
use Rattle.resolvo_queue.specs.Occurrences.{GrowsWith, HasAll}
use Rattle.resolvo_queue.proofs.Rows.Occurrences.{items_grow, items_have}
use Rattle.resolvo_queue.proofs.row_reader.add_lists.Goals as goal

pub returns-in_err-add_list-clause-grows : goal.returns-in_err-add_list-clause-grows
returns-in_err-add_list-clause-grows g c =
    items_grow c.args.requirement (λ l. l.items) c.args.lists.now c.loop-list.list-index c.list-item.result
    c.loop-list-test.true c.list-item.is
    c.args.occurrences.now c.loop-list.occurrences c.add_list.new.occurrences c.loop-list.invariant.grows
    (subst (λ vs. GrowsWith c.args.requirement vs c.loop-list.occurrences c.add_list.new.occurrences)
    c.deref.ensures.value c.add_list.ensures.grows)

pub returns-in_err-add_list-clause-listed : goal.returns-in_err-add_list-clause-listed
returns-in_err-add_list-clause-listed g c = c.add_list.ensures.listed ∙ c.loop-list.invariant.listed

pub loop-list-preserved : goal.loop-list-preserved
loop-list-preserved g c =
    let more : GrowsWith c.args.requirement c.list-item.result.items c.loop-list.occurrences
    c.add_list.new.occurrences =
    subst (λ vs. GrowsWith c.args.requirement vs c.loop-list.occurrences c.add_list.new.occurrences)
    c.deref.ensures.value c.add_list.ensures.grows in
    let has : HasAll c.args.requirement c.list-item.result.items c.add_list.new.occurrences =
    subst (λ vs. HasAll c.args.requirement vs c.add_list.new.occurrences) c.deref.ensures.value
    c.in_ok-add_list.ensures.all in
    record {
      grows = items_grow c.args.requirement (λ l. l.items) c.args.lists.now c.loop-list.list-index c.list-item.result
          c.loop-list-test.true c.list-item.is
          c.args.occurrences.now c.loop-list.occurrences c.add_list.new.occurrences c.loop-list.invariant.grows more;
      all = items_have c.args.requirement (λ l. l.items) c.args.lists.now c.loop-list.list-index c.list-item.result
          c.loop-list-test.true c.list-item.is
          c.args.occurrences.now c.loop-list.occurrences c.add_list.new.occurrences c.loop-list.invariant.grows more
          c.loop-list.invariant.all has;
      listed = c.add_list.ensures.listed ∙ c.loop-list.invariant.listed;
    }
