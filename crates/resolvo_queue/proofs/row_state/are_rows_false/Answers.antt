use Rattle.std.proofs.Common.{length, ◌∙◌, rules, tests}
use Rattle.std.proofs.lemmas.Iterator.{YieldsList-from_slice, YieldsList-from_take}
use Rattle.std.proofs.lemmas.Iterator.Search.{all_from_yields_List}
use Rattle.decisions.specs.Decisions.{values_in}
use Rattle.resolvo_queue.proofs.Rows.States.{false_list, false-rows}
use Rattle.resolvo_queue.proofs.row_state.are_rows_false.Goals as goal

pub returns : goal.returns
returns g c =
    let val = values_in c.args.decisions.now in
    all_from_yields_List (λ l. false_list val l.items) _ _ c.all.result c.all.ensures.ran
    (YieldsList-from_take (length c.args.sets.now) (YieldsList-from_slice c.args.lists.now (cc)) (cc))
    (λ x b q k. search (rules, tests)) ∙ false-rows val (λ l. l.items) c.args.sets.now c.args.lists.now
