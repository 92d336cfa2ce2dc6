use Rattle.std.proofs.Common.{◌+◌, drop, map, arith}
use Rattle.std.proofs.lemmas.Grind.{common_steps}
use Rattle.resolvo_store.specs.ReplyTexts.{lists_text}
use Rattle.scripts.proofs.Beginnings.{begins_more}
use Rattle.scripts.proofs.reply_line.push_lists.Goals as goal

pub returns-in_err-push_word : goal.returns-in_err-push_word
returns-in_err-push_word g c =
    let left = lists_text (map (λ v. v.items) (drop (c.loop-list.list-index + 1) c.args.lists.now)) in
    grind (arith, common_steps, begins_more _ left _ c.in_err-push_word.ensures)

pub loop-list-preserved : goal.loop-list-preserved
loop-list-preserved g c = grind (arith, common_steps)

pub returns : goal.returns
returns g c = grind (arith, common_steps)
