use Rattle.std.proofs.Common.{◌+◌, drop, arith}
use Rattle.std.proofs.lemmas.Grind.{common_steps}
use Rattle.resolvo_store.specs.ReplyTexts.{others_text}
use Rattle.scripts.proofs.Beginnings.{begins_more}
use Rattle.scripts.proofs.reply_line.push_others.Goals as goal

pub returns-in_err-push_behind : goal.returns-in_err-push_behind
returns-in_err-push_behind c =
    let left = others_text (drop (c.loop-variable.variable-index + 1) c.args.others.now) in
    grind (arith, common_steps, begins_more _ left _ c.in_err-push_behind.ensures)
