use Rattle.std.proofs.Common.{◌++◌, arith}
use Rattle.std.specs.Prelude.{codes}
use Rattle.std.proofs.lemmas.Grind.{common_steps}
use Rattle.resolvo_store.specs.ReplyTexts.{conflict_text}
use Rattle.scripts.proofs.Beginnings.{begins_more}
use Rattle.scripts.proofs.reply_line.push_clause.Goals as goal

pub returns-in_err-push_behind : goal.returns-in_err-push_behind
returns-in_err-push_behind c =
    let left = conflict_text c.args.conflict ++ codes "\n" in
    grind (arith, common_steps, begins_more _ left _ c.in_err-push_behind.ensures)
