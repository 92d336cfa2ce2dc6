use Rattle.std.proofs.Common.{◌+◌, drop, arith}
use Rattle.std.specs.Prelude.{codes, flat_map}
use Rattle.std.proofs.lemmas.Grind.{common_steps}
use Rattle.resolvo_store.specs.ReplyTexts.{field}
use Rattle.scripts.proofs.Beginnings.{begins_more}
use Rattle.scripts.proofs.reply_line.push_clauses.Goals as goal

pub returns-in_err-push_behind : goal.returns-in_err-push_behind
returns-in_err-push_behind c =
    let left = flat_map (field (codes " ")) (drop (c.loop-clause.clause-index + 1) c.args.clauses.now) in
    grind (arith, common_steps, begins_more _ left _ c.in_err-push_behind.ensures)
