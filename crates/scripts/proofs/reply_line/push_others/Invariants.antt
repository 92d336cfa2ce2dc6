use Rattle.std.proofs.Common.{◌≡◌, ◌++◌, drop}
use Rattle.resolvo_store.specs.ReplyTexts.{others_text}
use Rattle.scripts.proofs.reply_line.push_others.Given as goal

abbrev pub invariant-loop-variable : goal.invariant-loop-variable
invariant-loop-variable l = l.text.items ++ others_text (drop l.variable-index l.others)
    ≡ l.initial.text.items ++ others_text l.others
