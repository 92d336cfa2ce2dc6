use Rattle.scripts.proofs.reply_line.+push_many_behind.Given as goal

abbrev pub decreases-push_many_behind : goal.decreases-push_many_behind
decreases-push_many_behind l = l.number
