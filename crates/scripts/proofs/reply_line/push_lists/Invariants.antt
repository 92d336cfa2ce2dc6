use Rattle.std.proofs.Common.{◌≡◌, ◌++◌, drop, map}
use Rattle.resolvo_store.specs.ReplyTexts.{lists_text}
use Rattle.scripts.proofs.reply_line.push_lists.Given as goal

abbrev pub invariant-loop-list : goal.invariant-loop-list
invariant-loop-list g l = l.text.items ++ lists_text (map (λ v. v.items) (drop l.list-index l.lists)) ≡
    l.initial.text.items ++ lists_text (map (λ v. v.items) l.lists)
