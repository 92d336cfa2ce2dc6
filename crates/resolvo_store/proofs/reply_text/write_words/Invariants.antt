use Rattle.std.proofs.Common.{take, map}
use Rattle.resolvo_store.proofs.Words.{HasWritten, IsPlainFormatter, lists_text}
use Rattle.resolvo_store.proofs.reply_text.write_words.Given as goal

abbrev pub invariant-loop-list : goal.invariant-loop-list
invariant-loop-list g l =
    IsPlainFormatter l.initial.f → HasWritten g.W.Write.write_str_gives l.initial.f
    (lists_text (map (λ v. v.items) (take l.list-index l.lists))) l.f
