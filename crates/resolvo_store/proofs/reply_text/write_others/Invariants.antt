use Rattle.std.proofs.Common.{take}
use Rattle.resolvo_store.proofs.Words.{HasWritten, IsPlainFormatter, others_text}
use Rattle.resolvo_store.proofs.reply_text.write_others.Given as goal

abbrev pub invariant-loop-variable : goal.invariant-loop-variable
invariant-loop-variable g l =
    IsPlainFormatter l.initial.f → HasWritten g.W.Write.write_str_gives l.initial.f
    (others_text (take l.variable-index l.others)) l.f
