use Rattle.std.proofs.Common.{take}
use Rattle.resolvo_store.proofs.Words.{codes, field, flat_map, HasWritten, IsPlainFormatter}
use Rattle.resolvo_store.proofs.reply_text.write_clauses.Given as goal

abbrev pub invariant-loop-clause : goal.invariant-loop-clause
invariant-loop-clause g l =
    IsPlainFormatter l.initial.f → HasWritten g.W.Write.write_str_gives l.initial.f
    (flat_map (field (codes " ")) (take l.clause-index l.clauses)) l.f
