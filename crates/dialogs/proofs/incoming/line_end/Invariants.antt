use Rattle.std.proofs.Common.{take}
use Rattle.dialogs.specs.LineReads.{HasNoFeed}
use Rattle.dialogs.proofs.incoming.line_end.Given as goal

abbrev pub invariant-loop-i : goal.invariant-loop-i
invariant-loop-i l = HasNoFeed (take l.i l.text)
