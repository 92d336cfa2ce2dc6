use Rattle.std.proofs.Common.{arith, drop, string_bytes}
use Rattle.example_answers.proofs.Words.{text_of_pick}
use Rattle.example_answers.proofs.ExplainLemmas.{whole_without_more}
use Rattle.example_answers.proofs.why.Picks.write_lines.Goals as goal

pub returns-in_default : goal.returns-in_default
returns-in_default g c =
    let picks = c.args.self.now in
    let interner = picks.interner.now in
    whole_without_more
    (text_of_pick (g.I.Interner.universe interner) (g.I.Interner.texts interner) picks.requested.now picks.picked.now)
    (drop c.loop-cause.cause-index c.args.causes.now) c.loop-cause.others.now (string_bytes c.loop-cause.text) _
    (omega (arith, c.in_default.len_below)) c.loop-cause.invariant
