use Rattle.std.proofs.Common.{◌≡◌, ◌++◌, drop, string_bytes}
use Rattle.example_answers.proofs.Words.{lines_of_causes, text_of_pick}
use Rattle.example_answers.proofs.why.Picks.write_lines.Given as goal

abbrev pub invariant-loop-cause : goal.invariant-loop-cause
invariant-loop-cause g l =
    let interner = l.self.interner.now in
    let text = text_of_pick (g.I.Interner.universe interner) (g.I.Interner.texts interner)
    l.self.requested.now l.self.picked.now in
    string_bytes l.text ++ lines_of_causes text (drop l.cause-index l.causes) l.others
    ≡ string_bytes l.fn.text ++ lines_of_causes text l.causes l.self.picked.now
