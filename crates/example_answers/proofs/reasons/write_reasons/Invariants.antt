use Rattle.std.proofs.Common.{◌≡◌, ◌++◌, drop, string_bytes}
use Rattle.example_answers.proofs.Words.{lines_of, text_of_reason}
use Rattle.example_answers.proofs.reasons.write_reasons.Given as goal

abbrev pub invariant-loop-reason : goal.invariant-loop-reason
invariant-loop-reason g l =
    let text = text_of_reason (g.I.Interner.universe l.interner) (g.I.Interner.texts l.interner) in
    string_bytes l.text ++ lines_of text (drop l.reason-index l.reasons)
    ≡ string_bytes l.fn.text ++ lines_of text l.reasons
