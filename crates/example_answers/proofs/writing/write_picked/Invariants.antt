use Rattle.std.proofs.Common.{◌≡◌, ◌++◌, drop, string_bytes}
use Rattle.example_answers.proofs.Words.{lines_of}
use Rattle.example_answers.proofs.writing.write_picked.Given as goal

abbrev pub invariant-loop-solvable : goal.invariant-loop-solvable
invariant-loop-solvable g l =
    let text = (g.I.Interner.texts l.interner).solvable in
    string_bytes l.text ++ lines_of text (drop l.solvable-index l.solvables)
    ≡ string_bytes l.fn.text ++ lines_of text l.solvables
