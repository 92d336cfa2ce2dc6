use Rattle.std.proofs.Common.{◌≡◌, ◌++◌, drop}
use Rattle.std.specs.Prelude.{flat_map, codes}
use Rattle.resolvo_store.specs.ReplyTexts.{field}
use Rattle.scripts.proofs.reply_line.push_clauses.Given as goal

abbrev pub invariant-loop-clause : goal.invariant-loop-clause
invariant-loop-clause l =
    l.text.items ++ flat_map (field (codes " ")) (drop l.clause-index l.clauses)
    ≡ l.initial.text.items ++ flat_map (field (codes " ")) l.clauses
