use Rattle.std.proofs.Common.{[], sym, subst}
use Rattle.std.specs.Prelude.{slice_get, unwrap_or}
use Rattle.script_text.specs.Statements.{MeansWords}
use Rattle.index_text.proofs.indexes.split.Goals as goal

pub numbered_line-requires-clause-means : goal.numbered_line-requires-clause-means
numbered_line-requires-clause-means c =
    subst (λ lines. MeansWords (unwrap_or (slice_get lines 0) []) c.in-Some.said) (sym c.in-Some.ensures.first.1)
    c.in-Some.ensures.first.2
