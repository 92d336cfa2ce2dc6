use Rattle.std.proofs.Common.{◌<◌, sym, subst}
use Rattle.index_text.proofs.Cuts.{words_left, fewer_left}
use Rattle.index_text.proofs.set.alternatives.Goals as goal

pub parts-smaller : goal.parts-smaller
parts-smaller c =
    subst (λ rest. words_left c.first_part.result.1 < words_left rest) (sym c.in-Some.is)
    (fewer_left c.first_part.result.1 c.in-Some.words c.first_part.ensures.shorter)
