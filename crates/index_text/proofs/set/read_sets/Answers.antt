use Rattle.std.proofs.Common.{◌<◌, sym, subst}
use Rattle.index_text.proofs.Cuts.{words_left, fewer_left}
use Rattle.index_text.proofs.set.read_sets.Goals as goal

pub parts-smaller : goal.parts-smaller
parts-smaller c =
    subst (λ rest. words_left c.first_part-in-Some-rest.result.1 < words_left rest) (sym c.in-Some-rest.is)
    (fewer_left c.first_part-in-Some-rest.result.1 c.in-Some-rest.words c.first_part-in-Some-rest.ensures.shorter)
