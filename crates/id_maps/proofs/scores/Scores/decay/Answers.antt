use Rattle.id_maps.proofs.ScoreLaws.{largest_decayed}
use Rattle.id_maps.proofs.scores.Scores.decay.Goals as goal

pub invariant_of-self : goal.invariant_of-self
invariant_of-self g c =
    largest_decayed (g.N.Scores.IdMap.value_at c.self.inside.map) (g.N.Scores.IdMap.value_at c.update_all.new.self)
    c.self.inside.largest c.scaled-self-inside.result c.self.invariant
    c.args.numerator c.args.denominator c.requires.defined c.update_all.ensures.changed c.scaled-self-inside.ensures
