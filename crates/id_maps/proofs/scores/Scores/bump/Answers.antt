use Rattle.std.proofs.Common.{◌≤◌, arith}
use Rattle.id_maps.proofs.ScoreLaws.{largest_raised}
use Rattle.id_maps.proofs.scores.Scores.bump.Goals as goal

pub invariant_of-self : goal.invariant_of-self
invariant_of-self g c =
    let scores = g.N.Scores.IdMap.value_at c.self.inside.map in
    let score = c.saturating_add-score.result in
    let raised : scores c.args.name ≤ score =
    grind (arith, c.saturating_add-score.ensures, c.get.ensures, c.get.type_inv) in
    largest_raised scores (g.N.Scores.IdMap.value_at c.put.new.self) c.self.inside.largest c.max-self-inside.result
    c.self.invariant
    g.N.PartialEq.eq g.met.N.Eq.laws.refl g.met.N.SameValue.same c.args.name score raised c.put.ensures.put
    c.max-self-inside.ensures
