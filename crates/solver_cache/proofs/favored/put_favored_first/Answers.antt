use Rattle.std.proofs.Common.{◌∙◌, ap, sym}
use Rattle.solver_cache.proofs.Words.{favored_first}
use Rattle.solver_cache.proofs.FavoredLemmas.{brought_forward}
use Rattle.solver_cache.proofs.favored.put_favored_first.Goals as goal

pub returns-in-Some-place_of : goal.returns-in-Some-place_of
returns-in-Some-place_of g c =
    let list = c.args.solvables.now in
    brought_forward g.S.PartialEq.eq g.met.S.SameValue.same c.in-Some.favored list c.rotate_right.new.self
    c.in-Some-place_of.place
    (sym c.place_of.ensures.place ∙ c.in-Some-place_of.is) c.rotate_right.ensures.after
    ∙ sym (ap (λ favored. favored_first g.S.PartialEq.eq favored list) c.in-Some.is)
