use Rattle.std.proofs.Common.{◌≡◌, ◌∙◌, ◌<◌, ◌&&◌, Bool, true, ap, length, ltb-true, refl, sym}
use Rattle.std.proofs.lemmas.Option.{slice_get_read}
use Rattle.solutions.proofs.Words.{Alternative, list_any}
use Rattle.solutions.proofs.NeededLemmas.{has_picked, wished_at}
use Rattle.solutions.proofs.needed.is_wished_at.Goals as goal

pub returns-in-Some : goal.returns-in-Some
returns-in-Some g c =
    let eq = g.S.PartialEq.eq in
    let wishes = c.args.wishes.now in
    let wish = c.in-Some.wish.now in
    let below : c.args.place < length wishes = ltb-true c.args.place (length wishes) (sym c.in-Some.ensures.lookup.0) in
    let test : Alternative g.row.S.Denot → Bool = λ a. a.is_picked && eq a.solvable c.args.solvable in
    λ e. wished_at wishes c.args.solvable c.args.place wish
    (slice_get_read wishes (length wishes) c.args.place wish refl below c.in-Some.ensures.lookup.1)
    (has_picked eq g.met.S.SameValue.same wish.alternatives.items c.args.solvable
    (ap (list_any test) (sym c.deref.ensures.value) ∙ sym c.has_picked.ensures ∙ e))
