use Rattle.std.proofs.Common.{◌≡◌, ◌∙◌, ◌∷◌, [], ◌++◌, ap, get_or, map, rules}
use Rattle.std.proofs.lemmas.List.{take_all}
use Rattle.solutions.proofs.Words.{Requirement, Single, wish_for}
use Rattle.solutions.proofs.EncodingLemmas.{own_default}
use Rattle.solutions.proofs.NewestLemmas.{next_wish}
use Rattle.solutions.proofs.newest.Wisher.wishes.Invariants.{provided}
use Rattle.solutions.proofs.newest.Wisher.wishes.Goals as goal

pub loop-requirement-preserved : goal.loop-requirement-preserved
loop-requirement-preserved g c =
    let wish = wish_for (provided g c.args.self.now.provider.now) c.args.self.now.needed.items in
    let requirements = c.args.requirements.now in
    let i = c.loop-requirement.requirement-index in
    let default : Requirement = Single (record { 0 = 0 }) in
    let pushed : c.push.new.self.items ≡ c.loop-requirement.wishes.items ++ c.in_ok-wish.wish ∷ [] = search rules in
    next_wish requirements i (get_or requirements i default) c.loop-requirement-test.true
    (own_default requirements i default c.loop-requirement-test.true)
    wish c.loop-requirement.wishes.items c.push.new.self.items c.in_ok-wish.wish c.loop-requirement.invariant pushed
    c.in_ok-wish.ensures

pub returns : goal.returns
returns g c =
    c.loop-requirement.invariant ∙ ap
    (map (wish_for (provided g c.args.self.now.provider.now) c.args.self.now.needed.items))
    (take_all c.loop-requirement.requirement-index c.args.requirements.now c.loop-requirement-test.false)
