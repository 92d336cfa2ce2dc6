use Rattle.std.proofs.Common.{◌≡◌, ◌++◌, ◌∷◌, Bool, List, [], refl, subst, rules}
use Rattle.corrections.proofs.Words.{Any, IsWithin, Vec}
use Rattle.corrections.proofs.MarkLemmas.{extended_already, extended_last}
use Rattle.corrections.proofs.marks.add_with.Goals as goal

pub returns-then-is_any_within : goal.returns-then-is_any_within
returns-then-is_any_within g c =
    let sets = c.args.sets.now.items in
    extended_already c.args.marks.now c.args.place c.in_ok-more.more.items c.in_ok-more.ensures sets
    (subst (λ (m : List Bool). Any (λ (s : Vec Bool g.row.A.Denot). IsWithin s.items m) sets) c.deref-2.ensures.value
    (subst (λ (l : List (Vec Bool g.row.A.Denot)). Any
    (λ (s : Vec Bool g.row.A.Denot). IsWithin s.items c.deref-2.result.now) l) c.deref.ensures.value
    (c.is_any_within.ensures c.if-is_any_within.true)))

pub returns : goal.returns
returns g c =
    let sets = c.args.sets.now.items in
    let pushed : c.push.new.self.items ≡ sets ++ c.in_ok-more.more ∷ [] = search rules in
    extended_last c.args.marks.now c.args.place c.in_ok-more.more.items c.in_ok-more.ensures sets
    c.push.new.self.items c.in_ok-more.more refl pushed
