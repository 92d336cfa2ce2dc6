use Rattle.std.proofs.Common.{◌≡◌, ◌-◌, ◌^◌, ◌∙◌, sym, ap, None, rules}
use Rattle.typed_ids.specs.TotalMaps.{kept_within}
use Rattle.decisions.specs.Decisions.{decision_in}
use Rattle.decisions.proofs.decision_map.DecisionMap.reset.Goals as goal

pub put-requires : goal.put-requires
put-requires g c =
    kept_within (2 ^ 31 - 1) c.self.inside.map.items None c.args.variable _ c.self.inside.map.ok.0 (λ undecided.
    let none : c.decision.result ≡ None = c.decision.ensures
    ∙ ap (λ m. decision_in m c.args.variable) (sym c.self.view_is) ∙ undecided in
    let no : ⊥ = search rules in no)

pub returns-then-is_some : goal.returns-then-is_some
returns-then-is_some g c = rw (← c.self.view_is) (rw c.undecided-undecided.ensures at c.put.ensures.put)
