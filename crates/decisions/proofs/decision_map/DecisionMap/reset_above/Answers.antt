use Rattle.std.proofs.Common.{◌≡◌, ◌<◌, ◌-◌, ◌^◌, ◌∙◌, ℕ, Bool, Option, sym, ap, None, arith, rules}
use Rattle.std.specs.Option.{option_map_or}
use Rattle.typed_ids.specs.TotalMaps.{kept_within}
use Rattle.decisions.specs.Decisions.{decision_in}
use Rattle.decisions.proofs.decision_map.DecisionMap.reset_above.Goals as goal

pub put-requires : goal.put-requires
put-requires g c =
    kept_within (2 ^ 31 - 1) c.self.inside.map.items None c.args.variable _ c.self.inside.map.ok.0 (λ undecided.
    let none : c.decision.result ≡ None = c.decision.ensures
    ∙ ap (λ m. decision_in m c.args.variable) (sym c.self.view_is) ∙ undecided in
    let above : c.args.level < option_map_or (λ d. d.1) c.decision.result 0 = search rules in
    omega (arith, above, ap (λ (d : Option (Bool × ℕ)). option_map_or (λ e. e.1) d 0) none))
