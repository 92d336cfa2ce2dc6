use Rattle.std.proofs.Common.{◌∷◌, ◌++◌, [], inr, sym, ap, subst, ◌∙◌}
use Rattle.resolvo_queue.proofs.Words.{NameEntry, StandsUnder}
use Rattle.resolvo_queue.proofs.Clauses.ByName.{behind_more, have_more, stands_new, stands_still}
use Rattle.resolvo_queue.proofs.clauses_by_name.ClausesByName.put.Goals as goal

pub invariant_of-self-2 : goal.invariant_of-self-2
invariant_of-self-2 g c =
    let inside = c.self.inside in
    let value_at = g.N.Slots.IdMap.value_at in
    let new : NameEntry = record { number = c.args.number; earlier = c.newest-earlier.result } in
    let more = c.push_reserved.ensures.items ∙ ap (λ l. l ++ new ∷ []) c.in_ok-reserve.ensures.items in
    let last = c.len-place.ensures ∙ inside.entries.ok.0 in
    let leads = c.newest-earlier.ensures.place ∙ ap (λ b. value_at b.newest c.args.name) (sym c.self.view_is) in (
      have_more g.N.PartialEq.eq g.met.N.Eq.laws.refl g.met.N.SameValue.same c.args.name (value_at inside.newest)
          (value_at c.set.new.self) c.len-place.result (c.in-Ok.ensures.ok.0 ∙ c.new.ensures, c.in-Ok.ensures.ok.1)
          inside.entries.items c.push_reserved.new.self.items new more last c.self.invariant.0,
      behind_more g.N.PartialEq.eq g.met.N.Eq.laws.refl g.met.N.SameValue.same c.args.name (value_at inside.newest)
          (value_at c.set.new.self) c.len-place.result (c.in-Ok.ensures.ok.0 ∙ c.new.ensures, c.in-Ok.ensures.ok.1)
          inside.entries.items c.push_reserved.new.self.items new more last leads c.self.invariant.0
          c.self.invariant.1,
    )

pub returns-clause-kept : goal.returns-clause-kept
returns-clause-kept g c =
    let inside = c.self.inside in
    let value_at = g.N.Slots.IdMap.value_at in
    let new : NameEntry = record { number = c.args.number; earlier = c.newest-earlier.result } in
    let more = c.push_reserved.ensures.items ∙ ap (λ l. l ++ new ∷ []) c.in_ok-reserve.ensures.items in
    let last = c.len-place.ensures ∙ inside.entries.ok.0 in
    let leads = c.newest-earlier.ensures.place ∙ ap (λ b. value_at b.newest c.args.name) (sym c.self.view_is) in
    λ other n s. stands_still g.N.PartialEq.eq g.met.N.Eq.laws.refl g.met.N.SameValue.same c.args.name
    (value_at inside.newest) (value_at c.set.new.self) c.len-place.result
    (c.in-Ok.ensures.ok.0 ∙ c.new.ensures, c.in-Ok.ensures.ok.1)
    inside.entries.items c.push_reserved.new.self.items new more last leads other n
    (subst (λ b. StandsUnder value_at b other n) (sym c.self.view_is) s)

pub returns-clause-entered : goal.returns-clause-entered
returns-clause-entered g c =
    let inside = c.self.inside in
    let value_at = g.N.Slots.IdMap.value_at in
    let new : NameEntry = record { number = c.args.number; earlier = c.newest-earlier.result } in
    let more = c.push_reserved.ensures.items ∙ ap (λ l. l ++ new ∷ []) c.in_ok-reserve.ensures.items in
    inr (stands_new g.N.PartialEq.eq g.met.N.Eq.laws.refl g.met.N.SameValue.same c.args.name (value_at inside.newest)
    (value_at c.set.new.self) c.len-place.result (c.in-Ok.ensures.ok.0 ∙ c.new.ensures, c.in-Ok.ensures.ok.1)
    inside.entries.items c.push_reserved.new.self.items new more (c.len-place.ensures ∙ inside.entries.ok.0))
