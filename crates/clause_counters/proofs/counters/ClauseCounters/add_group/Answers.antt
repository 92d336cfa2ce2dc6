use Rattle.std.proofs.Common.{◌≡◌, ℕ, List, ◌+◌, ◌≤◌, Bool, cond, eqb, ◌++◌, ◌∷◌, [], length, refl, sym, ap, subst}
use Rattle.std.proofs.Common.{◌∙◌, ◌&&◌}
use Rattle.clause_counters.proofs.Words.{AreFlagged, count, counters_in, fit_three, Group, numbers_at, once, Represents}
use Rattle.clause_counters.proofs.Words.{Standing, standing_at, with_group}
use Rattle.clause_counters.proofs.PoolLaws.{moved}
use Rattle.clause_counters.proofs.AddedLaws.{shows_group, groups_shown}
use Rattle.clause_counters.proofs.counters.ClauseCounters.add_group.Goals as goal

pub returns-clause-ok : goal.returns-clause-ok
returns-clause-ok g c s represents says =
    let f = c.self.inside in
    let ps = f.places.items in
    let ls = f.literals.items in
    let ms = f.members.items in
    let gs = f.groups.items in
    let firsts = f.falsified.firsts in
    let room = f.falsified.has_room && fit_three (length ms) f.members.cap in
    let rp = c.reserve.new.self.items in
    let pl = c.pad.new.literals.items in
    let placed = c.place_literals-left in
    let list = c.args.literals.now in
    let n = c.len-group.result in
    let is : n ≡ length gs = c.len-group.ensures ∙ f.groups.ok.0 in
    let shows : Represents (counters_in ps ls ms gs firsts room) s =
    subst (λ v. Represents v s) (sym c.self.view_is) represents in
    let lists : (i h : ℕ) → count h (numbers_at placed.new.places.items
    (standing_at placed.new.literals.items i).groups)
    ≡ count h (numbers_at ps (standing_at ls i).groups) + cond (eqb n h) (once i list) 0 =
    λ i h. placed.ensures.lists i h ∙ ap (λ m. m + cond (eqb n h) (once i list) 0)
    (moved (λ x (y : Standing). count h (numbers_at x y.groups) ≡ count h (numbers_at ps (standing_at ls i).groups))
    ps rp
    (standing_at ls i) (standing_at pl i)
    c.in_ok-reserve.ensures.items (c.in_ok-pad.ensures.same i) refl) in
    let flagged : (is_false : ℕ → Bool) → AreFlagged ps ls is_false → AreFlagged rp pl is_false =
    λ is_false before l h some. ap (λ (x : Standing). x.is_false) (c.in_ok-pad.ensures.same l)
    ∙ before l h (moved (λ x (y : Standing). 1 ≤ count h (numbers_at x y.groups)) rp ps (standing_at pl l)
    (standing_at ls l)
    (sym c.in_ok-reserve.ensures.items) (sym (c.in_ok-pad.ensures.same l)) some) in
    let pushed = c.push_reserved.ensures.items
    ∙ ap (λ (xs : List Group). xs ++ (record { left = placed.result; clauses = 0 }) ∷ [])
    c.in_ok-reserve-2.ensures.items in (
      is ∙ groups_shown ps ls ms gs firsts room s shows,
      subst (λ items. Represents (counters_in placed.new.places.items placed.new.literals.items ms items firsts room)
          (with_group list s)) (sym pushed)
          (shows_group ps placed.new.places.items ls placed.new.literals.items ms gs firsts room s list n
          placed.result is shows lists
          (λ is_false before agrees. placed.ensures.flags is_false (flagged is_false before) (λ k d l. agrees k d l
          ∙ says k d l))),
    )
