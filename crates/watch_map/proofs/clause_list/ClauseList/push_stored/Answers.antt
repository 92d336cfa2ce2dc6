use Rattle.std.proofs.lemmas.Grind.{common_steps}
use Rattle.std.proofs.Common.{◌≡◌, ◌+◌, ◌∙◌, sym, ap, subst, map, List, ◌++◌, ◌∷◌, [], length, length-append, arith}
use Rattle.watch_map.proofs.Words.{AreUnwatchedBelow, AreWatched, ClauseListState, contents, HasRoomFor, IsClauseList}
use Rattle.watch_map.proofs.Words.{Lit, literals_watched, StartsAtEnd, with_clause}
use Rattle.watch_map.specs.WatchLists.{literals_in}
use Rattle.watch_map.proofs.ListLaws.{contents_of, as_many_records, more_list, pushed_contents, room_after}
use Rattle.watch_map.proofs.UnwatchedLaws.{below_longer}
use Rattle.watch_map.proofs.clause_list.ClauseList.push_stored.Goals as goal

pub invariant_of-self : goal.invariant_of-self
invariant_of-self g c =
    let inside = c.self.inside in
    let ws = inside.watches.items in
    let learnt : List (List Lit) = map (λ v. v.items) inside.learnt in
    let new = c.started-watches.new.map in
    let made = c.started-watches.result in
    let e = as_many_records inside.clauses.items learnt ws inside.map c.self.invariant.0 in
    let unwatched = inside.unwatched in
    let watched = (c.started-watches.ensures.starts ws c.self.invariant.1 (c.from_index-id.ensures ∙ c.len.ensures
    ∙ inside.clauses.ok.0 ∙ e)).0 in
    subst (λ cs. IsClauseList (contents_of cs c.push_reserved-2.new.self.items learnt new) ×
    AreWatched new c.push_reserved-2.new.self.items ×
    AreUnwatchedBelow c.push_reserved-2.new.self.items unwatched.bound unwatched.ids.items)
    (sym c.push_reserved.ensures.items)
    (subst (λ rs. IsClauseList (contents_of (inside.clauses.items ++ c.args.clause ∷ []) rs learnt new) ×
    AreWatched new rs × AreUnwatchedBelow rs unwatched.bound unwatched.ids.items)
    (sym c.push_reserved-2.ensures.items) (
      more_list inside.clauses.items learnt ws inside.map new c.args.clause made c.self.invariant.0
          (rw (← c.self.view_is) at c.requires.room.id) watched,
      watched,
      below_longer unwatched.bound unwatched.ids.items ws made c.self.invariant.2,
    ))

pub returns-clause-added : goal.returns-clause-added
returns-clause-added g c =
    let inside = c.self.inside in
    let ws = inside.watches.items in
    let learnt : List (List Lit) = map (λ v. v.items) inside.learnt in
    let new = c.started-watches.new.map in
    let made = c.started-watches.result in
    let e = as_many_records inside.clauses.items learnt ws inside.map c.self.invariant.0 in
    let id = c.from_index-id.ensures ∙ c.len.ensures ∙ inside.clauses.ok.0 in
    let starts = subst (λ i. StartsAtEnd inside.map made i new) id c.started-watches.ensures.starts in
    subst (λ cs. contents_of cs c.push_reserved-2.new.self.items learnt new ≡ with_clause
    (contents c.args.self.now) c.args.clause (literals_watched c.args.watches)) (sym c.push_reserved.ensures.items)
    (subst (λ rs. contents_of (inside.clauses.items ++ c.args.clause ∷ []) rs learnt new ≡
    with_clause (contents c.args.self.now) c.args.clause (literals_watched c.args.watches))
    (sym c.push_reserved-2.ensures.items)
    (subst (λ (k : ClauseListState g.row.N.Denot). contents_of (inside.clauses.items ++ c.args.clause ∷ [])
    (ws ++ made ∷ []) learnt new ≡ with_clause (contents k) c.args.clause
    (literals_watched c.args.watches)) c.self.view_is
    (pushed_contents inside.clauses.items ws learnt inside.map new c.args.clause c.args.watches made c.self.invariant.1
    e c.started-watches.ensures.same starts)))

pub returns-clause-rooms : goal.returns-clause-rooms
returns-clause-rooms g c count bits room =
    room_after count bits _ _ (literals_in c.args.watches)
    (ap length c.push_reserved.ensures.items ∙ length-append c.self.inside.clauses.items (c.args.clause ∷ []))
    c.push_reserved.ensures.capacity c.push_reserved-2.ensures.capacity c.started-watches.ensures.rooms
    (subst (HasRoomFor (count + 1) bits) (sym c.self.view_is) room)

pub started-watches-requires-clause-room : goal.started-watches-requires-clause-room
started-watches-requires-clause-room g c = grind (arith, common_steps)

pub push_reserved-requires-2 : goal.push_reserved-requires-2
push_reserved-requires-2 g c = grind (arith, common_steps)
