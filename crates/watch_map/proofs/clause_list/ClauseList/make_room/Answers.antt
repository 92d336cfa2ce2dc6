use Rattle.std.proofs.Common.{◌≤◌, ◌+◌, ◌∙◌, List, sym, ap, subst, map, length}
use Rattle.watch_map.proofs.Words.{AreUnwatchedBelow, ClauseListState, contents, KeepsRoom, Lit, vec_capacity}
use Rattle.watch_map.proofs.ListLaws.{as_many_records, room_stays, seen_alike, still_kept, room_is_made}
use Rattle.watch_map.proofs.clause_list.ClauseList.make_room.Goals as goal

pub returns-clause-same : goal.returns-clause-same
returns-clause-same g c =
    let inside = c.self.inside in
    let learnt : List (List Lit) = map (λ v. v.items) inside.learnt in
    seen_alike inside.clauses.items c.reserve.new.self.items inside.watches.items c.reserve-2.new.self.items learnt
    inside.map
    c.make_room.new.map c.self.invariant.1 c.reserve.ensures.items c.reserve-2.ensures.items c.make_room.ensures.lists
    ∙ ap contents c.self.view_is

pub returns-clause-room : goal.returns-clause-room
returns-clause-room g c =
    let inside = c.self.inside in
    let learnt : List (List Lit) = map (λ v. v.items) inside.learnt in
    let new : ClauseListState g.row.N.Denot = record {
      clauses = c.reserve.new.self.items;
      records = c.reserve-2.new.self.items;
      learnt = learnt;
      lists = c.make_room.new.map;
      clause_room = vec_capacity c.reserve.new.self;
      record_room = vec_capacity c.reserve-2.new.self;
    } in
    let as_many = ap length c.reserve-2.ensures.items
    ∙ sym (as_many_records inside.clauses.items learnt inside.watches.items inside.map c.self.invariant.0)
    ∙ sym (ap length c.reserve.ensures.items) in
    let clauses = subst (λ n. n + 1 ≤ vec_capacity c.reserve.new.self) c.reserve.new.self.ok.0
    c.in_ok-reserve.ensures.ok in
    let records = subst (λ n. n + 1 ≤ vec_capacity c.reserve-2.new.self) c.reserve-2.new.self.ok.0
    c.in_ok-reserve-2.ensures.ok in
    room_is_made c.make_room.result c.args.self.now new _ (sym c.is_full.ensures ∙ c.if-is_full.false)
    (c.reserve.ensures.items ∙ ap (λ (k : ClauseListState g.row.N.Denot). k.clauses) c.self.view_is) as_many clauses
    records
    c.make_room.ensures.room

pub returns-clause-keeps : goal.returns-clause-keeps
returns-clause-keeps g c =
    room_stays _ _ (c.reserve.ensures.items ∙ ap (λ (k : ClauseListState g.row.N.Denot). k.clauses) c.self.view_is)
    (subst (λ (k : ClauseListState g.row.N.Denot). k.clause_room ≤ vec_capacity c.reserve.new.self) c.self.view_is
    c.reserve.ensures.capacity)
    (subst (λ (k : ClauseListState g.row.N.Denot). k.record_room ≤ vec_capacity c.reserve-2.new.self) c.self.view_is
    c.reserve-2.ensures.capacity)
    (subst (λ (k : ClauseListState g.row.N.Denot). KeepsRoom k.lists c.make_room.new.map) c.self.view_is
    c.make_room.ensures.rooms)

pub invariant_of-self-2 : goal.invariant_of-self-2
invariant_of-self-2 g c =
    let inside = c.self.inside in
    let learnt : List (List Lit) = map (λ v. v.items) inside.learnt in
    let kept = still_kept inside.clauses.items c.reserve.new.self.items learnt inside.watches.items
    c.reserve-2.new.self.items
    inside.map c.make_room.new.map c.self.invariant.0 c.self.invariant.1 c.reserve.ensures.items
    c.reserve-2.ensures.items
    c.make_room.ensures.lists in (
      kept.0,
      kept.1,
      subst (λ rs. AreUnwatchedBelow rs inside.unwatched.bound inside.unwatched.ids.items)
          (sym c.reserve-2.ensures.items)
          c.self.invariant.2,
    )

pub returns-in_err-reserve-2-clause-keeps : goal.returns-in_err-reserve-2-clause-keeps
returns-in_err-reserve-2-clause-keeps g c =
    room_stays _ _ (c.reserve.ensures.items ∙ ap (λ (k : ClauseListState g.row.N.Denot). k.clauses) c.self.view_is)
    (subst (λ (k : ClauseListState g.row.N.Denot). k.clause_room ≤ vec_capacity c.reserve.new.self) c.self.view_is
    c.reserve.ensures.capacity)
    (subst (λ (k : ClauseListState g.row.N.Denot). k.record_room ≤ vec_capacity c.reserve-2.new.self) c.self.view_is
    c.reserve-2.ensures.capacity)
    (subst (λ (k : ClauseListState g.row.N.Denot). KeepsRoom k.lists c.self.inside.map) c.self.view_is
    (λ l n room. room))
