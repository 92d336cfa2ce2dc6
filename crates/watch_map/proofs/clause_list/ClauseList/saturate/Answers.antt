use Rattle.std.proofs.Common.{◌≡◌, ℕ, ◌≤◌, ◌^◌, ◌-◌, [], refl, sym, ap, subst, ◌∙◌, map, List, length}
use Rattle.watch_map.proofs.Words.{AreMarks, AreSettled, AreUnwatched, AreUnwatchedBelow, AreWatched, Clause}
use Rattle.watch_map.proofs.Words.{ClauseListState, contents, HasImplied, IfOk, IsClauseList, IsConflict, IsRearranged}
use Rattle.watch_map.proofs.Words.{Lit, literals_from, literals_in_list, MatchOption, stored_in, val, watched_by}
use Rattle.watch_map.proofs.Words.{Watches, WatchOwn}
use Rattle.watch_map.specs.WatchLists.{literals_in}
use Rattle.watch_map.specs.ClauseList.{watched_by as watches_of}
use Rattle.watch_map.proofs.ListCallerLaws.{watched_at}
use Rattle.watch_map.proofs.ImplicationLaws.{forced_none}
use Rattle.watch_map.proofs.ListLaws.{contents_of, as_many_records, still_list, whole}
use Rattle.watch_map.proofs.UnwatchedLaws.{below_alike, all_of_them}
use Rattle.watch_map.proofs.ListSaturationLaws.{own_here, rearranged_here, marks_here, marks_there}
use Rattle.watch_map.proofs.clause_list.ClauseList.saturate.Goals as goal

pub invariant_of-self-2 : goal.invariant_of-self-2
invariant_of-self-2 g c =
    let inside = c.self.inside in
    let ws = inside.watches.items in
    let ws' = c.saturate.new.watches in
    let new = c.saturate.new.map in
    let learnt : List (List Lit) = map (λ v. v.items) inside.learnt in
    let long = subst (λ rs. length ws' ≡ length rs) c.as_mut_slice.ensures.value c.saturate.auto.watches in
    let all = whole inside.watches.len ws' ws inside.watches.ok.0 long in
    let unwatched = c.catch_up.new.self in
    let as_many = subst (λ rs. (x : ℕ) → length (watched_by ws' x) ≡ length (watched_by rs x))
    c.as_mut_slice.ensures.value c.saturate.ensures.rearranged.as_many in
    let below = subst (λ rs. AreUnwatchedBelow rs unwatched.bound unwatched.ids.items) c.as_slice.ensures.value
    c.catch_up.ensures.are in
    subst (λ rs. IsClauseList (contents_of inside.clauses.items rs learnt new) ×
    AreWatched new rs × AreUnwatchedBelow rs unwatched.bound unwatched.ids.items) (sym all) (
      still_list inside.clauses.items learnt ws ws' inside.map new c.self.invariant.0 long c.saturate.ensures.watched,
      c.saturate.ensures.watched,
      below_alike unwatched.bound unwatched.ids.items ws ws' long as_many below,
    )

pub invariant_of-self : goal.invariant_of-self
invariant_of-self g c = (
  c.self.invariant.0,
  c.self.invariant.1,
  subst (λ rs. AreUnwatchedBelow rs c.catch_up.new.self.bound c.catch_up.new.self.ids.items) c.as_slice.ensures.value
      c.catch_up.ensures.are,
)

pub catch_up-requires : goal.catch_up-requires
catch_up-requires g c =
    let inside = c.self.inside in
    let learnt : List (List Lit) = map (λ v. v.items) inside.learnt in
    let many = as_many_records inside.clauses.items learnt inside.watches.items inside.map c.self.invariant.0 in
    record {
      few = subst (λ (rs : Watches). length rs ≤ 2 ^ 32 - 1) (sym c.as_slice.ensures.value)
          (subst (λ n. n ≤ 2 ^ 32 - 1) many c.self.invariant.0.few);
      are = subst (λ (rs : Watches). AreUnwatchedBelow rs inside.unwatched.bound inside.unwatched.ids.items)
          (sym c.as_slice.ensures.value) c.self.invariant.2;
    }

pub returns-in_err-catch_up-clause-rearranged : goal.returns-in_err-catch_up-clause-rearranged
returns-in_err-catch_up-clause-rearranged g c =
    let literals = literals_in_list (stored_in [] c.args.lists.now c.args.disjunctions.now)
    (contents c.args.self.now) in
    let watched = watches_of (contents c.args.self.now) in
    subst (λ (s : ClauseListState g.row.N.Denot). IsRearranged literals watched (watches_of (contents s)))
    (sym c.self.view_is)
    (record { own = c.requires.own; as_many = λ x. refl })

pub returns-in_err-catch_up-clause-implied : goal.returns-in_err-catch_up-clause-implied
returns-in_err-catch_up-clause-implied g c =
    forced_none (literals_in_list (stored_in [] c.args.lists.now c.args.disjunctions.now) (contents c.args.self.now))
    c.args.level c.args.trail.now

pub returns-in_err-catch_up-clause-marks : goal.returns-in_err-catch_up-clause-marks
returns-in_err-catch_up-clause-marks g c =
    let literals = literals_in_list (stored_in [] c.args.lists.now c.args.disjunctions.now)
    (contents c.args.self.now) in
    subst (λ (s : ClauseListState g.row.N.Denot). AreMarks literals (watches_of (contents s)) c.args.trail.now.entries
    c.args.marks.now) (sym c.self.view_is) c.requires.marks

pub saturate-requires : goal.saturate-requires
saturate-requires g c =
    let inside = c.self.inside in
    let k = stored_in inside.learnt c.args.lists.now c.args.disjunctions.now in
    let own = subst (λ (s : ClauseListState g.row.N.Denot). WatchOwn
    (literals_in_list (stored_in [] c.args.lists.now c.args.disjunctions.now) (contents s))
    (watches_of (contents s))) (sym c.self.view_is) c.requires.own in
    let here = own_here (literals_from k inside.clauses.items) inside.watches.items own in
    let learnt : List (List Lit) = map (λ v. v.items) inside.learnt in
    let many = as_many_records inside.clauses.items learnt inside.watches.items inside.map c.self.invariant.0 in
    let unwatched = c.catch_up.new.self in
    let below = subst (λ (rs : Watches). AreUnwatchedBelow rs unwatched.bound unwatched.ids.items)
    c.as_slice.ensures.value c.catch_up.ensures.are in
    let listed = all_of_them unwatched.bound unwatched.ids.items inside.watches.items
    (length inside.clauses.items) below
    (c.in_ok-catch_up.ensures.ok ∙ ap length c.as_slice.ensures.value) many in
    let entries = c.args.trail.now.entries in
    let marks = subst (λ (s : ClauseListState g.row.N.Denot). AreMarks
    (literals_in_list (stored_in [] c.args.lists.now c.args.disjunctions.now) (contents s))
    (watches_of (contents s)) entries c.args.marks.now) (sym c.self.view_is) c.requires.marks in
    record {
      watched = subst (λ (rs : Watches). AreWatched inside.map rs)
          (sym c.as_mut_slice.ensures.value) c.self.invariant.1;
      own = subst (λ (cs : List (Clause g.row.N.Denot)). WatchOwn (literals_from k cs)
          (watched_by c.as_mut_slice.result.now)) (sym c.as_slice-2.ensures.value)
          (subst (λ (rs : Watches). WatchOwn (literals_from k inside.clauses.items) (watched_by rs))
          (sym c.as_mut_slice.ensures.value) here);
      unwatched = subst (λ (rs : Watches). AreUnwatched (watched_by rs) (length c.as_slice-2.result.now)
          c.as_slice-3.result.now) (sym c.as_mut_slice.ensures.value)
          (subst (λ (cs : List (Clause g.row.N.Denot)). AreUnwatched (watched_by inside.watches.items) (length cs)
          c.as_slice-3.result.now) (sym c.as_slice-2.ensures.value)
          (subst (λ (ids : List ℕ). AreUnwatched (watched_by inside.watches.items) (length inside.clauses.items) ids)
          (sym c.as_slice-3.ensures.value) listed));
      marks = subst (λ (cs : List (Clause g.row.N.Denot)). AreMarks (literals_from k cs)
          (watched_by c.as_mut_slice.result.now) entries c.args.marks.now) (sym c.as_slice-2.ensures.value)
          (subst (λ (rs : Watches). AreMarks (literals_from k inside.clauses.items) (watched_by rs) entries
          c.args.marks.now) (sym c.as_mut_slice.ensures.value)
          (marks_here (literals_from k inside.clauses.items) inside.watches.items entries c.args.marks.now marks));
    }

pub returns-clause-marks : goal.returns-clause-marks
returns-clause-marks g c =
    let inside = c.self.inside in
    let ws = inside.watches.items in
    let ws' = c.saturate.new.watches in
    let k = stored_in inside.learnt c.args.lists.now c.args.disjunctions.now in
    let entries = c.saturate.new.trail.entries in
    let marks = c.saturate.new.marks in
    let all = whole inside.watches.len ws' ws inside.watches.ok.0
    (subst (λ rs. length ws' ≡ length rs) c.as_mut_slice.ensures.value c.saturate.auto.watches) in
    let by_cs = subst (λ (cs : List (Clause g.row.N.Denot)). AreMarks (literals_from k cs) (watched_by ws') entries
    marks) c.as_slice-2.ensures.value c.saturate.ensures.marks in
    let there = marks_there (literals_from k inside.clauses.items) ws' entries marks by_cs in
    subst (λ (rs : Watches). AreMarks (literals_in_list (stored_in [] c.args.lists.now c.args.disjunctions.now)
    (contents c.args.self.now)) (watched_at (map literals_in rs)) entries marks) (sym all)
    (subst (λ (s : ClauseListState g.row.N.Denot). AreMarks (literals_in_list
    (stored_in [] c.args.lists.now c.args.disjunctions.now) (contents s)) (watched_at (map literals_in ws')) entries
    marks) c.self.view_is there)

pub returns-clause-rearranged : goal.returns-clause-rearranged
returns-clause-rearranged g c =
    let inside = c.self.inside in
    let ws = inside.watches.items in
    let ws' = c.saturate.new.watches in
    let k = stored_in inside.learnt c.args.lists.now c.args.disjunctions.now in
    let all = whole inside.watches.len ws' ws inside.watches.ok.0
    (subst (λ rs. length ws' ≡ length rs) c.as_mut_slice.ensures.value c.saturate.auto.watches) in
    let by_ws = subst (λ (rs : Watches). IsRearranged (literals_from k c.as_slice-2.result.now) (watched_by rs)
    (watched_by ws')) c.as_mut_slice.ensures.value c.saturate.ensures.rearranged in
    let by_cs = subst (λ (cs : List (Clause g.row.N.Denot)). IsRearranged (literals_from k cs) (watched_by ws)
    (watched_by ws')) c.as_slice-2.ensures.value by_ws in
    let here = rearranged_here (literals_from k inside.clauses.items) ws ws' by_cs in
    subst (λ (rs : Watches). IsRearranged (literals_in_list (stored_in [] c.args.lists.now c.args.disjunctions.now)
    (contents c.args.self.now)) (watches_of (contents c.args.self.now)) (watched_at (map literals_in rs))) (sym all)
    (subst (λ (s : ClauseListState g.row.N.Denot). IsRearranged (literals_in_list
    (stored_in [] c.args.lists.now c.args.disjunctions.now) (contents s)) (watches_of (contents s))
    (watched_at (map literals_in ws'))) c.self.view_is here)

pub returns-clause-list : goal.returns-clause-list
returns-clause-list g c =
    let inside = c.self.inside in
    let ws = inside.watches.items in
    let ws' = c.saturate.new.watches in
    let new = c.saturate.new.map in
    let learnt : List (List Lit) = map (λ v. v.items) inside.learnt in
    let long = subst (λ rs. length ws' ≡ length rs) c.as_mut_slice.ensures.value c.saturate.auto.watches in
    let all = whole inside.watches.len ws' ws inside.watches.ok.0 long in
    subst (λ rs. IsClauseList (contents_of inside.clauses.items rs learnt new)) (sym all)
    (still_list inside.clauses.items learnt ws ws' inside.map new c.self.invariant.0 long c.saturate.ensures.watched)

pub returns-clause-implied : goal.returns-clause-implied
returns-clause-implied g c =
    let inside = c.self.inside in
    let k = stored_in inside.learnt c.args.lists.now c.args.disjunctions.now in
    subst (λ (s : ClauseListState g.row.N.Denot). HasImplied (literals_in_list
    (stored_in [] c.args.lists.now c.args.disjunctions.now) (contents s)) c.args.level c.args.trail.now
    c.saturate.new.trail) c.self.view_is
    (subst (λ (cs : List (Clause g.row.N.Denot)). HasImplied
    (literals_from k cs) c.args.level c.args.trail.now c.saturate.new.trail) c.as_slice-2.ensures.value
    c.saturate.ensures.implied)

pub returns-clause-ok : goal.returns-clause-ok
returns-clause-ok g c =
    let inside = c.self.inside in
    let k = stored_in inside.learnt c.args.lists.now c.args.disjunctions.now in
    let k0 = stored_in [] c.args.lists.now c.args.disjunctions.now in
    let now = val c.saturate.new.trail.entries in
    subst (λ (s : ClauseListState g.row.N.Denot). IfOk c.saturate.result
    (λ found. MatchOption found (AreSettled (literals_in_list k0 (contents s)) (length (contents s).clauses) now)
    (IsConflict (literals_in_list k0 (contents s)) (length (contents s).clauses) now))) c.self.view_is
    (subst (λ (cs : List (Clause g.row.N.Denot)). IfOk c.saturate.result
    (λ found. MatchOption found (AreSettled (literals_from k cs) (length cs) now)
    (IsConflict (literals_from k cs) (length cs) now))) c.as_slice-2.ensures.value c.saturate.ensures.ok)
