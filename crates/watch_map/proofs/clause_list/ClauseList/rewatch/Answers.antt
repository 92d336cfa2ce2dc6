use Rattle.std.proofs.Common.{◌≡◌, Bool, sym, ap, subst, ◌∙◌, map, List, length}
use Rattle.std.specs.Prelude.{if◌then◌else◌}
use Rattle.watch_map.proofs.Words.{AreUnwatchedBelow, AreWatched, BadWatch, ClauseListState, contents, IfErr}
use Rattle.watch_map.proofs.Words.{IsClauseList, IsRewatched, IsTrue, Lit, may_rewatch, OnErr, OnOk, OutOfMemory}
use Rattle.watch_map.proofs.Words.{SameLists, Watches, with_rewatched}
use Rattle.watch_map.proofs.ListLaws.{contents_of, can_rewatch_is, after_rewatch, ok_rewatch, err_rewatch, whole}
use Rattle.watch_map.proofs.UnwatchedLaws.{below_rewatched}
use Rattle.watch_map.proofs.clause_list.ClauseList.rewatch.Goals as goal

pub invariant_of-self : goal.invariant_of-self
invariant_of-self g c =
    let inside = c.self.inside in
    let ws = inside.watches.items in
    let ws' = c.rewatch.new.watches in
    let new = c.rewatch.new.map in
    let learnt : List (List Lit) = map (λ v. v.items) inside.learnt in
    let all = whole inside.watches.len ws' ws inside.watches.ok.0
    (subst (λ rs. length ws' ≡ length rs) c.as_mut_slice.ensures.value c.rewatch.auto.watches) in
    let ok = subst (λ rs. OnOk c.rewatch.result (IsRewatched inside.map rs c.args.id c.args.from c.args.to new ws'))
    c.as_mut_slice.ensures.value c.rewatch.ensures.ok in
    let err = subst (λ rs. OnErr c.rewatch.result (SameLists inside.map new × (ws' ≡ rs)))
    c.as_mut_slice.ensures.value c.rewatch.ensures.err in
    let unwatched = inside.unwatched in
    let after = after_rewatch c.rewatch.result inside.clauses.items learnt ws ws' inside.map new c.args.id c.args.from
    c.args.to c.self.invariant.1 c.self.invariant.0 ok err in
    subst (λ rs. IsClauseList (contents_of inside.clauses.items rs learnt new) ×
    AreWatched new rs × AreUnwatchedBelow rs unwatched.bound unwatched.ids.items) (sym all) (
      after.0,
      after.1,
      below_rewatched unwatched.bound unwatched.ids.items c.rewatch.result inside.map new ws ws' c.args.id c.args.from
          c.args.to ok err c.self.invariant.2,
    )

pub returns-clause-ok : goal.returns-clause-ok
returns-clause-ok g c =
    let inside = c.self.inside in
    let ws = inside.watches.items in
    let ws' = c.rewatch.new.watches in
    let new = c.rewatch.new.map in
    let learnt : List (List Lit) = map (λ v. v.items) inside.learnt in
    let all = whole inside.watches.len ws' ws inside.watches.ok.0
    (subst (λ rs. length ws' ≡ length rs) c.as_mut_slice.ensures.value c.rewatch.auto.watches) in
    let ok = subst (λ rs. OnOk c.rewatch.result (IsRewatched inside.map rs c.args.id c.args.from c.args.to new ws'))
    c.as_mut_slice.ensures.value c.rewatch.ensures.ok in
    let can = subst (λ rs. OnOk c.rewatch.result (IsTrue (may_rewatch rs c.args.id c.args.from c.args.to)))
    c.as_mut_slice.ensures.value c.rewatch.ensures.can in
    subst (λ rs. OnOk c.rewatch.result (contents_of inside.clauses.items rs learnt new ≡
    with_rewatched (contents c.args.self.now) c.args.id c.args.from c.args.to)) (sym all)
    (subst (λ (k : ClauseListState g.row.N.Denot). OnOk c.rewatch.result
    (contents_of inside.clauses.items ws' learnt new ≡ with_rewatched (contents k) c.args.id c.args.from c.args.to))
    c.self.view_is
    (ok_rewatch c.rewatch.result inside.clauses.items learnt ws ws' inside.map new c.args.id c.args.from c.args.to ok
    can))

pub returns-clause-err : goal.returns-clause-err
returns-clause-err g c =
    let inside = c.self.inside in
    let ws = inside.watches.items in
    let ws' = c.rewatch.new.watches in
    let new = c.rewatch.new.map in
    let learnt : List (List Lit) = map (λ v. v.items) inside.learnt in
    let all = whole inside.watches.len ws' ws inside.watches.ok.0
    (subst (λ rs. length ws' ≡ length rs) c.as_mut_slice.ensures.value c.rewatch.auto.watches) in
    let err = subst (λ rs. OnErr c.rewatch.result (SameLists inside.map new × (ws' ≡ rs)))
    c.as_mut_slice.ensures.value c.rewatch.ensures.err in
    subst (λ rs. OnErr c.rewatch.result (contents_of inside.clauses.items rs learnt new ≡ contents c.args.self.now))
    (sym all)
    (subst (λ (k : ClauseListState g.row.N.Denot). OnErr c.rewatch.result
    (contents_of inside.clauses.items ws' learnt new ≡ contents k)) c.self.view_is
    (err_rewatch c.rewatch.result inside.clauses.items learnt ws ws' inside.map new c.self.invariant.1 err))

pub returns-clause-refused : goal.returns-clause-refused
returns-clause-refused g c =
    let can = ap (λ (rs : Watches). may_rewatch rs c.args.id c.args.from c.args.to) c.as_mut_slice.ensures.value
    ∙ ap (λ (k : ClauseListState g.row.N.Denot). may_rewatch k.records c.args.id c.args.from c.args.to) c.self.view_is
    ∙ sym (can_rewatch_is c.args.self.now c.args.id c.args.from c.args.to) in
    subst (λ (b : Bool). IfErr c.rewatch.result (λ e. e ≡ (if b then OutOfMemory else BadWatch))) can
    c.rewatch.ensures.refused

pub returns-clause-can : goal.returns-clause-can
returns-clause-can g c =
    let can = ap (λ (rs : Watches). may_rewatch rs c.args.id c.args.from c.args.to) c.as_mut_slice.ensures.value
    ∙ ap (λ (k : ClauseListState g.row.N.Denot). may_rewatch k.records c.args.id c.args.from c.args.to) c.self.view_is
    ∙ sym (can_rewatch_is c.args.self.now c.args.id c.args.from c.args.to) in
    subst (λ (b : Bool). OnOk c.rewatch.result (IsTrue b)) can c.rewatch.ensures.can
