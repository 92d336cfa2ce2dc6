use Rattle.std.proofs.Common.{◌≡◌, ◌∙◌, ◌||◌, Bool, true, false, List, get_or, sym, ap}
use Rattle.std.proofs.Common.{rules}
use Rattle.std.proofs.lemmas.List.{take_all}
use Rattle.std.proofs.lemmas.List.Folds.{list_any_at, list_any_more}
use Rattle.solutions.proofs.Words.{is_kept, list_all, list_any, VersionSetId}
use Rattle.solutions.specs.Solutions.{has_picked}
use Rattle.solutions.proofs.DecisionLemmas.{some_passes}
use Rattle.solutions.proofs.selection.Selection.has_all_of_some.Invariants.{provided}
use Rattle.solutions.proofs.selection.Selection.has_all_of_some.Goals as goal

pub returns-then-branch-clause-ok : goal.returns-then-branch-clause-ok
returns-then-branch-clause-ok g c =
    let test : List VersionSetId → Bool =
    list_all (has_picked (provided g c.args.self.now.provider.now)
    (is_kept g.D.SolvableId.PartialEq.eq (g.D.SolvableId.Set.IdSet.has c.args.self.now.picked)
    c.args.self.now.left_out)) in
    let lists = c.args.lists.now in
    let i = c.loop-list.list-index in
    let x = c.list-item.result in
    let yes : c.in_ok-has_all.field-0 ≡ true = search rules in
    let passes : test x.items ≡ true = ap test (sym c.deref.ensures.value) ∙ sym c.in_ok-has_all.ensures.ok ∙ yes in
    sym (some_passes (λ l. l.items) test lists
    ∙ list_any_at (λ l. test l.items) lists i x c.loop-list-test.true
    (ap (λ l. test l.items) (sym c.list-item.is) ∙ passes))

pub loop-list-preserved : goal.loop-list-preserved
loop-list-preserved g c =
    let test : List VersionSetId → Bool =
    list_all (has_picked (provided g c.args.self.now.provider.now)
    (is_kept g.D.SolvableId.PartialEq.eq (g.D.SolvableId.Set.IdSet.has c.args.self.now.picked)
    c.args.self.now.left_out)) in
    let lists = c.args.lists.now in
    let i = c.loop-list.list-index in
    let x = c.list-item.result in
    let next = get_or lists i x in
    let no : c.in_ok-has_all.field-0 ≡ false = search rules in
    let fails : test x.items ≡ false = ap test (sym c.deref.ensures.value) ∙ sym c.in_ok-has_all.ensures.ok ∙ no in
    list_any_more (λ l. test l.items) lists i x c.loop-list-test.true
    ∙ ap (λ b. b || test next.items) c.loop-list.invariant
    ∙ ap (λ l. test l.items) (sym c.list-item.is) ∙ fails

pub returns-clause-ok : goal.returns-clause-ok
returns-clause-ok g c =
    let test : List VersionSetId → Bool =
    list_all (has_picked (provided g c.args.self.now.provider.now)
    (is_kept g.D.SolvableId.PartialEq.eq (g.D.SolvableId.Set.IdSet.has c.args.self.now.picked)
    c.args.self.now.left_out)) in
    let lists = c.args.lists.now in
    sym (some_passes (λ l. l.items) test lists
    ∙ ap (list_any (λ l. test l.items)) (sym (take_all c.loop-list.list-index lists c.loop-list-test.false))
    ∙ c.loop-list.invariant)
