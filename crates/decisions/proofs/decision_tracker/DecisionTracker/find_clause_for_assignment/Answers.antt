use Rattle.std.proofs.Common.{◌≡◌, ◌==◌, Bool, Some, None, rules, option_map, ap, sym, ◌∙◌}
use Rattle.std.specs.List.{find}
use Rattle.std.proofs.lemmas.Iterator.{YieldsList-from_slice}
use Rattle.std.proofs.lemmas.Iterator.Search.{find_from_yields_List}
use borrow.Author.Tests.{tests}
use Rattle.decisions.specs.declared.decision.Decision.{Decision}
use Rattle.decisions.proofs.TrackerLemmas.{clause_of-entries_of}
use Rattle.decisions.proofs.decision_tracker.DecisionTracker.find_clause_for_assignment.Goals as goal

pub returns-in-None : goal.returns-in-None
returns-in-None g c =
    let fields = c.self.inside in
    let test : Decision → Bool = λ d. d.variable == c.args.variable in
    let found = find_from_yields_List test _ _ c.find.result c.find.ensures.ran
    (YieldsList-from_slice c.deref.result.now (cc)) (λ x b q k. search (rules, tests)) in
    let none : find test fields.stack.items ≡ None =
    sym (ap (find test) c.deref.ensures.value) ∙ sym found ∙ ap (option_map (λ d. d.now)) c.in-None.is in
    let clause = clause_of-entries_of fields.map fields.stack.items c.args.variable in
    rw (← c.self.view_is) (sym (clause ∙ ap (option_map (λ d. d.derived_from)) none))

pub returns-in-Some : goal.returns-in-Some
returns-in-Some g c =
    let fields = c.self.inside in
    let test : Decision → Bool = λ d. d.variable == c.args.variable in
    let found = find_from_yields_List test _ _ c.find.result c.find.ensures.ran
    (YieldsList-from_slice c.deref.result.now (cc)) (λ x b q k. search (rules, tests)) in
    let some : find test fields.stack.items ≡ Some c.in-Some.decision.now =
    sym (ap (find test) c.deref.ensures.value) ∙ sym found ∙ ap (option_map (λ d. d.now)) c.in-Some.is in
    let clause = clause_of-entries_of fields.map fields.stack.items c.args.variable in
    rw (← c.self.view_is) (sym (clause ∙ ap (option_map (λ d. d.derived_from)) some))
