use Rattle.std.proofs.Common.{◌≡◌, ◌∙◌, false, subst, IfSome, rules}
use Rattle.solutions.proofs.Words.{is_true}
use Rattle.solutions.proofs.ClauseStateLemmas.{state_without}
use Rattle.solutions.proofs.clause_state.ClauseState.with.Goals as goal

pub returns-in-Some-false : goal.returns-in-Some-false
returns-in-Some-false g c = λ trail clause value was.
    let no : c.in-Some-false.field-0 ≡ false = search rules in
    state_without trail clause c.args.literal c.args.self
    (λ holds true_ones. subst (λ v. IfSome v (λ yes. is_true holds c.args.literal ≡ yes)) c.in-Some-false.is
    (value holds true_ones) ∙ no) was

pub returns-in-None : goal.returns-in-None
returns-in-None g c = λ trail clause value was. c.with_unknown.ensures trail clause was
