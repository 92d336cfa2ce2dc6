use Rattle.std.proofs.Common.{◌≡◌, ◌++◌, Some, sym, subst, ◌∙◌}
use Rattle.at_most_once.specs.AtMostOne.{new_clauses}
use Rattle.at_most_once.proofs.BitLemmas.{given_appended}
use Rattle.at_most_once.proofs.tracker.AtMostOnceTracker.append_new.Goals as goal

pub returns-in_ok-reserve-in-Some-clause-ok : goal.returns-in_ok-reserve-in-Some-clause-ok
returns-in_ok-reserve-in-Some-clause-ok g c =
    subst (λ o. c.push_reserved.new.self.items ≡ c.args.clauses.now.items ++ new_clauses c.args.self.now.tracker o
    c.args.variable) (sym c.in-Some.is)
    (subst (λ t. c.push_reserved.new.self.items ≡ c.args.clauses.now.items ++ new_clauses t.tracker
    (Some c.in-Some.helper) c.args.variable) c.self.view_is
    (given_appended (record { variables = c.self.inside.variables.keys; helpers = c.self.inside.helpers.items })
    c.in-Some.helper c.args.variable
    c.args.clauses.now.items c.reserve.new.self.items c.push_helper.new.clauses.items
    c.push_variable.new.clauses.items c.push_reserved.new.self.items
    c.as_slice.result.now c.as_slice-in-Some.result.now c.len-number.result c.len-bits.result c.has_bit.result
    c.in_ok-reserve-in-Some.ensures.items c.as_slice.ensures.keys c.as_slice-in-Some.ensures.value c.has_bit.ensures
    c.len-number.ensures.len (c.len-bits.ensures ∙ c.self.inside.helpers.ok.0)
    c.push_helper.ensures.items c.push_variable.ensures.items c.push_reserved.ensures.items))
