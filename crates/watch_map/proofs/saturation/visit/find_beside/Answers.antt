use Rattle.std.proofs.Common.{sym, rules, tests}
use Rattle.watch_map.proofs.Words.{literals_of, may_watch, stored_in, values_in}
use Rattle.watch_map.proofs.VisitLaws.{none_left}
use Rattle.watch_map.proofs.saturation.visit.find_beside.Goals as goal

pub returns-then-has_two_literals : goal.returns-then-has_two_literals
returns-then-has_two_literals g c =
    let input = c.args.input.now in
    let literals = literals_of (stored_in input.learnt.now input.lists.now input.disjunctions.now) c.args.clause.now in
    sym (none_left (values_in c.args.map.now) literals c.args.falsified c.args.other
    (c.has_two_literals.ensures c.if-has_two_literals.true) c.requires)

pub returns : goal.returns
returns g c =
    c.find_literal.ensures.tested (may_watch (values_in c.args.map.now) c.args.falsified c.args.other)
    (λ x b k. search (rules, tests))
