use Rattle.std.proofs.Common.{◌≡◌, not, ◌&&◌, sym, ◌∙◌, rules, tests}
use Rattle.watch_map.proofs.Words.{find, is_false_literal, literals_of, same_literal, stored_in, values_in}
use Rattle.watch_map.proofs.VisitLaws.{find_none, find_true, find_second, find_only}
use Rattle.watch_map.proofs.saturation.unwatched.find_unit.Goals as goal

pub returns-in_default : goal.returns-in_default
returns-in_default g c =
    let now = values_in c.args.map.now in
    let ls = literals_of (stored_in c.args.input.now.learnt.now c.args.input.now.lists.now
    c.args.input.now.disjunctions.now) c.args.clause.now in
    let found : c.find_literal-first.result ≡ find (λ m. not (is_false_literal now m)) ls =
    c.find_literal-first.ensures.tested (λ m. not (is_false_literal now m)) (λ x b k. search (rules, tests)) in
    find_none now ls (sym found ∙ c.in_default.is)

pub returns-then-is_true : goal.returns-then-is_true
returns-then-is_true g c =
    let now = values_in c.args.map.now in
    let ls = literals_of (stored_in c.args.input.now.learnt.now c.args.input.now.lists.now
    c.args.input.now.disjunctions.now) c.args.clause.now in
    let found : c.find_literal-first.result ≡ find (λ m. not (is_false_literal now m)) ls =
    c.find_literal-first.ensures.tested (λ m. not (is_false_literal now m)) (λ x b k. search (rules, tests)) in
    find_true now ls c.in-Some.first (sym found ∙ c.in-Some.is) (sym c.is_true.ensures ∙ c.if-is_true.true)

pub returns-in-Some-second : goal.returns-in-Some-second
returns-in-Some-second g c =
    let now = values_in c.args.map.now in
    let ls = literals_of (stored_in c.args.input.now.learnt.now c.args.input.now.lists.now
    c.args.input.now.disjunctions.now) c.args.clause.now in
    let found : c.find_literal-first.result ≡ find (λ m. not (is_false_literal now m)) ls =
    c.find_literal-first.ensures.tested (λ m. not (is_false_literal now m)) (λ x b k. search (rules, tests)) in
    let second : c.find_literal-second.result ≡ find (λ m. not (same_literal m c.in-Some.first) && not
    (is_false_literal now m)) ls =
    c.find_literal-second.ensures.tested (λ m. not (same_literal m c.in-Some.first) && not (is_false_literal now m))
    (λ x b k. search (rules, tests)) in
    find_second now ls c.in-Some.first (sym found ∙ c.in-Some.is) c.in-Some-second.field-0
    (sym second ∙ c.in-Some-second.is)

pub returns-in-None : goal.returns-in-None
returns-in-None g c =
    let now = values_in c.args.map.now in
    let ls = literals_of (stored_in c.args.input.now.learnt.now c.args.input.now.lists.now
    c.args.input.now.disjunctions.now) c.args.clause.now in
    let found : c.find_literal-first.result ≡ find (λ m. not (is_false_literal now m)) ls =
    c.find_literal-first.ensures.tested (λ m. not (is_false_literal now m)) (λ x b k. search (rules, tests)) in
    let second : c.find_literal-second.result ≡ find (λ m. not (same_literal m c.in-Some.first) && not
    (is_false_literal now m)) ls =
    c.find_literal-second.ensures.tested (λ m. not (same_literal m c.in-Some.first) && not (is_false_literal now m))
    (λ x b k. search (rules, tests)) in
    find_only now ls c.in-Some.first (sym found ∙ c.in-Some.is) (sym second ∙ c.in-None.is)
    (sym c.is_true.ensures ∙ c.if-is_true.false)
