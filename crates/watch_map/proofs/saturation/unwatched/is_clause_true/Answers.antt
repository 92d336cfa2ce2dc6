use Rattle.std.proofs.Common.{◌≡◌, sym, ap, ◌∙◌, rules, tests}
use Rattle.std.specs.Prelude.{is_some}
use Rattle.watch_map.proofs.Words.{find, is_true, is_true_literal, literals_of, stored_in, values_in}
use Rattle.watch_map.proofs.InputLaws.{literals_there, literals_nowhere}
use Rattle.watch_map.proofs.LiteralLists.{found_any}
use Rattle.watch_map.proofs.saturation.unwatched.is_clause_true.Goals as goal

pub returns-in_default : goal.returns-in_default
returns-in_default g c =
    let input = c.args.input.now in
    sym (ap (is_true (values_in c.args.map.now))
    (literals_nowhere input c.args.id (sym c.clause_at.ensures ∙ c.in_default.is)))

pub returns : goal.returns
returns g c =
    let input = c.args.input.now in
    let now = values_in c.args.map.now in
    let ls = literals_of (stored_in input.learnt.now input.lists.now input.disjunctions.now) c.in-Some.clause in
    let found : c.find_literal-found.result ≡ find (is_true_literal now) ls =
    c.find_literal-found.ensures.tested (is_true_literal now) (λ x b k. search (rules, tests)) in
    c.is_some.ensures ∙ ap is_some found ∙ found_any (is_true_literal now) ls
    ∙ sym (ap (is_true now) (literals_there input c.args.id c.in-Some.clause (sym c.clause_at.ensures ∙ c.in-Some.is)))
