use Rattle.std.proofs.Common.{◌≡◌, not, ◌&&◌, true, sym, ap, ◌∙◌, rules, tests}
use Rattle.std.specs.Prelude.{is_some}
use Rattle.clauses.specs.Walks.{literals_in}
use Rattle.watch_map.proofs.Words.{find, first_not_false, is_false_literal, known_false, Neg, option_or, val, values_in}
use Rattle.watch_map.proofs.Words.{watch_beside}
use Rattle.watch_map.proofs.WatchLemmas.{first_or, met_by_parent}
use Rattle.watch_map.proofs.watched_literals.WatchedLiterals.requires_others.Goals as goal

pub returns-clause-watches : goal.returns-clause-watches
returns-clause-watches g c =
    let now = val c.args.tracker.now.entries in
    let ls = literals_in c.args.others.now in
    let first : c.find-first.result ≡ find (λ l. true) ls =
    c.find-first.ensures.tested (λ l. true) (λ x b k. search (rules, tests)) in
    let other : c.find-other.result ≡ find (λ l. not (is_false_literal (values_in c.map-map.result.now) l)) ls =
    c.find-other.ensures.tested (λ l. not (is_false_literal (values_in c.map-map.result.now) l))
    (λ x b k. search (rules, tests)) in
    let open_now : c.find-other.result ≡ find (λ l. not (is_false_literal now l)) ls =
    other ∙ ap (λ v. find (λ l. not (is_false_literal v l)) ls) c.map-map.ensures.values in
    let chosen : c.or.result ≡ first_not_false now ls = c.or.ensures
    ∙ (ap (λ o. option_or o c.find-first.result) open_now
    ∙ (ap (option_or (find (λ l. not (is_false_literal now l)) ls)) first ∙ sym (first_or now ls))) in
    c.beside-watches.ensures.literals ∙ (ap (λ n. watch_beside n c.or.result) c.negative.ensures
    ∙ ap (watch_beside (Neg c.args.parent)) chosen)

pub returns-clause-conflict : goal.returns-clause-conflict
returns-clause-conflict g c =
    let now = val c.args.tracker.now.entries in
    let ls = literals_in c.args.others.now in
    let first : c.find-first.result ≡ find (λ l. true) ls =
    c.find-first.ensures.tested (λ l. true) (λ x b k. search (rules, tests)) in
    let other : c.find-other.result ≡ find (λ l. not (is_false_literal (values_in c.map-map.result.now) l)) ls =
    c.find-other.ensures.tested (λ l. not (is_false_literal (values_in c.map-map.result.now) l))
    (λ x b k. search (rules, tests)) in
    let open_now : c.find-other.result ≡ find (λ l. not (is_false_literal now l)) ls =
    other ∙ ap (λ v. find (λ l. not (is_false_literal v l)) ls) c.map-map.ensures.values in
    c.conflicts_with_parent-conflict.ensures
    ∙ (ap (λ b. not b && (c.is_some-2.result && not (known_false c.assigned_value-value.result))) (c.is_some.ensures
    ∙ ap is_some open_now)
    ∙ (ap (λ b. not (is_some (find (λ l. not (is_false_literal now l)) ls)) &&
    (b && not (known_false c.assigned_value-value.result))) (c.is_some-2.ensures ∙ ap is_some first)
    ∙ (ap (λ v. not (is_some (find (λ l. not (is_false_literal now l)) ls)) &&
    (is_some (find (λ l. true) ls) && not (known_false v))) c.assigned_value-value.ensures
    ∙ met_by_parent now c.args.parent ls)))
