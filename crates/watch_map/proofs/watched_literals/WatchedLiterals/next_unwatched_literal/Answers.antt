use Rattle.std.proofs.Common.{◌≡◌, ◌-◌, not, ◌&&◌, false, Some, None, cond, sym, ap, ◌∙◌, arith, rules, tests}
use Rattle.std.proofs.lemmas.Option.{slice_get_read}
use Rattle.watch_map.proofs.Words.{find, is_false_literal, literals_of, option_map_or, same_literal, slice_get}
use Rattle.watch_map.proofs.Words.{stored_in, values_in}
use Rattle.watch_map.proofs.watched_literals.WatchedLiterals.next_unwatched_literal.Goals as goal

pub returns : goal.returns
returns g c =
    let now = values_in c.args.map.now in
    let ls = literals_of (stored_in c.args.learnt.now c.args.lists.now c.args.disjunctions.now) c.args.clause.now in
    let watches = c.args.self.now.watched_literals in
    let other = c.index-self-index.result in
    let there : slice_get watches (1 - c.args.index) ≡ Some other =
    slice_get_read watches 2 (1 - c.args.index) other (search rules) (omega arith) c.index-self-index.is in
    let found : c.find_literal.result ≡ find (λ l. not (same_literal l other) && not (is_false_literal now l)) ls =
    c.find_literal.ensures.tested (λ l. not (same_literal l other) && not (is_false_literal now l))
    (λ x b k. search (rules, tests)) in
    found
    ∙ (ap (λ o. find (λ l. not (option_map_or (same_literal l) o false) && not (is_false_literal now l)) ls) (sym there)
    ∙ sym (ap (λ b. cond b None
    (find (λ l. not (option_map_or (same_literal l) (slice_get watches (1 - c.args.index)) false) &&
    not (is_false_literal now l)) ls)) (sym c.is_binary.ensures ∙ c.if-is_binary.false)))
