use Rattle.std.proofs.Common.{rules, ◌≡◌, true, false, ◌∷◌, [], refl, sym, ap, subst, ◌∙◌}
use Rattle.watch_map.proofs.Words.{find, ImpliesOther, is_false, is_false_literal, is_literal_in, is_true_literal}
use Rattle.watch_map.proofs.Words.{IsWatching, known_false, known_true, literals_of, may_watch, MayWatch, stored_in}
use Rattle.watch_map.proofs.Words.{values_in, watched_by}
use Rattle.watch_map.specs.WatchLists.{literals_in}
use Rattle.watch_map.specs.Visits.{literals_at}
use Rattle.watch_map.proofs.LiteralLists.{read_in}
use Rattle.watch_map.proofs.InputLaws.{literals_there, literals_nowhere}
use Rattle.watch_map.proofs.ValueLaws.{compared, false_if_not_true, none_not_false}
use Rattle.watch_map.proofs.VisitLaws.{pair_read, look_met, look_watching, look_moves, look_forces}
use Rattle.watch_map.proofs.VisitLaws.{look_conflicts}
use Rattle.watch_map.proofs.saturation.visit.inspect.Goals as goal

pub returns-then-eq : goal.returns-then-eq
returns-then-eq g c =
    let l = c.args.falsified in
    let id = c.args.node.now.clause_id in
    let i = c.args.node.now.watch_index in
    let now = values_in c.args.map.now in
    let literals = literals_at c.args.input.now id in
    let watched = watched_by c.args.watches.now id in
    let ws = c.record_at-watched.result.now.watched_literals in
    let other = c.index-watched-index.result in
    let pair = pair_read literals watched ws i i l other
    (ap literals_in c.record_at-watched.ensures) refl
    c.requires.own c.requires.node.within
    c.requires.node.watch (search rules) c.index-watched-index.is in
    look_met now watched l other pair
    (subst (λ x. is_true_literal now x ≡ true) (sym c.index-watched-index.is)
    (ap known_true (sym c.eval-value.ensures) ∙ compared c.eval-value.result ∙ sym c.eq.ensures ∙ c.if-eq.true))

pub unreachable-requires : goal.unreachable-requires
unreachable-requires g c =
    let l = c.args.falsified in
    let id = c.args.node.now.clause_id in
    let i = c.args.node.now.watch_index in
    let input = c.args.input.now in
    let watched = watched_by c.args.watches.now id in
    let here = read_in watched i l c.requires.node.within c.requires.node.watch in
    let gone = literals_nowhere input id
    (sym c.clause_at.ensures ∙ c.in_default.is) in
    let z : false ≡ true = subst (λ ls. is_literal_in l ls ≡ true) gone
    (c.requires.own.own l here) in
    cc

pub find_beside-next-requires : goal.find_beside-next-requires
find_beside-next-requires g c =
    let l = c.args.falsified in
    let id = c.args.node.now.clause_id in
    let i = c.args.node.now.watch_index in
    let input = c.args.input.now in
    let k = stored_in input.learnt.now input.lists.now input.disjunctions.now in
    let now = values_in c.args.map.now in
    let literals = literals_of k c.in-Some.clause in
    let watched = watched_by c.args.watches.now id in
    let ws = c.record_at-watched.result.now.watched_literals in
    let other = c.index-watched-index.result in
    let there = literals_there input id c.in-Some.clause
    (sym c.clause_at.ensures ∙ c.in-Some.is) in
    let pair = pair_read (literals_at input id) watched ws i i l other
    (ap literals_in c.record_at-watched.ensures) refl c.requires.own c.requires.node.within c.requires.node.watch
    (search rules) c.index-watched-index.is in
    let own = subst (λ ls. IsWatching ls watched) there c.requires.own in
    subst (λ x. IsWatching literals (l ∷ x ∷ [])) c.index-watched-index.is
    (look_watching now literals watched l other pair own c.requires.is_false)

pub returns-in-Some-next : goal.returns-in-Some-next
returns-in-Some-next g c =
    let l = c.args.falsified in
    let id = c.args.node.now.clause_id in
    let i = c.args.node.now.watch_index in
    let input = c.args.input.now in
    let k = stored_in input.learnt.now input.lists.now input.disjunctions.now in
    let now = values_in c.args.map.now in
    let literals = literals_of k c.in-Some.clause in
    let watched = watched_by c.args.watches.now id in
    let ws = c.record_at-watched.result.now.watched_literals in
    let other = c.index-watched-index.result in
    let there = literals_there input id c.in-Some.clause
    (sym c.clause_at.ensures ∙ c.in-Some.is) in
    let pair = pair_read (literals_at input id) watched ws i i l other
    (ap literals_in c.record_at-watched.ensures) refl c.requires.own c.requires.node.within c.requires.node.watch
    (search rules) c.index-watched-index.is in
    let own = subst (λ ls. IsWatching ls watched) there c.requires.own in
    let next = ap (λ x. find (may_watch now l x) literals) c.index-watched-index.is
    ∙ sym c.find_beside-next.ensures ∙ c.in-Some-next.is in
    subst (λ ls. MayWatch now ls watched c.in-Some-next.next) (sym there)
    (look_moves now literals watched l other pair own c.requires.is_false c.in-Some-next.next
    next)

pub returns-in-None : goal.returns-in-None
returns-in-None g c =
    let l = c.args.falsified in
    let id = c.args.node.now.clause_id in
    let i = c.args.node.now.watch_index in
    let input = c.args.input.now in
    let k = stored_in input.learnt.now input.lists.now input.disjunctions.now in
    let now = values_in c.args.map.now in
    let literals = literals_of k c.in-Some.clause in
    let watched = watched_by c.args.watches.now id in
    let ws = c.record_at-watched.result.now.watched_literals in
    let other = c.index-watched-index.result in
    let there = literals_there input id c.in-Some.clause
    (sym c.clause_at.ensures ∙ c.in-Some.is) in
    let pair = pair_read (literals_at input id) watched ws i i l other
    (ap literals_in c.record_at-watched.ensures) refl c.requires.own c.requires.node.within c.requires.node.watch
    (search rules) c.index-watched-index.is in
    let own = subst (λ ls. IsWatching ls watched) there c.requires.own in
    let next = ap (λ x. find (may_watch now l x) literals) c.index-watched-index.is
    ∙ sym c.find_beside-next.ensures ∙ c.in-None.is in
    subst (λ ls. is_false now ls ≡ true) (sym there)
    (look_conflicts now literals watched l other pair own c.requires.is_false next
    (subst (λ x. is_false_literal now x ≡ true) (sym c.index-watched-index.is)
    (ap known_false (sym c.eval-value.ensures)
    ∙ false_if_not_true c.eval-value.result (compared c.eval-value.result ∙ sym c.eq.ensures ∙ c.if-eq.false)
    (sym c.is_some.ensures ∙ c.if-is_some.true))))

pub returns-in-None-2 : goal.returns-in-None-2
returns-in-None-2 g c =
    let l = c.args.falsified in
    let id = c.args.node.now.clause_id in
    let i = c.args.node.now.watch_index in
    let input = c.args.input.now in
    let k = stored_in input.learnt.now input.lists.now input.disjunctions.now in
    let now = values_in c.args.map.now in
    let literals = literals_of k c.in-Some.clause in
    let watched = watched_by c.args.watches.now id in
    let ws = c.record_at-watched.result.now.watched_literals in
    let other = c.index-watched-index.result in
    let there = literals_there input id c.in-Some.clause
    (sym c.clause_at.ensures ∙ c.in-Some.is) in
    let pair = pair_read (literals_at input id) watched ws i i l other
    (ap literals_in c.record_at-watched.ensures) refl c.requires.own c.requires.node.within c.requires.node.watch
    (search rules) c.index-watched-index.is in
    let own = subst (λ ls. IsWatching ls watched) there c.requires.own in
    let next = ap (λ x. find (may_watch now l x) literals) c.index-watched-index.is
    ∙ sym c.find_beside-next.ensures ∙ c.in-None-2.is in
    subst (λ x. ImpliesOther now (literals_at input id) watched l x) c.index-watched-index.is
    (subst (λ ls. ImpliesOther now ls watched l other) (sym there)
    (look_forces now literals watched l other pair own c.requires.is_false next
    (subst (λ x. is_true_literal now x ≡ false) (sym c.index-watched-index.is)
    (ap known_true (sym c.eval-value.ensures) ∙ compared c.eval-value.result ∙ sym c.eq.ensures ∙ c.if-eq.false))
    (subst (λ x. is_false_literal now x ≡ false) (sym c.index-watched-index.is)
    (ap known_false (sym c.eval-value.ensures)
    ∙ none_not_false c.eval-value.result (sym c.is_some.ensures ∙ c.if-is_some.false)))))
