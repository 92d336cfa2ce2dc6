use Rattle.std.proofs.Common.{length, take, sym, subst, arith}
use Rattle.watch_map.proofs.Words.{AreAllTrue, AreUnwatchedTrue, IsMark, val, Values, values_in, watched_by}
use Rattle.watch_map.specs.Visits.{literals_at}
use Rattle.watch_map.proofs.MarkLaws.{mark_made, mark_unwatched}
use Rattle.watch_map.proofs.RoundLaws.{as_many_decisions}
use Rattle.watch_map.proofs.UnwatchedLaws.{first_are_true, true_up_to}
use Rattle.watch_map.proofs.saturation.marking.mark_at_end.Goals as goal

pub count_before-first-requires : goal.count_before-first-requires
count_before-first-requires g c = c.requires.unwatched.ascending

pub bound_of_true-requires-clause-there : goal.bound_of_true-requires-clause-there
bound_of_true-requires-clause-there g c = c.requires.unwatched.within

pub bound_of_true-requires-clause-ascending : goal.bound_of_true-requires-clause-ascending
bound_of_true-requires-clause-ascending g c = c.requires.unwatched.ascending

pub bound_of_true-requires-clause-first : goal.bound_of_true-requires-clause-first
bound_of_true-requires-clause-first g c =
    let input = c.args.input.now in
    let literals = literals_at input in
    let watched = watched_by c.args.watches.now in
    let ids = input.unwatched.now in
    let es = c.args.trail.now.entries in
    subst (λ (now : Values). AreAllTrue literals (take c.count_before-first.result ids) now) (sym c.map.ensures.values)
    (first_are_true literals watched (length input.clauses.now) ids (val es) c.requires.unwatched
    c.args.from.now.clauses c.count_before-first.result
    (mark_unwatched literals watched es c.args.from.now c.requires.from)
    c.count_before-first.ensures)

pub returns-clause-mark : goal.returns-clause-mark
returns-clause-mark g c =
    let input = c.args.input.now in
    let literals = literals_at input in
    let watched = watched_by c.args.watches.now in
    let es = c.args.trail.now.entries in
    let bound = c.bound_of_true.result in
    let level = c.highest_level.result in
    let many = as_many_decisions c.assignments.result.now es c.assignments.ensures.decisions in
    let below = true_up_to literals watched (length input.clauses.now) input.unwatched.now (values_in c.map.result.now)
    c.requires.unwatched bound c.bound_of_true.ensures.within c.bound_of_true.ensures.below in
    let unwatched = subst (λ (now : Values). AreUnwatchedTrue literals watched bound now) c.map.ensures.values below in
    subst (λ n. IsMark literals watched es (record { place = n; clauses = bound; level = level })) (sym many)
    (mark_made literals watched es bound level c.requires.satisfied unwatched c.highest_level.ensures.highest)

pub returns-clause-behind : goal.returns-clause-behind
returns-clause-behind g c =
    let es = c.args.trail.now.entries in
    let many = as_many_decisions c.assignments.result.now es c.assignments.ensures.decisions in
    let within = c.requires.from.within in
    record { place = omega (arith, many, within); level = c.highest_level.ensures.behind }
