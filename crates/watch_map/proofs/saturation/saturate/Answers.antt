use Rattle.std.proofs.Common.{◌≤◌, length, drop, sym, subst, ◌∙◌, arith}
use Rattle.watch_map.proofs.Words.{AreSettled, AreWatchesSatisfied, IsConflict, IsMark, level_of, Mark, val, watched_by}
use Rattle.watch_map.specs.Visits.{literals_at}
use Rattle.watch_map.specs.Marks.{IsBehind}
use Rattle.watch_map.proofs.ImplicationLaws.{forced_longer, added_levels}
use Rattle.watch_map.proofs.MarkLaws.{newest_is_mark, mark_saturated, marks_saturated, marks_remembered}
use Rattle.watch_map.proofs.RoundLaws.{none_case, some_case, as_many_decisions}
use Rattle.watch_map.proofs.UnwatchedLaws.{unwatched_alike}
use Rattle.watch_map.proofs.saturation.saturate.Goals as goal

pub saturate_from-requires-clause-from : goal.saturate_from-requires-clause-from
saturate_from-requires-clause-from g c =
    subst (IsMark (literals_at c.args.input.now) (watched_by c.args.watches.now) c.args.trail.now.entries)
    (sym c.newest-from.ensures)
    (newest_is_mark (literals_at c.args.input.now) (watched_by c.args.watches.now) c.args.trail.now.entries
    c.args.marks.now c.requires.marks)

pub returns-in_err-conflict-clause-marks : goal.returns-in_err-conflict-clause-marks
returns-in_err-conflict-clause-marks g c =
    let call = c.saturate_from in
    marks_saturated (literals_at c.args.input.now) (watched_by c.args.watches.now) (watched_by call.new.watches)
    c.args.input.now.level c.args.trail.now call.new.trail call.ensures.implied call.ensures.kept
    call.ensures.rearranged.as_many c.args.marks.now c.requires.marks

pub returns-then-is_some-clause-marks : goal.returns-then-is_some-clause-marks
returns-then-is_some-clause-marks g c =
    let call = c.saturate_from in
    marks_saturated (literals_at c.args.input.now) (watched_by c.args.watches.now) (watched_by call.new.watches)
    c.args.input.now.level c.args.trail.now call.new.trail call.ensures.implied call.ensures.kept
    call.ensures.rearranged.as_many c.args.marks.now c.requires.marks

pub returns-then-is_some-clause-ok : goal.returns-then-is_some-clause-ok
returns-then-is_some-clause-ok g c =
    let literals = literals_at c.args.input.now in
    let clauses = length c.args.input.now.clauses.now in
    let call = c.saturate_from in
    let now = val call.new.trail.entries in
    some_case (AreSettled literals clauses now × AreWatchesSatisfied now now (watched_by call.new.watches))
    (AreSettled literals clauses now) (IsConflict literals clauses now) c.in_ok-conflict.conflict
    c.in_ok-conflict.ensures.ok (sym c.is_some.ensures ∙ c.if-is_some.true)

pub mark_at_end-requires-clause-from : goal.mark_at_end-requires-clause-from
mark_at_end-requires-clause-from g c =
    let literals = literals_at c.args.input.now in
    let watched = watched_by c.args.watches.now in
    let call = c.saturate_from in
    let from = subst (IsMark literals watched c.args.trail.now.entries) (sym c.newest-from.ensures)
    (newest_is_mark literals watched c.args.trail.now.entries c.args.marks.now c.requires.marks) in
    mark_saturated literals watched (watched_by call.new.watches) c.args.input.now.level c.args.trail.now
    call.new.trail call.ensures.implied call.ensures.kept call.ensures.rearranged.as_many c.newest-from.result from

pub mark_at_end-requires-clause-satisfied : goal.mark_at_end-requires-clause-satisfied
mark_at_end-requires-clause-satisfied g c =
    let literals = literals_at c.args.input.now in
    let clauses = length c.args.input.now.clauses.now in
    let call = c.saturate_from in
    let now = val call.new.trail.entries in
    (none_case (AreSettled literals clauses now × AreWatchesSatisfied now now (watched_by call.new.watches))
    (IsConflict literals clauses now) c.in_ok-conflict.conflict c.in_ok-conflict.ensures.ok
    (sym c.is_some.ensures ∙ c.if-is_some.false)).1

pub mark_at_end-requires-clause-before : goal.mark_at_end-requires-clause-before
mark_at_end-requires-clause-before g c =
    let literals = literals_at c.args.input.now in
    let watched = watched_by c.args.watches.now in
    let call = c.saturate_from in
    let from = subst (IsMark literals watched c.args.trail.now.entries) (sym c.newest-from.ensures)
    (newest_is_mark literals watched c.args.trail.now.entries c.args.marks.now c.requires.marks) in
    let many = as_many_decisions c.assignments-before.result.now c.args.trail.now.entries
    c.assignments-before.ensures.decisions in
    let longer = forced_longer literals c.args.input.now.level c.args.trail.now call.new.trail call.ensures.implied in
    let within = from.within in
    (omega (arith, within, many), omega (arith, longer, many))

pub mark_at_end-requires-clause-added : goal.mark_at_end-requires-clause-added
mark_at_end-requires-clause-added g c x =
    let call = c.saturate_from in
    let level = c.args.input.now.level in
    let many = as_many_decisions c.assignments-before.result.now c.args.trail.now.entries
    c.assignments-before.ensures.decisions in
    subst (λ n. level_of (drop n call.new.trail.entries) x ≤ level) (sym many)
    (added_levels (literals_at c.args.input.now) level c.args.trail.now call.new.trail call.ensures.implied x)

pub mark_at_end-requires-clause-unwatched : goal.mark_at_end-requires-clause-unwatched
mark_at_end-requires-clause-unwatched g c =
    let input = c.args.input.now in
    unwatched_alike (watched_by c.args.watches.now) (watched_by c.saturate_from.new.watches)
    (length input.clauses.now) input.unwatched.now (λ d h. c.saturate_from.ensures.rearranged.as_many d)
    c.requires.unwatched

pub push-requires : goal.push-requires
push-requires g c = subst (λ (m : Mark). IsBehind m c.mark_at_end.result) c.newest-from.ensures
    c.mark_at_end.ensures.behind

pub returns-clause-ok : goal.returns-clause-ok
returns-clause-ok g c =
    let literals = literals_at c.args.input.now in
    let clauses = length c.args.input.now.clauses.now in
    let call = c.saturate_from in
    let now = val call.new.trail.entries in
    (none_case (AreSettled literals clauses now × AreWatchesSatisfied now now (watched_by call.new.watches))
    (IsConflict literals clauses now) c.in_ok-conflict.conflict c.in_ok-conflict.ensures.ok
    (sym c.is_some.ensures ∙ c.if-is_some.false)).0

pub returns-clause-marks : goal.returns-clause-marks
returns-clause-marks g c =
    let literals = literals_at c.args.input.now in
    let call = c.saturate_from in
    let kept = marks_saturated literals (watched_by c.args.watches.now) (watched_by call.new.watches)
    c.args.input.now.level c.args.trail.now call.new.trail call.ensures.implied call.ensures.kept
    call.ensures.rearranged.as_many c.args.marks.now c.requires.marks in
    marks_remembered literals (watched_by call.new.watches) call.new.trail.entries c.mark_at_end.result
    c.args.marks.now c.push.new.self c.mark_at_end.ensures.mark kept c.push.ensures
