use Rattle.std.proofs.Common.{◌≡◌, ◌≢◌, ℕ, List, length, refl, sym, subst, ◌∙◌, arith}
use Rattle.watch_map.proofs.Words.{AreAllSettled, AreWatchesSatisfied, Entry, IsConflict, val, val_before, watched_by}
use Rattle.watch_map.specs.Visits.{literals_at}
use Rattle.watch_map.proofs.InputLaws.{given_within}
use Rattle.watch_map.proofs.ImplicationLaws.{forced_none, forced_then, forced_longer, forced_same}
use Rattle.watch_map.proofs.MarkLaws.{mark_begins, mark_unwatched, mark_saturated}
use Rattle.watch_map.proofs.RoundLaws.{none_case, rearranged_then, keeps_then, place_kept, all_settled}
use Rattle.watch_map.proofs.RoundLaws.{as_many_decisions, round_smaller}
use Rattle.watch_map.proofs.UnwatchedLaws.{unwatched_alike, settled_if_listed, first_are_true}
use Rattle.watch_map.proofs.saturation.saturate_from.Goals as goal

pub returns-in_err-conflict-clause-implied : goal.returns-in_err-conflict-clause-implied
returns-in_err-conflict-clause-implied g c =
    forced_then (literals_at c.args.input.now) c.args.input.now.level c.args.trail.now
    c.rounds.trail c.propagate.new.trail
    c.rounds.invariant.implied c.propagate.ensures.implied

pub returns-then-is_some-clause-implied : goal.returns-then-is_some-clause-implied
returns-then-is_some-clause-implied g c =
    forced_then (literals_at c.args.input.now) c.args.input.now.level c.args.trail.now
    c.rounds.trail c.propagate.new.trail
    c.rounds.invariant.implied c.propagate.ensures.implied

pub returns-in_err-conflict-2-clause-implied : goal.returns-in_err-conflict-2-clause-implied
returns-in_err-conflict-2-clause-implied g c =
    forced_then (literals_at c.args.input.now) c.args.input.now.level c.args.trail.now c.propagate.new.trail
    c.visit_all_unwatched.new.trail
    (forced_then (literals_at c.args.input.now) c.args.input.now.level c.args.trail.now
    c.rounds.trail c.propagate.new.trail
    c.rounds.invariant.implied c.propagate.ensures.implied) c.visit_all_unwatched.ensures.implied

pub returns-then-is_some-2-clause-implied : goal.returns-then-is_some-2-clause-implied
returns-then-is_some-2-clause-implied g c =
    forced_then (literals_at c.args.input.now) c.args.input.now.level c.args.trail.now c.propagate.new.trail
    c.visit_all_unwatched.new.trail
    (forced_then (literals_at c.args.input.now) c.args.input.now.level c.args.trail.now
    c.rounds.trail c.propagate.new.trail
    c.rounds.invariant.implied c.propagate.ensures.implied) c.visit_all_unwatched.ensures.implied

pub returns-then-assignments-place-clause-implied : goal.returns-then-assignments-place-clause-implied
returns-then-assignments-place-clause-implied g c =
    forced_then (literals_at c.args.input.now) c.args.input.now.level c.args.trail.now c.propagate.new.trail
    c.visit_all_unwatched.new.trail
    (forced_then (literals_at c.args.input.now) c.args.input.now.level c.args.trail.now
    c.rounds.trail c.propagate.new.trail
    c.rounds.invariant.implied c.propagate.ensures.implied) c.visit_all_unwatched.ensures.implied

pub returns-then-assignments-place-clause-ok : goal.returns-then-assignments-place-clause-ok
returns-then-assignments-place-clause-ok g c =
    let literals = literals_at c.args.input.now in
    let clauses = length c.args.input.now.clauses.now in
    let watched = watched_by c.propagate.new.watches in
    let b = c.propagate.new.trail in
    let d = c.visit_all_unwatched.new.trail in
    let many_b = as_many_decisions c.assignments-place.result.now b.entries c.assignments-place.ensures.decisions in
    let many_d = as_many_decisions c.assignments.result.now d.entries c.assignments.ensures.decisions in
    let test = c.if-assignments-place.true in
    let alike : length d.entries ≡ length b.entries = omega (arith, many_b, many_d, test) in
    let same = forced_same literals c.args.input.now.level b d c.visit_all_unwatched.ensures.implied alike in
    let satisfied : AreWatchesSatisfied (val b.entries) (val b.entries) watched =
    none_case (AreWatchesSatisfied (val b.entries) (val b.entries) watched)
    (IsConflict literals clauses (val b.entries)) c.in_ok-conflict.conflict c.in_ok-conflict.ensures.ok
    (sym c.is_some.ensures ∙ c.if-is_some.false) in
    let ids = c.args.input.now.unwatched.now in
    let listed : AreAllSettled literals ids (val d.entries) =
    none_case (length d.entries ≡ length b.entries → AreAllSettled literals ids (val d.entries))
    (IsConflict literals clauses (val d.entries)) c.in_ok-conflict-2.conflict c.in_ok-conflict-2.ensures.ok
    (sym c.is_some-in-rounds.ensures ∙ c.if-is_some-2.false) alike in
    let rearranged = rearranged_then literals (watched_by c.args.watches.now) (watched_by c.rounds.watches) watched
    c.rounds.invariant.rearranged c.propagate.ensures.rearranged in
    let unwatched = settled_if_listed literals watched clauses ids (val d.entries)
    (unwatched_alike (watched_by c.args.watches.now) watched clauses ids (λ x h. rearranged.as_many x)
    c.requires.unwatched) listed in
    let met_now = subst (λ (es : List Entry). AreWatchesSatisfied (val es) (val es) watched) (sym same) satisfied in (
      all_settled literals watched clauses (val d.entries)
          (λ x. c.propagate.ensures.watched.exact.two x) c.propagate.ensures.rearranged.own met_now unwatched,
      met_now,
    )

pub returns-in_err-conflict-clause-kept : goal.returns-in_err-conflict-clause-kept
returns-in_err-conflict-clause-kept g c =
    keeps_then (literals_at c.args.input.now) c.args.input.now.level c.args.trail.now c.rounds.trail
    (watched_by c.args.watches.now) (watched_by c.rounds.watches) (watched_by c.propagate.new.watches)
    c.rounds.invariant.implied c.rounds.invariant.kept c.propagate.ensures.kept

pub returns-then-is_some-clause-kept : goal.returns-then-is_some-clause-kept
returns-then-is_some-clause-kept g c =
    keeps_then (literals_at c.args.input.now) c.args.input.now.level c.args.trail.now c.rounds.trail
    (watched_by c.args.watches.now) (watched_by c.rounds.watches) (watched_by c.propagate.new.watches)
    c.rounds.invariant.implied c.rounds.invariant.kept c.propagate.ensures.kept

pub returns-in_err-conflict-2-clause-kept : goal.returns-in_err-conflict-2-clause-kept
returns-in_err-conflict-2-clause-kept g c =
    keeps_then (literals_at c.args.input.now) c.args.input.now.level c.args.trail.now c.rounds.trail
    (watched_by c.args.watches.now) (watched_by c.rounds.watches) (watched_by c.propagate.new.watches)
    c.rounds.invariant.implied c.rounds.invariant.kept c.propagate.ensures.kept

pub returns-then-is_some-2-clause-kept : goal.returns-then-is_some-2-clause-kept
returns-then-is_some-2-clause-kept g c =
    keeps_then (literals_at c.args.input.now) c.args.input.now.level c.args.trail.now c.rounds.trail
    (watched_by c.args.watches.now) (watched_by c.rounds.watches) (watched_by c.propagate.new.watches)
    c.rounds.invariant.implied c.rounds.invariant.kept c.propagate.ensures.kept

pub returns-then-assignments-place-clause-kept : goal.returns-then-assignments-place-clause-kept
returns-then-assignments-place-clause-kept g c =
    keeps_then (literals_at c.args.input.now) c.args.input.now.level c.args.trail.now c.rounds.trail
    (watched_by c.args.watches.now) (watched_by c.rounds.watches) (watched_by c.propagate.new.watches)
    c.rounds.invariant.implied c.rounds.invariant.kept c.propagate.ensures.kept

pub rounds-init : goal.rounds-init
rounds-init g c =
    let literals = literals_at c.args.input.now in
    let watched = watched_by c.args.watches.now in
    let trail = c.args.trail.now in
    let from = c.args.from.now in
    record {
      within = c.requires.from.within;
      watched = c.requires.watched;
      rearranged = record { own = c.requires.own; as_many = λ x. refl };
      implied = forced_none literals c.args.input.now.level trail;
      satisfied = mark_begins literals watched trail.entries from c.requires.from;
      kept = λ before seen ex ex_seen satisfied. satisfied;
    }

pub count_before-first-requires : goal.count_before-first-requires
count_before-first-requires g c = c.requires.unwatched.ascending

pub visit_all_unwatched-requires-clause-there : goal.visit_all_unwatched-requires-clause-there
visit_all_unwatched-requires-clause-there g c = c.requires.unwatched.within

-- the clauses below the mark's bound that watch nothing are true still
pub visit_all_unwatched-requires-clause-first : goal.visit_all_unwatched-requires-clause-first
visit_all_unwatched-requires-clause-first g c =
    let input = c.args.input.now in
    let literals = literals_at input in
    let level = input.level in
    let watched = watched_by c.propagate.new.watches in
    let ids = input.unwatched.now in
    let a = c.args.trail.now in
    let b = c.propagate.new.trail in
    let implied = forced_then literals level a c.rounds.trail b c.rounds.invariant.implied
    c.propagate.ensures.implied in
    let rearranged = rearranged_then literals (watched_by c.args.watches.now) (watched_by c.rounds.watches)
    watched c.rounds.invariant.rearranged c.propagate.ensures.rearranged in
    let below = mark_unwatched literals watched b.entries c.args.from.now
    (mark_saturated literals (watched_by c.args.watches.now) watched level a b implied
    (keeps_then literals level a c.rounds.trail (watched_by c.args.watches.now) (watched_by c.rounds.watches)
    watched c.rounds.invariant.implied c.rounds.invariant.kept c.propagate.ensures.kept)
    rearranged.as_many c.args.from.now c.requires.from) in
    first_are_true literals watched (length input.clauses.now) ids (val b.entries)
    (unwatched_alike (watched_by c.args.watches.now) watched (length input.clauses.now) ids
    (λ x h. rearranged.as_many x) c.requires.unwatched)
    c.args.from.now.clauses c.count_before-first.result below c.count_before-first.ensures

pub rounds-smaller : goal.rounds-smaller
rounds-smaller g c =
    let input = c.args.input.now in
    let b = c.propagate.new.trail in
    let d = c.visit_all_unwatched.new.trail in
    let many_b = as_many_decisions c.assignments-place.result.now b.entries c.assignments-place.ensures.decisions in
    let many_d = as_many_decisions c.assignments.result.now d.entries c.assignments.ensures.decisions in
    let test = c.if-assignments-place.false in
    let differs : length d.entries ≢ length b.entries = omega (arith, many_b, many_d, test) in
    round_smaller (literals_at input) input.level (length input.clauses.now) (given_within input)
    c.rounds.trail b d c.propagate.ensures.implied c.visit_all_unwatched.ensures.implied differs

pub rounds-preserved : goal.rounds-preserved
rounds-preserved g c =
    let literals = literals_at c.args.input.now in
    let level = c.args.input.now.level in
    let clauses = length c.args.input.now.clauses.now in
    let watched = watched_by c.propagate.new.watches in
    let a = c.rounds.trail in
    let b = c.propagate.new.trail in
    let d = c.visit_all_unwatched.new.trail in
    let inv = c.rounds.invariant in
    let many_b = as_many_decisions c.assignments-place.result.now b.entries c.assignments-place.ensures.decisions in
    let longer = forced_longer literals level b d c.visit_all_unwatched.ensures.implied in
    let satisfied : AreWatchesSatisfied (val b.entries) (val b.entries) watched =
    none_case (AreWatchesSatisfied (val b.entries) (val b.entries) watched)
    (IsConflict literals clauses (val b.entries)) c.in_ok-conflict.conflict c.in_ok-conflict.ensures.ok
    (sym c.is_some.ensures ∙ c.if-is_some.false) in
    record {
      within = omega (arith, many_b, longer);
      watched = c.propagate.ensures.watched;
      rearranged = rearranged_then literals (watched_by c.args.watches.now) (watched_by c.rounds.watches) watched
          inv.rearranged c.propagate.ensures.rearranged;
      implied = forced_then literals level c.args.trail.now b d
          (forced_then literals level c.args.trail.now a b inv.implied c.propagate.ensures.implied)
          c.visit_all_unwatched.ensures.implied;
      satisfied = subst (λ (p : ℕ). AreWatchesSatisfied (val_before p d.entries) (val d.entries) watched) (sym many_b)
          (place_kept literals level b d watched c.visit_all_unwatched.ensures.implied satisfied);
      kept = keeps_then literals level c.args.trail.now a (watched_by c.args.watches.now) (watched_by c.rounds.watches)
          watched inv.implied inv.kept c.propagate.ensures.kept;
    }
