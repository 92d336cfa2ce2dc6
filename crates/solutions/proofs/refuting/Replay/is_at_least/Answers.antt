use Rattle.std.proofs.Common.{◌≡◌, true, false, rules, arith}
use Rattle.solutions.proofs.ReplayLemmas.{replayed_none, replayed_then}
use Rattle.solutions.proofs.SettledLemmas.{at_least_none, at_least_range}
use Rattle.solutions.proofs.refuting.Replay.is_at_least.Goals as goal

pub loop-place-init : goal.loop-place-init
loop-place-init g c =
    let cs = c.args.self.now.theory.clauses.items in
    let ks = c.args.self.now.trail.literals.items in
    record { at_least = at_least_none cs ks c.args.literals.now; replayed = replayed_none cs ks }

pub loop-place-preserved : goal.loop-place-preserved
loop-place-preserved g c =
    let cs = c.args.self.now.theory.clauses.items in
    let ks = c.args.self.now.trail.literals.items in
    let ds = c.loop-place.self.theory.clauses.items in
    let ls = c.loop-place.self.trail.literals.items in
    let es = c.are_refuted.new.self.theory.clauses.items in
    let ms = c.are_refuted.new.self.trail.literals.items in
    let literals = c.args.literals.now in
    let place = c.loop-place.place in
    let yes : c.in_ok-are_refuted.field-0 ≡ true = search rules in
    let so_far = c.loop-place.invariant in
    record {
      at_least = at_least_range cs ks ds es ls ms literals c.in-Some.better.now place c.in-Some.ensures.lookup.0.1
          c.in-Some.ensures.lookup.0.2
          so_far.replayed c.in_ok-are_refuted.ensures.replayed (c.in_ok-are_refuted.ensures.refuted yes)
          so_far.at_least;
      replayed = replayed_then cs ks ds ls es ms false false so_far.replayed c.in_ok-are_refuted.ensures.replayed;
    }

pub returns-then-not-branch-clause-replayed : goal.returns-then-not-branch-clause-replayed
returns-then-not-branch-clause-replayed g c =
    replayed_then c.args.self.now.theory.clauses.items c.args.self.now.trail.literals.items
    c.loop-place.self.theory.clauses.items
    c.loop-place.self.trail.literals.items c.are_refuted.new.self.theory.clauses.items
    c.are_refuted.new.self.trail.literals.items false false
    c.loop-place.invariant.replayed c.in_ok-are_refuted.ensures.replayed

pub returns-in_default-clause-replayed : goal.returns-in_default-clause-replayed
returns-in_default-clause-replayed g c = c.loop-place.invariant.replayed

pub returns-clause-at_least : goal.returns-clause-at_least
returns-clause-at_least g c = λ e holds met true_ones.
    let least = c.loop-place.invariant.at_least holds met true_ones in
    let end = c.loop-place-test.false in
    omega arith

pub returns-clause-replayed : goal.returns-clause-replayed
returns-clause-replayed g c = c.loop-place.invariant.replayed
