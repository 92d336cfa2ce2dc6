use Rattle.std.proofs.Common.{◌≡◌, true, subst}
use Rattle.watch_map.proofs.Words.{is_unit, val, Values, watched_by}
use Rattle.watch_map.specs.Visits.{literals_at}
use Rattle.watch_map.proofs.SatisfiedLaws.{beside_from}
use Rattle.watch_map.proofs.saturation.visit.visit.Goals as goal

pub assign_implied-requires : goal.assign_implied-requires
assign_implied-requires g c =
    let literals = literals_at c.args.input.now c.args.node.now.clause_id in
    record {
      is_unit = subst (λ (now : Values). is_unit now literals c.in-Unit.other ≡ true) c.map.ensures.values
          c.in-Unit.ensures.implied;
    }

pub returns-in_ok-assign_implied-in-Unit-clause-ok : goal.returns-in_ok-assign_implied-in-Unit-clause-ok
returns-in_ok-assign_implied-in-Unit-clause-ok g c =
    let watched = watched_by c.args.watches.now c.args.node.now.clause_id in
    beside_from (val c.assign_implied.new.trail.entries) watched c.args.falsified (record {
      literal = c.in-Unit.other;
      within = c.in-Unit.ensures.watch;
      differs = c.in-Unit.ensures.other;
      is_true = c.in_ok-assign_implied-in-Unit.ensures.ok;
    })
