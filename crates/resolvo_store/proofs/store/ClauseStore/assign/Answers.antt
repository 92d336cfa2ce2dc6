use Rattle.std.proofs.Common.{◌≡◌, ◌∙◌, ◌<◌, length, take, ap, arith, refl, rules, subst, sym}
use Rattle.resolvo_store.proofs.Words.{Entry, val}
use Rattle.resolvo_store.proofs.CountedLemmas.{follows_more, front_added, keeps_counted}
use Rattle.resolvo_store.proofs.CallerLaws.{store_in}
use Rattle.resolvo_store.proofs.InvariantLemmas.{after_entry}
use Rattle.resolvo_store.proofs.MarkedLaws.{marks_assigned}
use Rattle.resolvo_store.proofs.store.ClauseStore.assign.Goals as goal

pub invariant_of-self : goal.invariant_of-self
invariant_of-self g c =
    let decision = c.args.decision in
    let variable : decision.variable < length c.self.inside.variables = omega arith in
    let clause : decision.derived_from < length c.self.inside.clauses.clauses = omega arith in
    let entry : Entry = record { decision = decision; level = c.args.level } in
    let inside = c.self.inside in
    let new = c.try_add_decision.new.self in
    let front = front_added (val inside.trail.entries decision.variable) inside.trail new entry
    c.try_add_decision.result c.try_add_decision.ensures in
    record {
      consistent = after_entry c.self.invariant.consistent entry c.try_add_decision.new.self
          c.try_add_decision.result variable clause (search rules) refl refl c.try_add_decision.ensures;
      counted = keeps_counted refl (λ h. follows_more inside.falsified _ inside.trail.entries new.entries h front)
          c.self.invariant.counted;
      marked = marks_assigned (store_in c.self.invariant.consistent.sound) c.self.inside.marks
          c.self.invariant.marked (val c.self.inside.trail.entries decision.variable) c.self.inside.trail
          c.try_add_decision.new.self entry c.try_add_decision.result c.try_add_decision.ensures refl;
    }
