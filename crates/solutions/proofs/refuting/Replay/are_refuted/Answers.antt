use Rattle.std.proofs.Common.{false, refl, sym, subst}
use Rattle.solutions.proofs.Words.{Replayed}
use Rattle.solutions.proofs.DecisionLemmas.{answered_where, done}
use Rattle.solutions.proofs.ReplayLemmas.{replayed_none, refuted_still}
use Rattle.solutions.proofs.refuting.Replay.are_refuted.Goals as goal

pub returns-clause-refuted : goal.returns-clause-refuted
returns-clause-refuted g c =
    let clauses = c.args.self.now.theory.clauses.items in
    answered_where c.refute.result
    (λ yes back refuted e. refuted_still clauses c.rules.result.clauses.now c.args.self.now.trail.literals.items
    c.refute.new.trail.literals.items
    c.args.literals.now c.args.literals.now c.rules.ensures back refl (refuted e))
    c.refute.ensures.rolled_back c.refute.ensures.refuted

pub returns-clause-replayed : goal.returns-clause-replayed
returns-clause-replayed g c =
    let clauses = c.args.self.now.theory.clauses.items in
    let trail = c.args.self.now.trail.literals.items in
    done c.refute.result
    (λ back. subst (λ now. Replayed clauses trail clauses now false) (sym back) (replayed_none clauses trail))
    c.refute.ensures.rolled_back
