use Rattle.solutions.proofs.Words.{IsOnlyOne}
use Rattle.solutions.proofs.encoding.Encoder.lock.Invariants.{provided}
use Rattle.solutions.proofs.EncodingLemmas as L
use Rattle.solutions.proofs.encoding.Encoder.lock.Goals as goal

pub loop-version-init : goal.loop-version-init
loop-version-init g c =
    let p = provided g c.args.self.now.provider.now in
    L.still p (λ picked. IsOnlyOne p picked c.args.solvable) c.args.theory.now.clauses.items

pub loop-version-preserved : goal.loop-version-preserved
loop-version-preserved g c =
    let p = provided g c.args.self.now.provider.now in
    L.still_then p (λ picked. IsOnlyOne p picked c.args.solvable) c.args.theory.now.clauses.items
    c.loop-version.theory.clauses.items
    c.forbid_other.new.theory.clauses.items c.loop-version.invariant c.in_ok-forbid_other.ensures
