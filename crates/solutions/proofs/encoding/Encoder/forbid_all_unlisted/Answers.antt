use Rattle.std.proofs.Common.{◌≡◌, List, true}
use Rattle.solutions.proofs.Words.{All, is_allowed}
use Rattle.solutions.proofs.encoding.Encoder.forbid_all_unlisted.Invariants.{provided}
use Rattle.solutions.proofs.EncodingLemmas as L
use Rattle.solutions.proofs.encoding.Encoder.forbid_all_unlisted.Goals as goal

pub loop-solvable-init : goal.loop-solvable-init
loop-solvable-init g c =
    let p = provided g c.args.self.now.provider.now in
    L.still p (λ picked. All (λ s. is_allowed p s ≡ true) picked) c.args.theory.now.clauses.items

pub loop-solvable-preserved : goal.loop-solvable-preserved
loop-solvable-preserved g c =
    let p = provided g c.args.self.now.provider.now in
    L.still_then p (λ picked. All (λ s. is_allowed p s ≡ true) picked) c.args.theory.now.clauses.items
    c.loop-solvable.theory.clauses.items
    c.forbid_unlisted.new.theory.clauses.items c.loop-solvable.invariant c.in_ok-forbid_unlisted.ensures
