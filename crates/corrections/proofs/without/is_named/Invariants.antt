use Rattle.std.proofs.Common.{take}
use Rattle.corrections.proofs.Words.{All, IsNamedBy}
use Rattle.corrections.proofs.without.is_named.Given as goal

abbrev pub invariant-loop-reason : goal.invariant-loop-reason
invariant-loop-reason g l = All (λ reason. IsNamedBy l.conditional reason → ⊥) (take l.reason-index l.reasons)
