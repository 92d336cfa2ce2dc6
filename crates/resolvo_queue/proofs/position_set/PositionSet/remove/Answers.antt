use Rattle.std.proofs.Common.{◌≡◌, ℕ, ◌+◌, ◌<◌, Bool, true, false, cond, ◌∙◌, arith}
use Rattle.resolvo_queue.proofs.position_set.PositionSet.remove.Goals as goal

fewer_by : (b : Bool) (n m : ℕ) → b ≡ true → n + cond b 1 0 ≡ m → n < m
fewer_by true n m e h = omega arith
fewer_by false n m e h = cc

pub returns-clause-gone : goal.returns-clause-gone
returns-clause-gone g c = λ p. rw (← c.self.view_is) (c.remove.ensures.updates.0 p)

pub returns-clause-fewer : goal.returns-clause-fewer
returns-clause-fewer g c =
    rw (← c.self.view_is) (λ h. fewer_by c.remove.result _ _ (c.remove.ensures.test ∙ h) c.remove.ensures.len)
