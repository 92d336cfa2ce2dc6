use Rattle.package_pool.proofs.PoolLemmas.{sound_nothing}
use Rattle.package_pool.proofs.pool.Pool.new.Goals as goal

pub invariant_of-result : goal.invariant_of-result
invariant_of-result g c =
    rw (
      c.new.ensures.empty,
      c.new-2.ensures.empty,
      c.new-3.ensures,
      c.new-4.ensures.empty,
      c.new-5.ensures,
      c.new-6.ensures.empty,
    )
    sound_nothing

pub returns-clause-sound : goal.returns-clause-sound
returns-clause-sound g c =
    rw (
      c.new.ensures.empty,
      c.new-2.ensures.empty,
      c.new-3.ensures,
      c.new-4.ensures.empty,
      c.new-5.ensures,
      c.new-6.ensures.empty,
    )
    sound_nothing
