use Rattle.std.proofs.Common.{ap}
use Rattle.std.proofs.lemmas.Result.{on_ok_weaker}
use Rattle.example_index.proofs.Interned.{said_at}
use Rattle.example_index.proofs.interning.intern_said.Goals as goal

pub returns-clause-is : goal.returns-clause-is
returns-clause-is c =
    said_at c.intern_condition.result c.args.pool.now.conditions c.intern_condition.new.self.conditions c.args.condition
    c.intern_condition.ensures.id
    (on_ok_weaker c.intern_condition.result (λ h. ap (λ pool. pool.conditions) h) c.intern_condition.ensures.ok)
