use Rattle.std.proofs.Common.{sym, subst}
use Rattle.corrections.proofs.Words.{IsWithin}
use Rattle.corrections.proofs.marks.is_any_within.Goals as goal

pub returns-then-is_within : goal.returns-then-is_within
returns-then-is_within g c = λ yes. (
  c.loop-set.set-index,
  c.set-item.result,
  c.loop-set-test.true,
  sym c.set-item.is,
  subst (λ few. IsWithin few c.args.marks.now) c.deref.ensures.value (c.is_within.ensures c.if-is_within.true),
)
