use Rattle.std.proofs.Common.{◌∙◌, ◌∷◌, sym}
use Rattle.std.proofs.lemmas.Result.{IfOk-weaker}
use Rattle.test_part_calls.proofs.NewEachTime.{place_at_end}
use Rattle.test_part_calls.proofs.each_kind.UnionsKind.intern.Goals as goal

pub returns-clause-id : goal.returns-clause-id
returns-clause-id g c =
    IfOk-weaker c.intern_version_set_union.result _ _
    (λ id h. h ∙ sym (place_at_end (c.args.value.0 ∷ c.args.value.1.items) c.args.pool.now.unions))
    c.intern_version_set_union.ensures.id
