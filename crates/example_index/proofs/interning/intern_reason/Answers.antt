use Rattle.std.proofs.Common.{◌∙◌, ap, Some}
use Rattle.example_index.proofs.Words.{bytes_eq, interned, slice_get, string_bytes}
use Rattle.example_index.proofs.Interned.{string_at}
use Rattle.example_index.proofs.interning.intern_reason.Goals as goal

pub returns-in-Ok-clause-is : goal.returns-in-Ok-clause-is
returns-in-Ok-clause-is c =
    let text = string_bytes c.in_ok-reason.reason in
    ap (λ pool. slice_get pool.strings c.in-Ok.id.0) c.in-Ok.ensures.ok
    ∙ ap (slice_get (interned bytes_eq c.args.pool.now.strings text)) c.in-Ok.ensures.id
    ∙ string_at c.args.pool.now.strings text ∙ ap Some c.in_ok-reason.ensures.ok
