use Rattle.std.proofs.Common.{◌∙◌, ◌++◌, ap, string_bytes}
use Rattle.example_certificates.proofs.index_certificate.append_of_request.Goals as goal

pub returns-in_ok-push_str-in-Ok-Some : goal.returns-in_ok-push_str-in-Ok-Some
returns-in_ok-push_str-in-Ok-Some c = (
  string_bytes c.in-Ok-Some.text,
  c.in_ok-push_str-in-Ok-Some.ensures.bytes
      ∙ ap (λ t. string_bytes c.args.certificates.now ++ t) c.deref.ensures,
  rw (← c.request.ensures) (rw c.in-Ok-Some.field-0-is at c.in-Ok-Some.ensures),
)
