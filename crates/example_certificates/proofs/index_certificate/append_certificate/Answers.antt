use Rattle.std.proofs.Common.{map}
use Rattle.index_text.specs.PlainLines.{plain_line}
use Rattle.solutions.proofs.DecisionLemmas.{done}
use Rattle.example_certificates.proofs.IndexLemmas.{certified_of_read}
use Rattle.example_certificates.proofs.index_certificate.append_certificate.Goals as goal

pub returns : goal.returns
returns c =
    done c.append_of_request.result
    (λ added. (
      added.0,
      added.1,
      certified_of_read _ _ (map plain_line c.args.lines.now) c.in-Ok.index _ _ c.in-Ok.ensures c.first_number.ensures
          added.2,
    ))
    c.append_of_request.ensures
