use Rattle.std.proofs.Common.{Ok, Some, ap, ◌∙◌}
use Rattle.std.proofs.lemmas.Result.{err_from_is_err_and}
use Rattle.debian_text.specs.Fields.{fields}
use Rattle.debian_scenario.specs.Plain.{plain_stanza}
use Rattle.debian_scenario.specs.Results.{result_map}
use Rattle.debian_scenario.specs.Stanzas.{stanzas}
use Rattle.debian_scenario.proofs.ReadLemmas.{request_by}
use Rattle.debian_scenario.proofs.scenario.next_request.Goals as goal

pub returns-in_err-request : goal.returns-in_err-request
returns-in_err-request c =
    let rest = stanzas (fields c.in-Some.rest.now) in
    let p = err_from_is_err_and c.from_residual-in_err-request.result c.from_residual-in_err-request.ensures.1 in
    rw (p.1, p.2) (ap (result_map (λ request. (request, rest))) c.in_err-request.ensures
    ∙ request_by (stanzas (fields c.args.text.now)) (Ok (Some (plain_stanza c.in-Some.stanza, rest)))
    (rw c.in-Some.is at c.in_ok-stanza.ensures.value))
