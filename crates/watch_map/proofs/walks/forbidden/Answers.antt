use Rattle.std.proofs.Common.{ap, ◌∙◌}
use Rattle.watch_map.proofs.Words.{first_watches, ForbidMultipleInstances}
use Rattle.watch_map.proofs.ListLaws.{literal_of_sign, no_literals, no_values}
use Rattle.watch_map.proofs.walks.forbidden.Goals as goal

pub returns-clause-clause : goal.returns-clause-clause
returns-clause-clause g c =
    c.forbid_multiple.ensures.clause ∙ ap (λ l. ForbidMultipleInstances c.args.bit.0 l c.args.name) (c.new.ensures
    ∙ literal_of_sign c.args.bit.1 c.args.bit.2)

pub returns-clause-watches : goal.returns-clause-watches
returns-clause-watches g c =
    c.forbid_multiple.ensures.watches no_literals no_values
    ∙ ap (first_watches no_literals no_values)
    (c.forbid_multiple.ensures.clause ∙ ap (λ l. ForbidMultipleInstances c.args.bit.0 l c.args.name)
    (c.new.ensures ∙ literal_of_sign c.args.bit.1 c.args.bit.2))
