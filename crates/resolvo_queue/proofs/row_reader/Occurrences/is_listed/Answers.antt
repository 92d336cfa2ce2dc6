use Rattle.std.proofs.Common.{ap, ◌∙◌}
use Rattle.std.specs.Prelude.{is_some}
use Rattle.resolvo_queue.proofs.Rows.Occurrences.{found_if_listed, some_copied}
use Rattle.resolvo_queue.proofs.row_reader.Occurrences.is_listed.Goals as goal

pub returns : goal.returns
returns g c = rw (← c.self.view_is) (c.is_some.ensures ∙ (some_copied c.get.result ∙
    (ap is_some c.get.ensures ∙ found_if_listed c.self.inside.listed c.args.requirement)))
