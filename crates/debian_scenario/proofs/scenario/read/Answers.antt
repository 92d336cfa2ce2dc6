use Rattle.std.proofs.Common.{Err, sym}
use Rattle.debian_text.specs.Fields.{fields}
use Rattle.debian_scenario.specs.Stanzas.{stanzas}
use Rattle.debian_scenario.proofs.ReadLemmas.{scenario_by}
use Rattle.debian_scenario.proofs.scenario.read.Goals as goal

pub returns-in-Err : goal.returns-in-Err
returns-in-Err c = sym (scenario_by (stanzas (fields c.args.text.now)) (Err c.in-Err.fault) c.in-Err.ensures)
