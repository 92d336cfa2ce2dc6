use Rattle.std.proofs.lemmas.Result.{on_ok_weaker}
use Rattle.reports.proofs.AppendLemmas.{in_turn}
use Rattle.reports.proofs.missing.write_no_package.Goals as goal

pub returns : goal.returns
returns g c =
    rw (← c.version_set_name.ensures)
    (on_ok_weaker c.write_name.result (in_turn _ _ _ _ _ c.in_ok-push_str.ensures.bytes) c.write_name.ensures)
