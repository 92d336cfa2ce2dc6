use Rattle.std.proofs.lemmas.Result.{on_ok_weaker}
use Rattle.reports.proofs.AppendLemmas.{in_turn}
use Rattle.reports.proofs.line_text.write_said.Goals as goal

pub returns-in_ok-push_str-in-Limits : goal.returns-in_ok-push_str-in-Limits
returns-in_ok-push_str-in-Limits g c =
    rw c.in-Limits.is
    (on_ok_weaker c.write_set.result (in_turn _ _ _ _ _ c.in_ok-push_str-in-Limits.ensures.bytes) c.write_set.ensures)

pub returns-in-Unknown : goal.returns-in-Unknown
returns-in-Unknown g c = rw c.in-Unknown.is c.write_why.ensures

pub returns-in_ok-push_str-in-OneVersion : goal.returns-in_ok-push_str-in-OneVersion
returns-in_ok-push_str-in-OneVersion g c =
    rw c.in-OneVersion.is
    (on_ok_weaker c.write_name.result (in_turn _ _ _ _ _ c.in_ok-push_str-in-OneVersion.ensures.bytes)
    c.write_name.ensures)
