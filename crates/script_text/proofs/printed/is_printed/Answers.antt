use Rattle.std.proofs.Common.{◌==◌, length, ap, ◌∙◌}
use Rattle.script_text.proofs.Prefixes.{printed_whole}
use Rattle.script_text.proofs.printed.is_printed.Goals as goal

pub returns : goal.returns
returns c = ap (λ n. n == length c.args.line.now) c.printed_length.ensures ∙ printed_whole c.args.line.now
