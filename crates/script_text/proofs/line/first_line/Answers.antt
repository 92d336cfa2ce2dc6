use Rattle.std.proofs.Common.{arith, sym}
use Rattle.std.proofs.lemmas.List.Sums.{prefix_len-le-length}
use Rattle.script_text.specs.Lines.{is_printed}
use Rattle.script_text.proofs.FirstLines.{printed_front, printed_line}
use Rattle.script_text.proofs.line.first_line.Goals as goal

pub split_at-requires : goal.split_at-requires
split_at-requires c = omega (arith, c.printed_length.ensures, prefix_len-le-length is_printed c.args.text.now)

pub returns-in-Some-clause-first : goal.returns-in-Some-clause-first
returns-in-Some-clause-first c =
    printed_line c.args.text.now c.split_at.result.0.now c.split_at.result.1.now c.in-Some.rest.now
    c.printed_length.result
    c.printed_length.ensures c.split_at.ensures.front c.split_at.ensures.back c.in-Some.ensures

pub returns-in-Some-clause-printed : goal.returns-in-Some-clause-printed
returns-in-Some-clause-printed c =
    sym (printed_front c.args.text.now c.split_at.result.0.now c.split_at.result.1.now c.in-Some.rest.now
    c.printed_length.result
    c.printed_length.ensures c.split_at.ensures.front c.split_at.ensures.back)
