use Rattle.std.proofs.Common.{◌≡◌, subst}
use Rattle.std.specs.Prelude.{IfOk}
use Rattle.index_text.proofs.StopLemmas.{no_surplus}
use Rattle.index_text.specs.PlainFormats.{plain_format}
use Rattle.index_text.specs.declared.expected.Expected.{Expected}
use Rattle.index_text.specs.declared.stop.Stop.{Stop}
use Rattle.script_text.specs.Words.{words as words_of}
use Rattle.index_text.proofs.stop.printed_stop.Goals as goal

pub returns-in-None-clause-expected : goal.returns-in-None-clause-expected
returns-in-None-clause-expected c =
    subst (λ (e : Expected). IfOk c.kind_stop.result (λ (stop : Stop). stop.expected ≡ e))
    (no_surplus (plain_format c.args.format.now) c.args.kind (words_of c.args.line.now) c.in-None.ensures.some)
    c.kind_stop.ensures.expected
