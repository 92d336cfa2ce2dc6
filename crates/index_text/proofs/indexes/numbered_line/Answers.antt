use Rattle.std.proofs.Common.{subst}
use Rattle.index_text.proofs.LineLemmas.{said_words, said_printed}
use Rattle.index_text.specs.Printed.{first_line}
use Rattle.script_text.specs.Statements.{MeansWords, IsRestPrinted}
use Rattle.index_text.proofs.indexes.numbered_line.Goals as goal

pub invariant_of-result-in-Says : goal.invariant_of-result-in-Says
invariant_of-result-in-Says c =
    let line = first_line c.args.text.now in
    let means = subst (MeansWords line) c.in-Says.is c.requires.means in
    record {
      printed = said_printed line c.in-Says.said means (subst IsRestPrinted c.in-Says.is c.requires.rest);
      first = said_words line c.in-Says.said means;
    }
