use Rattle.std.proofs.Common.{◌∙◌, [], sym}
use Rattle.index_text.proofs.PartLemmas.{entry_ends}
use Rattle.index_text.proofs.entry.first_entry.Goals as goal

pub returns-then-is_entry-clause-first : goal.returns-then-is_entry-clause-first
returns-then-is_entry-clause-first c =
    rw (c.split_at.ensures.front, c.split_at.ensures.back)
    (entry_ends c.args.words.now c.loop-i.i (record { ref_ptr = (0, 0); now = [] }) c.loop-i-test.true
    (sym c.is_entry.ensures ∙ c.if-is_entry.true) (c.loop-i.invariant c.if-i-gt0.true))
