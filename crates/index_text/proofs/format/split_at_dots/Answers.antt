use Rattle.std.proofs.Common.{arith, ◌∙◌, sym, ap}
use Rattle.index_text.proofs.EndLemmas.{behind_nothing, rest_of, ends_go_on, ends_here, no_ends}
use Rattle.index_text.specs.Formats.{begins_with_dots, ends_of}
use Rattle.index_text.proofs.format.split_at_dots.Goals as goal

pub loop-i-init : goal.loop-i-init
loop-i-init c = behind_nothing (ends_of c.args.word.now)

pub loop-i-preserved : goal.loop-i-preserved
loop-i-preserved c =
    let word = c.args.word.now in
    let i = c.loop-i.i in
    let here = c.loop-i-test.true in
    ends_go_on word i here
    (sym (ap begins_with_dots (rest_of word i here i)) ∙ sym c.starts_with.ensures.value ∙ c.if-starts_with.false)
    c.loop-i.invariant

pub returns-then-starts_with : goal.returns-then-starts_with
returns-then-starts_with c =
    let word = c.args.word.now in
    let i = c.loop-i.i in
    let here = c.loop-i-test.true in
    ends_here word i here
    (sym (ap begins_with_dots (rest_of word i here i)) ∙ sym c.starts_with.ensures.value ∙ c.if-starts_with.true)
    c.loop-i.invariant

pub returns : goal.returns
returns c = no_ends c.args.word.now c.loop-i.i (omega arith) c.loop-i.invariant
