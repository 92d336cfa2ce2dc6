use Rattle.std.proofs.Common.{arith, ◌∙◌, [], ◌∷◌, sym, ap, length, drop, take, ◌+◌, ◌-◌}
use Rattle.std.specs.List.{slice_split}
use Rattle.std.specs.Str.{bytes_eq}
use Rattle.std.proofs.lemmas.List.{take_all, length-drop}
use Rattle.index_text.specs.Sets.{texts}
use Rattle.index_text.proofs.Cuts.{onto_front-nothing}
use Rattle.index_text.proofs.PartLemmas.{part_goes_on, part_ends, all_before}
use Rattle.index_text.proofs.words.first_part.Goals as goal

pub loop-i-init : goal.loop-i-init
loop-i-init c = sym (onto_front-nothing (bytes_eq c.args.between.now) (texts c.args.words.now))

pub returns-then-is_word-clause-parts : goal.returns-then-is_word-clause-parts
returns-then-is_word-clause-parts c =
    let words = c.args.words.now in
    let i = c.loop-i.i in
    part_ends words i (record { ref_ptr = (0, 0); now = [] }) c.loop-i-test.true c.args.between.now
    (ap (bytes_eq c.args.between.now) (sym c.as_bytes.ensures.value) ∙ sym c.is_word.ensures
    ∙ c.if-is_word.true) c.loop-i.invariant
    ∙ ap (λ rest. texts (take i words) ∷ slice_split (bytes_eq c.args.between.now) (texts rest))
    (sym (take_all (length words - (i + 1)) (drop (i + 1) words) (omega (arith, length-drop (i + 1) words))))

pub loop-i-preserved : goal.loop-i-preserved
loop-i-preserved c =
    part_goes_on c.args.words.now c.loop-i.i (record { ref_ptr = (0, 0); now = [] }) c.loop-i-test.true
    c.args.between.now
    (ap (bytes_eq c.args.between.now) (sym c.as_bytes.ensures.value) ∙ sym c.is_word.ensures
    ∙ c.if-is_word.false) c.loop-i.invariant

pub returns-clause-parts : goal.returns-clause-parts
returns-clause-parts c = all_before c.args.between.now c.args.words.now c.loop-i.i
    (omega (arith, c.loop-i-test.false, c.loop-i.auto.i-end)) c.loop-i.invariant
