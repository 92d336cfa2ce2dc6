use Rattle.std.proofs.Common.{◌+◌, ◌-◌, ◌≤◌, ◌==◌, arith, length, take, drop, refl, sym, not}
use Rattle.std.proofs.lemmas.List.{length-take}
use Rattle.std.proofs.lemmas.List.Sums.{prefix_len-le-length}
use Rattle.script_text.proofs.Prefixes.{ends_in_sixteen, goes_on_after_sixteen}
use Rattle.index_text.proofs.word_length.word_length.Goals as goal

pub returns-in-Some : goal.returns-in-Some
returns-in-Some c =
    let room : c.loop-length.length + 16 ≤ length c.args.text.now = omega arith in
    let ends = ends_in_sixteen (λ byte. not (byte == 32)) c.args.text.now c.loop-length.length c.in-Some.found room
    c.in-Some.ensures.0 c.in-Some.ensures.1 in
    omega (arith, ends, c.loop-length.invariant.counted)

pub loop-length-preserved : goal.loop-length-preserved
loop-length-preserved c =
    let room : c.loop-length.length + 16 ≤ length c.args.text.now = omega arith in
    let goes_on = goes_on_after_sixteen (λ byte. not (byte == 32)) c.args.text.now c.loop-length.length 16 room
    (sym c.in_default.ensures) refl in
    record { within = room; counted = omega (arith, goes_on, c.loop-length.invariant.counted) }

pub overflow_add-result-2 : goal.overflow_add-result-2
overflow_add-result-2 c =
    let text = c.args.text.now in
    let rest = drop c.loop-length.length text in
    let left = length text - c.loop-length.length in
    omega (
      arith,
      c.length_by_one.ensures,
      prefix_len-le-length (λ byte. not (byte == 32)) (take left rest),
      length-take left rest,
    )
