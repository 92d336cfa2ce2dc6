use Rattle.std.proofs.Common.{◌≡◌, ℕ, ◌==◌, false, ◌∷◌, ◌∙◌, ◌+◌, ◌*◌, ◌%◌, ◌^◌, ◌<◌, true, length, take, get_or, ap}
use Rattle.std.proofs.Common.{ap₂, sym, arith}
use Rattle.std.proofs.lemmas.Bool.Decides.{nat_tests}
use Rattle.std.proofs.lemmas.List.{take_rest, take_all, drop_all}
use Rattle.script_text.specs.Numbers.{is_digit, number_of}
use Rattle.script_text.specs.Words.{words}
use Rattle.script_text.proofs.NumberWords.{short_goes_on, first_until_blank, first_until_end, number_until_end}
use Rattle.script_text.proofs.number_word.short_number.Goals as goal

not_empty : (n : ℕ) → (n == 0) ≡ false → 0 < n
not_empty n h = grind (arith, nat_tests, h)

pub loop-i-preserved : goal.loop-i-preserved
loop-i-preserved c =
    let text = c.args.text.now in
    let i = c.loop-i.i in
    let n = c.loop-i.value in
    let digit : is_digit (get_or text i 0) ≡ true = sym c.is_ascii_digit.ensures.value ∙ c.if-is_ascii_digit.true in
    short_goes_on text i n _ c.loop-i-test.true c.loop-i.invariant digit
    (ap (λ d. (n * 10 % (2 ^ 64) + d) % (2 ^ 64)) c.from.ensures)

pub returns-then-i-le-SHORT-clause-first : goal.returns-then-i-le-SHORT-clause-first
returns-then-i-le-SHORT-clause-first c =
    let text = c.args.text.now in
    let i = c.loop-i.i in
    let some : 0 < length text = omega arith in
    first_until_blank text i c.loop-i.value some c.requires c.if-i-le-SHORT.true c.loop-i.invariant
    c.loop-i-test.true c.if-byte-eq32.true
    ∙ ap (λ l. take i text ∷ words l) (sym (take_rest text (i + 1)))

pub returns-clause-first : goal.returns-clause-first
returns-clause-first c =
    let text = c.args.text.now in
    let n = length text in
    let some : 0 < n = not_empty n (sym c.is_empty.ensures ∙ c.if-is_empty.false) in
    first_until_end text c.loop-i.i c.loop-i.value some c.requires (omega arith) c.loop-i.invariant (omega arith)
    ∙ ap₂ (λ w l. w ∷ words l) (sym (c.split_at.ensures.front ∙ take_all n text (omega arith)))
    (sym (c.split_at.ensures.back ∙ drop_all n text (omega arith)))

pub returns-clause-number : goal.returns-clause-number
returns-clause-number c =
    let text = c.args.text.now in
    let n = length text in
    let some : 0 < n = not_empty n (sym c.is_empty.ensures ∙ c.if-is_empty.false) in
    ap number_of (c.split_at.ensures.front ∙ take_all n text (omega arith))
    ∙ number_until_end text c.loop-i.i c.loop-i.value some c.requires (omega arith) c.loop-i.invariant (omega arith)
