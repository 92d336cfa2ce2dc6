use Rattle.std.proofs.Common.{◌≡◌, ◌∙◌, ℕ, ◌+◌, ◌<◌, ◌++◌, List, append_assoc, ap, arith, drop, encode_utf8, get_or}
use Rattle.std.proofs.Common.{length, string_bytes, subst, sym}
use Rattle.std.proofs.lemmas.Iterator.{YieldsList-from_chars}
use Rattle.std.proofs.lemmas.Iterator.Consumers.{YieldsList-end, YieldsList-turn}
use Rattle.std.proofs.lemmas.List.{append-nil, at_drop_all, at_drop_more, length_push}
use Rattle.std.specs.Str.{chars}
use Rattle.reports.specs.Graphs.{before_letter, escaped}
use Rattle.reports.proofs.dot.write_escaped.Goals as goal

-- a letter is written
one_escaped : (all : List ℕ) (i letter : ℕ) (old mark marked new begun : List ℕ)
    → (i < length all) × (letter ≡ get_or all i letter) → mark ≡ before_letter letter → marked ≡ old ++ mark
    → new ≡ marked ++ encode_utf8 letter → old ++ escaped (drop i all) ≡ begun
    → new ++ escaped (drop (i + 1) all) ≡ begun
one_escaped all i letter old mark marked new begun at is before written so_far =
    let rest = escaped (drop (i + 1) all) in
    let code = encode_utf8 letter in
    let step : escaped (drop i all) ≡ before_letter letter ++ (code ++ rest) =
    at_drop_more escaped all i letter at.0
    ∙ ap (λ (x : ℕ). before_letter x ++ (encode_utf8 x ++ rest)) (sym at.1) in
    let joined : ((old ++ mark) ++ code) ++ rest ≡ old ++ (mark ++ (code ++ rest)) = simp append_assoc in
    ap (λ (x : List ℕ). x ++ rest) written ∙ ap (λ (x : List ℕ). (x ++ code) ++ rest) before ∙ joined
    ∙ ap (λ (x : List ℕ). old ++ (x ++ (code ++ rest))) is ∙ ap (λ (x : List ℕ). old ++ x) (sym step) ∙ so_far

pub loop-letter-preserved : goal.loop-letter-preserved
loop-letter-preserved g c =
    let all = chars c.args.label.now in
    let so_far = length c.loop-letter.yielded in
    let new = string_bytes c.push.new.self in
    let turn = YieldsList-turn (YieldsList-from_chars c.args.label.now c.utf8.label cc) c.loop-letter.yielded _
    c.loop-letter.yielded_by _ _ c.in-Some.letter c.in-Some.is c.next.ensures.steps in
    subst (λ (i : ℕ). new ++ escaped (drop i all) ≡ string_bytes c.args.text.now ++ escaped all)
    (sym (length_push c.loop-letter.yielded c.in-Some.letter))
    (one_escaped all so_far c.in-Some.letter (string_bytes c.loop-letter.text) c.before_letter.result.now
    (string_bytes c.push_str.new.self) new (string_bytes c.args.text.now ++ escaped all) turn c.before_letter.ensures
    c.in_ok-push_str.ensures.bytes c.in_ok-push.ensures.bytes c.loop-letter.invariant)

pub returns : goal.returns
returns g c =
    let all = chars c.args.label.now in
    let so_far = length c.loop-letter.yielded in
    let text = string_bytes c.loop-letter.text in
    let past = YieldsList-end (YieldsList-from_chars c.args.label.now c.utf8.label cc) c.loop-letter.yielded _
    c.loop-letter.yielded_by _ _ c.in-None.is c.next.ensures.steps in
    sym (append-nil text)
    ∙ ap (λ (x : List ℕ). text ++ x) (sym (at_drop_all escaped all so_far (omega (arith, past.1))))
    ∙ c.loop-letter.invariant
