use Rattle.std.proofs.Common.{rules, ◌≡◌, ◌≢◌, ◌-◌, length, drop, take, sym, ap, ◌∙◌, ℕ, List}
use Rattle.std.proofs.lemmas.List.{take_rest}
use Rattle.std.specs.Char.{is_ascii_digit}
use Rattle.std.specs.List.{list_all, prefix_len}
use Rattle.std.specs.Ordering.{nat_cmp, ordering_then}
use Rattle.std.specs.declared.cmp.Ordering.{Ordering}
use Rattle.std.specs.Str.Parse.{digits_value}
use Rattle.debian_versions.specs.Order.{number, part_cmp}
use Rattle.debian_versions.specs.Steps.{front_rank}
use Rattle.debian_versions.proofs.Numbers.{while-digits}
use Rattle.debian_versions.proofs.Parts.{equal_from_index, nil-parts, other_from_index, parts-character, parts-differ}
use Rattle.debian_versions.proofs.Parts.{parts-number, then-other}
use Rattle.debian_versions.proofs.part.compare_parts.Goals as goal
use Rattle.debian_versions.proofs.part.compare_parts.Goals.{then-not-is_empty, else-not-is_empty+then-not-is_empty-2}

pub returns-then-p-q : goal.returns-then-p-q
returns-then-p-q c =
    let p = c.front_rank-p.ensures in
    let q = c.front_rank-q.ensures in
    let ne : front_rank c.runs.x.now ≢ front_rank c.runs.y.now = λ e. c.if-p-q.true (p ∙ e ∙ sym q) in
    c.cmp.ensures ∙ rw (p, q) (sym (c.runs.invariant ∙ parts-differ c.runs.x.now c.runs.y.now ne))

pub runs-preserved-then-p-ne-END : goal.runs-preserved-then-p-ne-END
runs-preserved-then-p-ne-END c =
    let p = c.front_rank-p.ensures in
    let q = c.front_rank-q.ensures in
    let same : front_rank c.runs.x.now ≡ front_rank c.runs.y.now = sym p ∙ c.if-p-q.false ∙ q in
    let ne : front_rank c.runs.x.now ≢ 1 = λ e. c.if-p-ne-END.true (p ∙ e) in
    c.runs.invariant ∙ parts-character c.runs.x.now c.runs.y.now same ne
    ∙ ap (λ (l : List ℕ). part_cmp l (drop 1 c.runs.y.now)) (sym (take_rest c.runs.x.now 1))
    ∙ ap (λ (l : List ℕ). part_cmp (take (length c.runs.x.now - 1) (drop 1 c.runs.x.now)) l)
    (sym (take_rest c.runs.y.now 1))

pub compare_numbers-ordering-requires-clause-left : goal.compare_numbers-ordering-requires-clause-left
compare_numbers-ordering-requires-clause-left c =
    ap (λ (n : ℕ). list_all is_ascii_digit (take n c.runs.x.now)) c.number_len-n.ensures.value ∙ while-digits
    c.runs.x.now

pub compare_numbers-ordering-requires-clause-right : goal.compare_numbers-ordering-requires-clause-right
compare_numbers-ordering-requires-clause-right c =
    ap (λ (n : ℕ). list_all is_ascii_digit (take n c.runs.y.now)) c.number_len-m.ensures.value ∙ while-digits
    c.runs.y.now

pub returns-then-ne : goal.returns-then-ne
returns-then-ne c =
    let p = c.front_rank-p.ensures in
    let q = c.front_rank-q.ensures in
    let x = c.runs.x.now in
    let y = c.runs.y.now in
    let ex : front_rank x ≡ 1 = sym p ∙ c.if-p-ne-END.false in
    let ey : front_rank y ≡ 1 = sym q ∙ sym c.if-p-q.false ∙ c.if-p-ne-END.false in
    let o : c.compare_numbers-ordering.result ≡ nat_cmp (number x) (number y) = c.compare_numbers-ordering.ensures
    ∙ ap (λ (n : ℕ). nat_cmp (digits_value 10 (take n x)) (digits_value 10 (take c.number_len-m.result y)))
    c.number_len-n.ensures.value
    ∙ ap (λ (n : ℕ). nat_cmp (number x) (digits_value 10 (take n y))) c.number_len-m.ensures.value in
    let other = other_from_index _ c.if-ne.ensures in
    sym (c.runs.invariant ∙ parts-number x y ex ey
    ∙ ap (λ (r : Ordering). ordering_then r (part_cmp (drop (prefix_len is_ascii_digit x) x)
    (drop (prefix_len is_ascii_digit y) y))) (sym o)
    ∙ then-other _ _ other)

pub runs-preserved : goal.runs-preserved
runs-preserved c =
    let p = c.front_rank-p.ensures in
    let q = c.front_rank-q.ensures in
    let x = c.runs.x.now in
    let y = c.runs.y.now in
    let ex : front_rank x ≡ 1 = sym p ∙ c.if-p-ne-END.false in
    let ey : front_rank y ≡ 1 = sym q ∙ sym c.if-p-q.false ∙ c.if-p-ne-END.false in
    let o : c.compare_numbers-ordering.result ≡ nat_cmp (number x) (number y) = c.compare_numbers-ordering.ensures
    ∙ ap (λ (n : ℕ). nat_cmp (digits_value 10 (take n x)) (digits_value 10 (take c.number_len-m.result y)))
    c.number_len-n.ensures.value
    ∙ ap (λ (n : ℕ). nat_cmp (number x) (digits_value 10 (take n y))) c.number_len-m.ensures.value in
    let tie = sym o ∙ equal_from_index _ c.if-ne.ensures in
    c.runs.invariant ∙ parts-number x y ex ey
    ∙ ap (λ (r : Ordering). ordering_then r (part_cmp (drop (prefix_len is_ascii_digit x) x)
    (drop (prefix_len is_ascii_digit y) y))) tie
    ∙ ap (λ (n : ℕ). part_cmp (drop n x) (drop (prefix_len is_ascii_digit y) y)) (sym c.number_len-n.ensures.value)
    ∙ ap (λ (n : ℕ). part_cmp (drop c.number_len-n.result x) (drop n y)) (sym c.number_len-m.ensures.value)
    ∙ ap (λ (l : List ℕ). part_cmp l (drop c.number_len-m.result y)) (sym (take_rest x c.number_len-n.result))
    ∙ ap (λ (l : List ℕ). part_cmp (take (length x - c.number_len-n.result) (drop c.number_len-n.result x)) l)
    (sym (take_rest y c.number_len-m.result))

pub returns : goal.returns
returns c =
    let ex : length c.runs.x.now ≡ 0 = search rules in
    let ey : length c.runs.y.now ≡ 0 = search rules in
    sym (c.runs.invariant ∙ nil-parts c.runs.x.now c.runs.y.now ex ey)
