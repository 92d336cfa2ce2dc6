use Rattle.std.proofs.Common.{◌≡◌, ◌+◌, suc, take, slice_index, refl, sym, ap, ◌∙◌, arith, ℕ}
use Rattle.std.proofs.lemmas.List.{take_rest}
use Rattle.std.specs.Char.{is_ascii_digit}
use Rattle.std.specs.List.{list_all, prefix_len}
use Rattle.debian_versions.proofs.Numbers.{while-digits}
use Rattle.debian_versions.proofs.version.split_epoch.Goals as goal

pub returns-then-version-n-eq58-clause-digits : goal.returns-then-version-n-eq58-clause-digits
returns-then-version-n-eq58-clause-digits c =
    ap (λ (n : ℕ). list_all is_ascii_digit (take n c.args.version.now)) c.number_len-n.ensures.value ∙ while-digits
    c.args.version.now

pub returns-then-version-n-eq58-clause-rest : goal.returns-then-version-n-eq58-clause-rest
returns-then-version-n-eq58-clause-rest c =
    let v = c.args.version.now in
    let n = c.number_len-n.ensures.value in
    let colon : slice_index v (prefix_len is_ascii_digit v) ≡ 58 = sym (ap (λ (k : ℕ). slice_index v k) n) ∙
    c.if-version-n-eq58.true in
    let next : c.number_len-n.result + 1 ≡ suc (prefix_len is_ascii_digit v) = omega (arith, n) in
    take_rest v (c.number_len-n.result + 1) ∙ rw (colon, next) refl
