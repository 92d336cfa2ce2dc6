use Rattle.std.proofs.Common.{◌≡◌, ◌==◌, ◌<◌, ◌+◌, ◌-◌, suc, length, drop, take, slice_index, refl, sym, ap, ◌∙◌}
use Rattle.std.proofs.Common.{arith, true, false, ℕ}
use Rattle.std.proofs.lemmas.List.{drop_all, take_all, take_rest}
use Rattle.std.proofs.lemmas.Bool.{ne_eqb}
use Rattle.std.specs.List.{list_any}
use Rattle.debian_versions.specs.Order.{upstream_len}
use Rattle.debian_versions.proofs.Hyphens.{none-step, upstream-all, upstream-at}
use Rattle.debian_versions.proofs.version.split_revision.Goals as goal

pub bytes-preserved : goal.bytes-preserved
bytes-preserved c =
    let t = c.args.text.now in
    let lt : c.bytes.n - 1 < length t = omega (arith, c.bytes.invariant.0, c.bytes-test.true) in
    let next : c.bytes.n ≡ (c.bytes.n - 1) + 1 = omega (arith, c.bytes-test.true) in
    let d : (slice_index t (c.bytes.n - 1) == 45) ≡ false = ne_eqb _ _ c.if-text-n-eq45.false in
    let none : list_any (λ b. b == 45) (drop ((c.bytes.n - 1) + 1) t) ≡ false = ap
    (λ (k : ℕ). list_any (λ b. b == 45) (drop k t)) (sym next) ∙ c.bytes.invariant.1 in
    (omega (arith, c.bytes.invariant.0), none-step t (c.bytes.n - 1) lt d none)

pub returns-then-text-n-eq45-clause-upstream : goal.returns-then-text-n-eq45-clause-upstream
returns-then-text-n-eq45-clause-upstream c =
    let t = c.args.text.now in
    let lt : c.bytes.n - 1 < length t = omega (arith, c.bytes.invariant.0, c.bytes-test.true) in
    let next : c.bytes.n ≡ suc (c.bytes.n - 1) = omega (arith, c.bytes-test.true) in
    let d : (slice_index t (c.bytes.n - 1) == 45) ≡ true = rw c.if-text-n-eq45.true refl in
    let none : list_any (λ b. b == 45) (drop (suc (c.bytes.n - 1)) t) ≡ false = ap
    (λ (k : ℕ). list_any (λ b. b == 45) (drop k t)) (sym next) ∙ c.bytes.invariant.1 in
    ap (λ (k : ℕ). take k t) (sym (upstream-at t (c.bytes.n - 1) lt d none))

pub returns-then-text-n-eq45-clause-revision : goal.returns-then-text-n-eq45-clause-revision
returns-then-text-n-eq45-clause-revision c =
    let t = c.args.text.now in
    let lt : c.bytes.n - 1 < length t = omega (arith, c.bytes.invariant.0, c.bytes-test.true) in
    let next : c.bytes.n ≡ suc (c.bytes.n - 1) = omega (arith, c.bytes-test.true) in
    let d : (slice_index t (c.bytes.n - 1) == 45) ≡ true = rw c.if-text-n-eq45.true refl in
    let none : list_any (λ b. b == 45) (drop (suc (c.bytes.n - 1)) t) ≡ false = ap
    (λ (k : ℕ). list_any (λ b. b == 45) (drop k t)) (sym next) ∙ c.bytes.invariant.1 in
    let at = upstream-at t (c.bytes.n - 1) lt d none in
    let more : (c.bytes.n - 1) + 1 ≡ suc (upstream_len t) = omega (arith, at) in
    take_rest t ((c.bytes.n - 1) + 1) ∙ ap (λ (k : ℕ). drop k t) more

pub returns-clause-upstream : goal.returns-clause-upstream
returns-clause-upstream c =
    let t = c.args.text.now in
    let none : list_any (λ b. b == 45) t ≡ false =
    ap (λ (k : ℕ). list_any (λ b. b == 45) (drop k t))
    (let z : 0 ≡ c.bytes.n = omega (arith, c.bytes-test.false) in z) ∙ c.bytes.invariant.1 in
    let all = upstream-all t none in
    sym (take_all (upstream_len t) t (omega (arith, all)))

pub returns-clause-revision : goal.returns-clause-revision
returns-clause-revision c =
    let t = c.args.text.now in
    let none : list_any (λ b. b == 45) t ≡ false =
    ap (λ (k : ℕ). list_any (λ b. b == 45) (drop k t))
    (let z : 0 ≡ c.bytes.n = omega (arith, c.bytes-test.false) in z) ∙ c.bytes.invariant.1 in
    let all = upstream-all t none in
    take_rest t (length t) ∙ drop_all (length t) t (omega arith) ∙ sym
    (drop_all (suc (upstream_len t)) t (omega (arith, all)))
