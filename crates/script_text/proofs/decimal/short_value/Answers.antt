use Rattle.std.proofs.Common.{◌^◌, ◌≤◌, lit<, arith}
use Rattle.std.proofs.Math.Nat.{pow-le-pow_right}
use Rattle.script_text.proofs.decimal.short_value.Goals as goal

pub with_short_digit-requires : goal.with_short_digit-requires
with_short_digit-requires c =
    let few : c.loop-digit.digit-index ≤ 18 = omega arith in
    let bound : 10 ^ c.loop-digit.digit-index ≤ 10 ^ 18 = pow-le-pow_right {n = 10} (lit< tt) few in
    omega (arith, c.loop-digit.invariant.small)
