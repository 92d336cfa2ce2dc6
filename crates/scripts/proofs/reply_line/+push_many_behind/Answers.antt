use Rattle.std.proofs.Common.{◌≡◌, ◌/◌, ◌∷◌, ◌++◌, ap, arith, sym}
use Rattle.std.specs.Prelude.{decimal}
use Rattle.std.proofs.lemmas.Grind.{common_steps}
use Rattle.scripts.proofs.Digits.{four_more, last_four, put, begun, put_behind}
use Rattle.scripts.proofs.reply_line.+push_many_behind.Goals as goal

pub returns-in_err-push_many_behind : goal.returns-in_err-push_many_behind
returns-in_err-push_many_behind t c =
    let n = c.args.number in
    let front = c.args.byte ∷ decimal (n / 10000) in
    let whole = c.args.byte ∷ decimal n in
    let is : whole ≡ front ++ last_four n =
    ap (λ digits. c.args.byte ∷ digits) (four_more n (omega arith) (omega arith)) in
    grind (
      arith,
      common_steps,
      begun c.args.text.now.items front (last_four n) whole is _ c.in_err-push_many_behind.ensures,
    )

pub returns-in_ok-push_many_behind : goal.returns-in_ok-push_many_behind
returns-in_ok-push_many_behind t c =
    let n = c.args.number in
    let front = c.args.byte ∷ decimal (n / 10000) in
    let whole = c.args.byte ∷ decimal n in
    let is : whole ≡ front ++ last_four n =
    ap (λ digits. c.args.byte ∷ digits) (four_more n (omega arith) (omega arith)) in
    put_behind c.args.text.now.items front (last_four n) whole is _ _ _
    c.in_ok-push_many_behind.ensures
    (put _ _ _ _ _ c.extend_from_slice.ensures.items (sym c.four.ensures))
