use Rattle.std.proofs.Common.{◌≡◌, ◌/◌, ◌%◌, ◌+◌, ◌∷◌, ◌++◌, arith}
use Rattle.std.specs.Prelude.{decimal}
use Rattle.std.proofs.lemmas.Grind.{common_steps}
use Rattle.scripts.specs.Replies.{digit_pair}
use Rattle.scripts.proofs.Digits.{two_digits, three_digits, four_digits, four_more, last_four, put}
use Rattle.scripts.proofs.reply_line.push_more_behind.Goals as goal

pub returns-then-front-lt100 : goal.returns-then-front-lt100
returns-then-front-lt100 c =
    let n = c.args.number in
    let m = n / 10000 in
    let is : decimal n ≡ decimal m ++ last_four n = four_more n (omega arith) (omega arith) in
    let front : decimal m ≡ digit_pair m = two_digits m (omega arith) (omega arith) in
    put _ _ _ _ _ c.extend_from_slice.ensures.items (grind (arith, common_steps, is, front))

pub returns-then-front-lt1000 : goal.returns-then-front-lt1000
returns-then-front-lt1000 c =
    let n = c.args.number in
    let m = n / 10000 in
    let is : decimal n ≡ decimal m ++ last_four n = four_more n (omega arith) (omega arith) in
    let front : decimal m ≡ (48 + m / 100) ∷ digit_pair (m % 100) = three_digits m (omega arith) (omega arith) in
    put _ _ _ _ _ c.extend_from_slice-then-front-lt1000.ensures.items (grind (arith, common_steps, is, front))

pub returns-else-front-lt1000 : goal.returns-else-front-lt1000
returns-else-front-lt1000 c =
    let n = c.args.number in
    let m = n / 10000 in
    let is : decimal n ≡ decimal m ++ last_four n = four_more n (omega arith) (omega arith) in
    let front : decimal m ≡ digit_pair (m / 100) ++ digit_pair (m % 100) = four_digits m (omega arith) (omega arith) in
    put _ _ _ _ _ c.extend_from_slice-else-front-lt1000.ensures.items (grind (arith, common_steps, is, front))
