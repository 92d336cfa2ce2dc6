use Rattle.std.proofs.Common.{◌≡◌, ◌/◌, ◌%◌, ◌+◌, ◌∷◌, ◌++◌, arith}
use Rattle.std.specs.Prelude.{decimal}
use Rattle.std.proofs.lemmas.Grind.{common_steps}
use Rattle.scripts.specs.Replies.{digit_pair}
use Rattle.scripts.proofs.Digits.{two_digits, three_digits, four_digits, five_digits, last_four, put}
use Rattle.scripts.proofs.reply_line.push_few_behind.Goals as goal

pub returns-then-number-lt100 : goal.returns-then-number-lt100
returns-then-number-lt100 c =
    let n = c.args.number in
    let is : decimal n ≡ digit_pair n = two_digits n c.requires.more (omega arith) in
    put _ _ _ _ _ c.extend_from_slice.ensures.items (grind (arith, common_steps, is))

pub returns-then-number-lt1000 : goal.returns-then-number-lt1000
returns-then-number-lt1000 c =
    let n = c.args.number in
    let is : decimal n ≡ (48 + n / 100) ∷ digit_pair (n % 100) = three_digits n (omega arith) (omega arith) in
    put _ _ _ _ _ c.extend_from_slice-then-number-lt1000.ensures.items (grind (arith, common_steps, is))

pub returns-then-number-lt10000 : goal.returns-then-number-lt10000
returns-then-number-lt10000 c =
    let n = c.args.number in
    let is : decimal n ≡ digit_pair (n / 100) ++ digit_pair (n % 100) = four_digits n (omega arith) (omega arith) in
    put _ _ _ _ _ c.extend_from_slice-then-number-lt10000.ensures.items (grind (arith, common_steps, is))

pub returns-else-number-lt10000 : goal.returns-else-number-lt10000
returns-else-number-lt10000 c =
    let n = c.args.number in
    let is : decimal n ≡ (48 + n / 10000) ∷ last_four n = five_digits n (omega arith) (omega arith) in
    put _ _ _ _ _ c.extend_from_slice-else-number-lt10000.ensures.items (grind (arith, common_steps, is))
