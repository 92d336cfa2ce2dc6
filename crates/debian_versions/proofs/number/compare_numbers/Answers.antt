use Rattle.std.proofs.Common.{◌∙◌}
use Rattle.debian_versions.proofs.Numbers.{numbers-cmp}
use Rattle.debian_versions.proofs.number.compare_numbers.Goals as goal

pub returns : goal.returns
returns c =
    let x = c.without_zeros-x.ensures in
    let y = c.without_zeros-y.ensures in
    let lengths = rw (x, y) at c.cmp.ensures in
    let digits = rw (x, y) at c.cmp-2.ensures in
    c.then.ensures ∙ rw (lengths, digits) (numbers-cmp c.args.a.now c.args.b.now c.requires.left c.requires.right)
