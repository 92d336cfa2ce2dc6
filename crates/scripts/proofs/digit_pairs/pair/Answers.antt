use Rattle.scripts.proofs.Digits.{pair_at}
use Rattle.scripts.proofs.digit_pairs.pair.Goals as goal

pub returns : goal.returns
returns c = pair_at c.args.number c.requires
