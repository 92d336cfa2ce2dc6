use Rattle.std.proofs.Common.{refl}
use Rattle.debian_provider.proofs.Words.{string_bytes}
use Rattle.debian_provider.proofs.More.{more_by_string}
use Rattle.debian_provider.proofs.reached.Reached.add_string.Goals as goal

pub returns-in-Ok : goal.returns-in-Ok
returns-in-Ok c = more_by_string c.args.self.now _ refl (string_bytes c.args.text) c.in-Ok.ensures.ok
