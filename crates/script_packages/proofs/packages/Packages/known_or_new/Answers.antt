use Rattle.std.proofs.Common.{sym}
use Rattle.script_packages.proofs.Words.{listing_of, string_bytes}
use Rattle.script_packages.proofs.Found.{found_place, found_there, named_again}
use Rattle.script_packages.proofs.packages.Packages.known_or_new.Goals as goal

pub returns-in-Some-clause-number : goal.returns-in-Some-clause-number
returns-in-Some-clause-number c =
    found_place string_bytes c.args.name.now c.args.self.now.pool.names c.in-Some.known (sym c.in-Some.ensures)

pub returns-in-Some-clause-ok : goal.returns-in-Some-clause-ok
returns-in-Some-clause-ok c =
    sym (named_again (listing_of c.args.self.now) c.args.name.now
    (found_there string_bytes c.args.name.now c.args.self.now.pool.names c.in-Some.known (sym c.in-Some.ensures)))
