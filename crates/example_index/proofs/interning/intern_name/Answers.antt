use Rattle.std.proofs.Common.{◌∙◌, sym}
use Rattle.example_index.proofs.Interned.{found_at}
use Rattle.example_index.proofs.interning.intern_name.Goals as goal

pub returns-in-Some-clause-is : goal.returns-in-Some-clause-is
returns-in-Some-clause-is c =
    sym (found_at c.args.name.now c.args.pool.now.names) ∙ sym c.find_package_name.ensures ∙ c.in-Some.is
