use Rattle.std.proofs.Common.{◌≡◌, ◌++◌, drop, map}
use Rattle.debian_scenario.specs.Plain.{plain_package}
use Rattle.apt_solver.specs.Difference.{new_text}
use Rattle.apt_solver.proofs.difference.write_new.Given as goal

abbrev pub invariant-loop-version : goal.invariant-loop-version
invariant-loop-version l =
    l.said.items ++ new_text (map plain_package (drop l.version-index l.there))
    ≡ l.fn.said.items ++ new_text (map plain_package l.there)
