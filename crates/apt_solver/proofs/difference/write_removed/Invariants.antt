use Rattle.std.proofs.Common.{◌≡◌, ◌++◌, drop, map}
use Rattle.debian_scenario.specs.Plain.{plain_package}
use Rattle.apt_solver.specs.Difference.{removed_text}
use Rattle.apt_solver.proofs.difference.write_removed.Given as goal

abbrev pub invariant-loop-version : goal.invariant-loop-version
invariant-loop-version l =
    let text = removed_text l.rules.request.now.architecture.now (map plain_package l.together.packages.now) in
    l.said.items ++ text (map plain_package (drop l.version-index l.rules.packages.now))
    ≡ l.fn.said.items ++ text (map plain_package l.rules.packages.now)
