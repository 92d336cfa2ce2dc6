use Rattle.std.proofs.Common.{All, Contains, List, subst}
use Rattle.std.proofs.lemmas.List.Elements.{All-contains, All-weaker}
use Rattle.debian_scenario.specs.declared.package.Package.{Package}
use Rattle.apt_solver.proofs.ordering.packages_in_order.Goals as goal

pub returns : goal.returns
returns c =
    let packages = c.args.rules.now.packages.now in
    let found = c.in_ok-found.found.items in
    All-weaker (Contains found) (Contains packages)
    (λ x at. All-contains (Contains packages) found x c.in_ok-found.ensures at) c.in_ok-there.there.items
    (subst (λ (ps : List Package). All (Contains ps) c.in_ok-there.there.items) c.deref-2.ensures.value
    c.in_ok-there.ensures)
