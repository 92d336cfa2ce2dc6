use Rattle.std.proofs.Common.{map, ap, subst, sym, ◌∙◌}
use Rattle.std.proofs.lemmas.List.{take-map}
use Rattle.debian_scenario.specs.Plain.{plain_package}
use Rattle.debian_directory.specs.Directory.{IsDirectoryOf}
use Rattle.debian_directory.proofs.Names.{of_first}
use Rattle.debian_directory.proofs.together.Together.first.Goals as goal

pub invariant_of-result : goal.invariant_of-result
invariant_of-result c =
    let own = c.args.self.now in
    record {
      of_packages = subst (λ packages. IsDirectoryOf packages own.directory.now)
          (take-map plain_package c.min.result own.packages.now ∙ ap (map plain_package) (sym c.split_at.ensures.front))
          (of_first (map plain_package own.packages.now) own.directory.now c.min.result own.of_packages);
    }
