-- What the search says of the request, in Debian's words.
use Rattle.std.proofs.Common.{ℕ, Bool, List, All}
use Rattle.std.specs.declared.alloc.Global.{Global}
use Rattle.debian_scenario.specs.Packages.{PackageText}
use Rattle.resolvo_pool.specs.Types.ConditionalRequirement.{ConditionalRequirement}
use Rattle.picking.specs.Answers.{FindsNone, IfUnsolvable}
use Rattle.picking.specs.declared.finding.Answer.{Answer}
use Rattle.picking.specs.declared.finding.Answer.TheVariants.{Picked, Unsolvable, Uncertified, StepsUsed, NotASolution}
use Rattle.debian_provider.specs.Needs.{IsAnswer, IsDemand}
use Rattle.debian_provider.specs.Reading.{IsWhole}
use Rattle.debian_provider.specs.declared.archive.Archive.{Archive}
use Rattle.apt_solver.proofs.Solvable.{no_such, provided}

-- if it says that what some answers have has no solution, there are no such answers
module _ (large_name large_solvable large_hint : ℕ → Bool) (many : Bool) (archive : Archive) (whole : IsWhole archive)
    (IsSuch : List PackageText → Type 0) (answers : (there : List PackageText) → IsSuch there
    → IsAnswer archive.rules there) (requested : List ConditionalRequirement)
    (demands : All (IsDemand archive.rules archive.reached.pool IsSuch) requested) where
  pub none_found : (answer : Answer ℕ ℕ Global)
      → FindsNone (provided large_name large_solvable large_hint many archive) requested answer
      → IfUnsolvable (λ refutation. (there : List PackageText) → IsSuch there → ⊥) answer
  none_found (Picked choice) none = tt
  none_found (Unsolvable refutation) none =
      no_such large_name large_solvable large_hint many archive whole IsSuch answers requested demands none
  none_found (Uncertified refutation) none = tt
  none_found StepsUsed none = tt
  none_found NotASolution none = tt
