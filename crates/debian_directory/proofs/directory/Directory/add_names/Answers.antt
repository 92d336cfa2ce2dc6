use Rattle.std.proofs.Common.{◌≡◌, true, subst, arith, below_more}
use Rattle.debian_directory.specs.Directory.{is_placed}
use Rattle.debian_directory.proofs.Directories.{package_is, place_within}
use Rattle.debian_directory.proofs.directory.Directory.add_names.Goals as goal

pub loop-place-preserved : goal.loop-place-preserved
loop-place-preserved c = record {
  in_step = c.in_ok-add.ensures.in_step;
  added = below_more _ _
      (λ place before p at. c.in_ok-add.ensures.kept p.identity.name place
      (c.loop-place.invariant.added place before p at))
      (λ p at. subst (λ q. is_placed c.add.new.self q.identity.name c.loop-place.place ≡ true)
      (package_is c.args.packages.now c.loop-place.place _ p c.loop-place-test.true at) c.in_ok-add.ensures.added);
}

pub returns-clause-added : goal.returns-clause-added
returns-clause-added c =
    λ place p at. c.loop-place.invariant.added place (omega (
      arith,
      place_within c.args.packages.now place p at,
      c.loop-place-test.false,
    )) p at
