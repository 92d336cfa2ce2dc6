use Rattle.std.proofs.Common.{◌≡◌, true, subst, sym, arith, below_more}
use Rattle.debian_directory.specs.Directory.{is_provided}
use Rattle.debian_directory.proofs.Directories.{package_is, place_within}
use Rattle.debian_directory.proofs.directory.Directory.add_provisions.Goals as goal

pub loop-place-preserved : goal.loop-place-preserved
loop-place-preserved c = record {
  in_step = c.in_ok-add_provided.ensures.in_step;
  kept = λ name place h. c.in_ok-add_provided.ensures.kept name place (c.loop-place.invariant.kept name place h);
  added = below_more _ _
      (λ place before p at name h. c.in_ok-add_provided.ensures.kept name place
      (c.loop-place.invariant.added place before p at name h))
      (λ p at name h. c.in_ok-add_provided.ensures.added name (subst (λ q. is_provided name q.relations.provides ≡ true)
      (sym (package_is c.args.packages.now c.loop-place.place _ p c.loop-place-test.true at)) h));
}

pub returns-clause-added : goal.returns-clause-added
returns-clause-added c =
    λ place p at. c.loop-place.invariant.added place (omega (
      arith,
      place_within c.args.packages.now place p at,
      c.loop-place-test.false,
    )) p at
