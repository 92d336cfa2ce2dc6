use Rattle.debian_provider.proofs.Offered.{grown_itself, grown_twice}
use Rattle.debian_provider.proofs.archive.Archive.add_others.Goals as goal

pub loop-place-init : goal.loop-place-init
loop-place-init c = record { grown = grown_itself c.args.self.now; limits = λ h. h }

pub loop-place-preserved : goal.loop-place-preserved
loop-place-preserved c =
    let step = c.in_ok-add_other_at.ensures in
    record {
      grown = grown_twice c.args.self.now c.loop-place.self c.add_other_at.new.self c.loop-place.invariant.grown
          step.grown;
      limits = λ h. step.limits (c.loop-place.invariant.limits h);
    }
