use Rattle.std.proofs.Common.{subst, sym}
use Rattle.debian_provider.proofs.Words.{IsFreeFor, plain_package, plain_relation}
use Rattle.debian_provider.proofs.Offered.{grown_itself, grown_twice}
use Rattle.debian_provider.proofs.archive.Archive.add_conflict.Goals as goal

pub loop-place-init : goal.loop-place-init
loop-place-init c = record { grown = grown_itself c.args.self.now; limits = λ free h. h }

pub loop-place-preserved : goal.loop-place-preserved
loop-place-preserved c =
    let step = c.in_ok-add_conflict_at.ensures in
    let so_far = c.loop-place.invariant in
    record {
      grown = grown_twice c.args.self.now c.loop-place.self c.add_conflict_at.new.self so_far.grown step.grown;
      limits = λ free h. step.limits (subst (λ r. IsFreeFor r (plain_package c.args.one.now)
          (plain_relation c.args.relation)) (sym so_far.grown.rules) free) (so_far.limits free h);
    }
