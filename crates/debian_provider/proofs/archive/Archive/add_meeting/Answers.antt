use Rattle.std.proofs.Common.{◌≡◌, ℕ, ◌<◌, List, ap, arith, below_more, get_or, length, subst}
use Rattle.debian_provider.proofs.Words.{architecture_of, IsOfferedAt, NameText, native_in, plain_package}
use Rattle.debian_provider.proofs.Words.{plain_relation}
use Rattle.debian_provider.specs.Sets.{Meeting}
use Rattle.debian_provider.proofs.Offered.{added_twice, meeting_offered, offered_still}
use Rattle.debian_provider.proofs.archive.Archive.add_meeting.Goals as goal

pub loop-place-init : goal.loop-place-init
loop-place-init c = record { added = c.in_ok-add_set.ensures.added; offered = λ k lt. absurd (omega arith) }

pub loop-place-preserved : goal.loop-place-preserved
loop-place-preserved c =
    let before = c.loop-place.self in
    let after = c.add_set_at.new.self in
    let sets = c.loop-place.sets.items in
    let more = c.add_set_at.new.sets.items in
    let set = Meeting (plain_relation c.args.relation.now) c.name_of.result.architecture.now in
    let places = c.places-places.result.now in
    let step = c.in_ok-add_set_at.ensures in
    record {
      added = added_twice c.args.self.now before after c.args.sets.now.items sets more c.loop-place.invariant.added
          step.added;
      offered = below_more (λ k. IsOfferedAt after.rules after.reached.pool (get_or places k 0) more set)
          c.loop-place.place-index (λ k lt. offered_still before after step.added.grown sets more step.added.kept
          (get_or places k 0) set (c.loop-place.invariant.offered k lt)) step.offered;
    }

pub returns-clause-offered : goal.returns-clause-offered
returns-clause-offered c =
    let old = c.args.self.now in
    let last = c.loop-place.self in
    let one = plain_package c.args.one.now in
    let relation = plain_relation c.args.relation.now in
    let set = Meeting relation c.name_of.result.architecture.now in
    let is : set ≡ Meeting relation (architecture_of (native_in old.rules) one) =
    ap (λ (n : NameText). Meeting relation n.architecture) c.name_of.ensures in
    meeting_offered old last c.loop-place.invariant.added.grown c.loop-place.sets.items one relation set is
    (subst (λ (l : List ℕ). (k : ℕ) → k < length l
    → IsOfferedAt last.rules last.reached.pool (get_or l k 0) c.loop-place.sets.items set)
    c.places-places.ensures (λ k lt. c.loop-place.invariant.offered k (omega (arith, lt))))
