use Rattle.std.proofs.Common.{◌<◌, ◌∙◌, [], ap, arith, length, map, subst, sym}
use Rattle.std.proofs.lemmas.List.Elements.{All-nil}
use Rattle.std.proofs.lemmas.List.{take_all}
use Rattle.debian_provider.specs.Sets.{All as Whole}
use Rattle.debian_provider.proofs.Words.{AreOfLost, IsAdded, native_in, plain_package, VersionSetId}
use Rattle.debian_provider.proofs.Demands.{contains_none}
use Rattle.debian_provider.proofs.Named.{has_set_still}
use Rattle.debian_provider.proofs.Offered.{added_itself, added_twice}
use Rattle.debian_provider.proofs.Wants.{lost_more}
use Rattle.debian_provider.proofs.archive.Archive.sets_of_lost.Goals as goal

pub loop-one-init : goal.loop-one-init
loop-one-init c =
    let old = c.args.self.now in
    record {
      added = subst (IsAdded old old []) (sym c.new-sets.ensures.items) (added_itself old []);
      lost = λ p at is. absurd (contains_none p at);
    }

pub add_if_lost-requires : goal.add_if_lost-requires
add_if_lost-requires c = c.requires ∙ ap native_in (sym c.loop-one.invariant.added.grown.rules)

pub loop-one-preserved : goal.loop-one-preserved
loop-one-preserved c =
    let old = c.args.self.now in
    let before = c.loop-one.self in
    let after = c.add_if_lost.new.self in
    let sets = c.loop-one.sets.items in
    let more = c.add_if_lost.new.sets.items in
    let few = map plain_package c.args.few.now.packages.now in
    let step = c.in_ok-add_if_lost.ensures in
    record {
      added = added_twice old before after [] sets more c.loop-one.invariant.added step.added;
      lost = lost_more few old.rules before.rules c.loop-one.invariant.added.grown.rules before.reached.pool
          after.reached.pool sets more old.rules.packages.now c.loop-one.one-index _ c.loop-one-test.true
          (λ name. has_set_still before.reached.pool after.reached.pool step.added.grown.later sets more step.added.kept
          name Whole)
          step.lost c.loop-one.invariant.lost;
    }

pub returns-clause-grown : goal.returns-clause-grown
returns-clause-grown c = c.loop-one.invariant.added.grown

pub returns-clause-here : goal.returns-clause-here
returns-clause-here c =
    c.loop-one.invariant.added.here
    (All-nil (λ (v : VersionSetId). v.0 < length c.args.self.now.reached.pool.version_sets))

pub returns-clause-lost : goal.returns-clause-lost
returns-clause-lost c =
    let old = c.args.self.now.rules in
    let few = map plain_package c.args.few.now.packages.now in
    subst (λ l. AreOfLost few old c.loop-one.self.reached.pool (map plain_package l) c.loop-one.sets.items)
    (take_all _ _ (omega (arith, c.loop-one-test.false))) c.loop-one.invariant.lost
