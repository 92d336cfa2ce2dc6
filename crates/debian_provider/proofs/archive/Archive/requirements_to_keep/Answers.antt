use Rattle.std.proofs.Common.{◌∙◌, ◌++◌, List, ap, ap₂, map, sym}
use Rattle.debian_provider.proofs.Words.{ConditionalRequirement, native_in, plain_package}
use Rattle.debian_provider.proofs.Offered.{grown_itself, grown_twice}
use Rattle.debian_provider.proofs.Wants.{kept_first, kept_still, package_within}
use Rattle.debian_provider.proofs.Wider.{whole_by, wider_by, wider_twice}
use Rattle.debian_provider.proofs.archive.Archive.requirements_to_keep.Goals as goal

pub loop-one-init : goal.loop-one-init
loop-one-init c = (
  grown_itself c.args.self.now,
  kept_first (map plain_package c.args.few.now.packages.now) c.args.self.now _ (c.in_ok-extend_from_slice.ensures.items
      ∙ ap₂ (λ (xs ys : List ConditionalRequirement). xs ++ ys) c.new-all.ensures.items c.deref.ensures.value)
      c.requires.whole.required,
)

pub add_to_keep-requires : goal.add_to_keep-requires
add_to_keep-requires c = c.requires.native ∙ ap native_in (sym c.loop-one.invariant.0.rules)

pub loop-one-preserved : goal.loop-one-preserved
loop-one-preserved c =
    let so_far = c.loop-one.invariant in
    let step = c.in_ok-add_to_keep.ensures in (
      grown_twice c.args.self.now c.loop-one.self c.add_to_keep.new.self so_far.0 step.grown,
      step.kept (package_within c.args.self.now.rules c.loop-one.self.rules so_far.0.rules c.loop-one.one-index _
          c.loop-one-test.true) so_far.1,
    )

pub add_another-requires : goal.add_another-requires
add_another-requires c = c.requires.native ∙ ap native_in (sym c.loop-one.invariant.0.rules)

pub returns-clause-rules : goal.returns-clause-rules
returns-clause-rules c =
    c.in_ok-read_reached.ensures.wider.rules ∙ c.in_ok-add_another.ensures.grown.rules ∙ c.loop-one.invariant.0.rules

pub returns-clause-whole : goal.returns-clause-whole
returns-clause-whole c =
    let before = c.args.self.now in
    let mid = c.add_another.new.self in
    let grown = grown_twice before c.loop-one.self mid c.loop-one.invariant.0 c.in_ok-add_another.ensures.grown in
    whole_by before c.read_reached.new.self
    (wider_twice before mid c.read_reached.new.self (wider_by before mid grown) c.in_ok-read_reached.ensures.wider)
    c.in_ok-read_reached.ensures.closed c.requires.whole

pub returns-clause-kept : goal.returns-clause-kept
returns-clause-kept c =
    let wider = c.in_ok-read_reached.ensures.wider in
    kept_still (map plain_package c.args.few.now.packages.now) c.add_another.new.self c.read_reached.new.self
    wider.rules wider.later c.add_another.new.requirements.items
    (c.in_ok-add_another.ensures.kept c.loop-one.invariant.1)
