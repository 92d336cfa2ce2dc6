use Rattle.std.proofs.Common.{◌==◌, rules, subst, sym, tests}
use Rattle.std.proofs.lemmas.Bool.{MatchBool-at_false, MatchBool-at_true}
use Rattle.std.proofs.lemmas.Iterator.Consumers.{YieldsList-turn}
use Rattle.std.proofs.lemmas.Iterator.Splits.{YieldsList-from_slice_split}
use Rattle.debian_provider.proofs.Words.{AreFreeFor, IsNowhere, plain_package}
use Rattle.debian_provider.proofs.Demands.{part_free_for}
use Rattle.debian_provider.proofs.Offered.{grown_itself, grown_twice}
use Rattle.debian_provider.proofs.archive.Archive.add_conflicts.Goals as goal

pub loop-part-init : goal.loop-part-init
loop-part-init c = record { grown = grown_itself c.args.self.now; limits = λ met so. so }

pub loop-part-preserved : goal.loop-part-preserved
loop-part-preserved c =
    let before = c.loop-part.self in
    let one = plain_package c.args.one.now in
    let field = c.args.field.now in
    let so_far = c.loop-part.invariant in
    let step = c.in_ok-add_part.ensures in
    let turn = YieldsList-turn (YieldsList-from_slice_split _ (λ b. b == 44) field (cc) (cc) (cc)
    (λ x b q k. search (rules, tests))) c.loop-part.yielded _ c.loop-part.yielded_by _ _ _ c.in-Some.is
    c.next.ensures.steps in
    record {
      grown = grown_twice c.args.self.now before c.add_part.new.self so_far.grown step.grown;
      limits = λ met so. MatchBool-at_true _ _ c.if-not-branch.false
          (step.limits (part_free_for before.rules one field c.in-Some.part.now _ turn
          (subst (λ r. AreFreeFor r one field) (sym so_far.grown.rules) met))) (so_far.limits met so);
    }

pub returns-then-not-branch-clause-grown : goal.returns-then-not-branch-clause-grown
returns-then-not-branch-clause-grown c =
    grown_twice c.args.self.now c.loop-part.self c.add_part.new.self c.loop-part.invariant.grown
    c.in_ok-add_part.ensures.grown

pub returns-then-not-branch-clause-limits : goal.returns-then-not-branch-clause-limits
returns-then-not-branch-clause-limits c =
    let before = c.loop-part.self in
    let one = plain_package c.args.one.now in
    let field = c.args.field.now in
    let so_far = c.loop-part.invariant in
    let turn = YieldsList-turn (YieldsList-from_slice_split _ (λ b. b == 44) field (cc) (cc) (cc)
    (λ x b q k. search (rules, tests))) c.loop-part.yielded _ c.loop-part.yielded_by _ _ _ c.in-Some.is
    c.next.ensures.steps in
    λ met. subst (λ r. IsNowhere r one) so_far.grown.rules (MatchBool-at_false _ _ c.if-not-branch.true
    (c.in_ok-add_part.ensures.limits (part_free_for before.rules one field c.in-Some.part.now _ turn
    (subst (λ r. AreFreeFor r one field) (sym so_far.grown.rules) met))))
