use Rattle.std.proofs.Common.{◌==◌, rules, subst, sym, tests}
use Rattle.std.proofs.lemmas.Bool.{MatchBool-at_false, MatchBool-at_true}
use Rattle.std.proofs.lemmas.Iterator.Consumers.{YieldsList-turn}
use Rattle.std.proofs.lemmas.Iterator.Splits.{YieldsList-from_slice_split}
use Rattle.debian_provider.proofs.Words.{AreMetFor, IsNowhere, plain_package}
use Rattle.debian_provider.proofs.Demands.{group_met_for}
use Rattle.debian_provider.proofs.Offered.{grown_itself, grown_twice}
use Rattle.debian_provider.proofs.archive.Archive.add_required.Goals as goal

pub loop-group-init : goal.loop-group-init
loop-group-init c = record { grown = grown_itself c.args.self.now; needs = λ met so. so }

pub loop-group-preserved : goal.loop-group-preserved
loop-group-preserved c =
    let before = c.loop-group.self in
    let one = plain_package c.args.one.now in
    let field = c.args.field.now in
    let so_far = c.loop-group.invariant in
    let step = c.in_ok-add_group.ensures in
    let turn = YieldsList-turn (YieldsList-from_slice_split _ (λ b. b == 44) field (cc) (cc) (cc)
    (λ x b q k. search (rules, tests))) c.loop-group.yielded _ c.loop-group.yielded_by _ _ _ c.in-Some.is
    c.next.ensures.steps in
    record {
      grown = grown_twice c.args.self.now before c.add_group.new.self so_far.grown step.grown;
      needs = λ met so. MatchBool-at_true _ _ c.if-not-branch.false
          (step.needs (group_met_for before.rules one field c.in-Some.group.now _ turn
          (subst (λ r. AreMetFor r one field) (sym so_far.grown.rules) met))) (so_far.needs met so);
    }

pub returns-then-not-branch-clause-grown : goal.returns-then-not-branch-clause-grown
returns-then-not-branch-clause-grown c =
    grown_twice c.args.self.now c.loop-group.self c.add_group.new.self c.loop-group.invariant.grown
    c.in_ok-add_group.ensures.grown

pub returns-then-not-branch-clause-needs : goal.returns-then-not-branch-clause-needs
returns-then-not-branch-clause-needs c =
    let before = c.loop-group.self in
    let one = plain_package c.args.one.now in
    let field = c.args.field.now in
    let so_far = c.loop-group.invariant in
    let turn = YieldsList-turn (YieldsList-from_slice_split _ (λ b. b == 44) field (cc) (cc) (cc)
    (λ x b q k. search (rules, tests))) c.loop-group.yielded _ c.loop-group.yielded_by _ _ _ c.in-Some.is
    c.next.ensures.steps in
    λ met. subst (λ r. IsNowhere r one) so_far.grown.rules (MatchBool-at_false _ _ c.if-not-branch.true
    (c.in_ok-add_group.ensures.needs (group_met_for before.rules one field c.in-Some.group.now _ turn
    (subst (λ r. AreMetFor r one field) (sym so_far.grown.rules) met))))
