use Rattle.std.proofs.Common.{subst, sym}
use Rattle.std.specs.Prelude.{All}
use Rattle.std.proofs.lemmas.Bool.{MatchBool-at_false, MatchBool-at_true}
use Rattle.std.proofs.lemmas.List.Elements.{All-nil}
use Rattle.debian_provider.proofs.Words.{IsDemand, IsLimit, IsNowhere, IsThere, plain_package}
use Rattle.debian_provider.proofs.Demands.{demands_still}
use Rattle.debian_provider.proofs.Offered.{grown_twice}
use Rattle.debian_provider.proofs.archive.Archive.read_needs.Goals as goal

pub returns-then-not-branch-clause-needs : goal.returns-then-not-branch-clause-needs
returns-then-not-branch-clause-needs c =
    subst (λ r. IsNowhere r (plain_package c.args.one.now)) (sym c.in_ok-add_requirements.ensures.grown.rules)
    (MatchBool-at_false _ _ c.if-not-branch.true c.in_ok-add_requirements.ensures.needs)

pub returns-then-not-branch-2-clause-grown : goal.returns-then-not-branch-2-clause-grown
returns-then-not-branch-2-clause-grown c =
    grown_twice c.args.self.now c.add_requirements.new.self c.add_constraints.new.self
    c.in_ok-add_requirements.ensures.grown c.in_ok-add_constraints.ensures.grown

pub returns-then-not-branch-2-clause-needs : goal.returns-then-not-branch-2-clause-needs
returns-then-not-branch-2-clause-needs c =
    subst (λ r. IsNowhere r (plain_package c.args.one.now)) (sym c.in_ok-add_constraints.ensures.grown.rules)
    (MatchBool-at_false _ _ c.if-not-branch-2.true c.in_ok-add_constraints.ensures.limits)

pub returns-clause-grown : goal.returns-clause-grown
returns-clause-grown c =
    grown_twice c.args.self.now c.add_requirements.new.self c.add_constraints.new.self
    c.in_ok-add_requirements.ensures.grown c.in_ok-add_constraints.ensures.grown

pub returns-clause-needs : goal.returns-clause-needs
returns-clause-needs c =
    let old = c.args.self.now in
    let mid = c.add_requirements.new.self in
    let new = c.add_constraints.new.self in
    let one = plain_package c.args.one.now in
    let grown = c.in_ok-add_constraints.ensures.grown in (
      demands_still mid new grown.rules grown.later (λ r. IsThere r one) c.add_requirements.new.requirements.items
          (MatchBool-at_true _ _ c.if-not-branch.false c.in_ok-add_requirements.ensures.needs
          (subst (All (IsDemand old.rules old.reached.pool (IsThere old.rules one)))
          (sym c.new-known.ensures.requirements)
          (All-nil (IsDemand old.rules old.reached.pool (IsThere old.rules one))))),
      MatchBool-at_true _ _ c.if-not-branch-2.false c.in_ok-add_constraints.ensures.limits
          (subst (All (IsLimit mid.rules mid.reached.pool one)) (sym c.new-known.ensures.constrains)
          (All-nil (IsLimit mid.rules mid.reached.pool one))),
    )
