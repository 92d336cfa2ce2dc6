use Rattle.std.proofs.Common.{subst, sym}
use Rattle.std.proofs.lemmas.Bool.{MatchBool-at_false, MatchBool-at_true}
use Rattle.debian_provider.proofs.Words.{AreFreeFor, AreLimited, IfReadable, IsNowhere, plain_package}
use Rattle.debian_provider.proofs.Demands.{if_ok, parts, readable_then}
use Rattle.debian_provider.proofs.Offered.{grown_then, grown_twice}
use Rattle.debian_provider.proofs.archive.Archive.add_constraints.Goals as goal

pub returns-then-not-branch-clause-grown : goal.returns-then-not-branch-clause-grown
returns-then-not-branch-clause-grown c =
    grown_twice c.args.self.now c.add_others.new.self c.add_conflicts.new.self c.in_ok-add_others.ensures.grown
    c.in_ok-add_conflicts.ensures.grown

pub returns-then-not-branch-clause-limits : goal.returns-then-not-branch-clause-limits
returns-then-not-branch-clause-limits c =
    let one = plain_package c.args.one.now in
    let same = c.in_ok-add_others.ensures.grown.rules in
    subst (λ r. IsNowhere r one) same (MatchBool-at_false _ _ c.if-not-branch.true
    (c.in_ok-add_conflicts.ensures.limits (subst (λ r. AreFreeFor r one one.relations.conflicts) (sym same)
    (λ there is. (parts c.args.self.now.rules one there is).2))))

pub returns-clause-grown : goal.returns-clause-grown
returns-clause-grown c =
    grown_then c.add_conflicts-2.result c.args.self.now c.add_conflicts.new.self c.add_conflicts-2.new.self
    (grown_twice c.args.self.now c.add_others.new.self c.add_conflicts.new.self c.in_ok-add_others.ensures.grown
    c.in_ok-add_conflicts.ensures.grown) c.add_conflicts-2.ensures.grown

pub returns-clause-limits : goal.returns-clause-limits
returns-clause-limits c =
    let old = c.args.self.now in
    let others = c.add_others.new.self in
    let mid = c.add_conflicts.new.self in
    let new = c.add_conflicts-2.new.self in
    let one = plain_package c.args.one.now in
    let before = c.args.constrains.now.items in
    let between = c.add_conflicts.new.constrains.items in
    let after = c.add_conflicts-2.new.constrains.items in
    let same = c.in_ok-add_others.ensures.grown.rules in
    let grown = grown_twice old others mid c.in_ok-add_others.ensures.grown c.in_ok-add_conflicts.ensures.grown in
    let first : AreLimited old mid one before between = λ h. MatchBool-at_true _ _ c.if-not-branch.false
    (c.in_ok-add_conflicts.ensures.limits (subst (λ r. AreFreeFor r one one.relations.conflicts) (sym same)
    (λ there is. (parts old.rules one there is).2))) (c.in_ok-add_others.ensures.limits h) in
    if_ok c.add_conflicts-2.result (λ b. IfReadable mid new one b (AreLimited mid new one between after))
    (λ b. IfReadable old new one b (AreLimited old new one before after))
    (λ b so. readable_then b _ _ _ _ (λ second h. second (first h))
    (λ nowhere. subst (λ r. IsNowhere r one) grown.rules nowhere) so)
    (c.add_conflicts-2.ensures.limits (subst (λ r. AreFreeFor r one one.relations.breaks) (sym grown.rules)
    (λ there is. (parts old.rules one there is).3)))
