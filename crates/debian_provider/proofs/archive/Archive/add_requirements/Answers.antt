use Rattle.std.proofs.Common.{subst, sym}
use Rattle.std.proofs.lemmas.Bool.{MatchBool-at_false, MatchBool-at_true}
use Rattle.debian_provider.proofs.Words.{AreDemanded, AreMetFor, IfReadable, IsNowhere, plain_package}
use Rattle.debian_provider.proofs.Demands.{if_ok, parts, readable_then}
use Rattle.debian_provider.proofs.Offered.{grown_then}
use Rattle.debian_provider.proofs.archive.Archive.add_requirements.Goals as goal

pub returns-then-not-branch-clause-needs : goal.returns-then-not-branch-clause-needs
returns-then-not-branch-clause-needs c =
    let one = plain_package c.args.one.now in
    MatchBool-at_false _ _ c.if-not-branch.true
    (c.in_ok-add_required.ensures.needs (λ there is. (parts c.args.self.now.rules one there is).0))

pub returns-clause-grown : goal.returns-clause-grown
returns-clause-grown c =
    grown_then c.add_required-2.result c.args.self.now c.add_required.new.self c.add_required-2.new.self
    c.in_ok-add_required.ensures.grown c.add_required-2.ensures.grown

pub returns-clause-needs : goal.returns-clause-needs
returns-clause-needs c =
    let old = c.args.self.now in
    let mid = c.add_required.new.self in
    let new = c.add_required-2.new.self in
    let one = plain_package c.args.one.now in
    let before = c.args.requirements.now.items in
    let between = c.add_required.new.requirements.items in
    let after = c.add_required-2.new.requirements.items in
    let grown = c.in_ok-add_required.ensures.grown in
    let first : AreDemanded old mid one before between = MatchBool-at_true _ _ c.if-not-branch.false
    (c.in_ok-add_required.ensures.needs (λ there is. (parts old.rules one there is).0)) in
    if_ok c.add_required-2.result (λ b. IfReadable mid new one b (AreDemanded mid new one between after))
    (λ b. IfReadable old new one b (AreDemanded old new one before after))
    (λ b so. readable_then b _ _ _ _ (λ second h. second (first h))
    (λ nowhere. subst (λ r. IsNowhere r one) grown.rules nowhere) so)
    (c.add_required-2.ensures.needs (subst (λ r. AreMetFor r one one.relations.depends) (sym grown.rules)
    (λ there is. (parts old.rules one there is).1)))
