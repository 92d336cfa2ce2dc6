use Rattle.std.proofs.Common.{◌≡◌, ◌∙◌, [], None, Some, false, subst, sym}
use Rattle.debian_provider.proofs.Words.{AreDemanded, is_blank, IsGroupOffered, IsThere, plain_package, sets_in}
use Rattle.debian_provider.proofs.Demands.{demands_more, group_demand, group_nowhere}
use Rattle.debian_provider.proofs.Offered.{grown_itself}
use Rattle.debian_provider.proofs.archive.Archive.add_group.Goals as goal

pub returns-then-is_blank-clause-grown : goal.returns-then-is_blank-clause-grown
returns-then-is_blank-clause-grown c = grown_itself c.args.self.now

pub returns-then-is_blank-clause-needs : goal.returns-then-is_blank-clause-needs
returns-then-is_blank-clause-needs c = λ met demands. demands

pub returns-in_default-clause-needs : goal.returns-in_default-clause-needs
returns-in_default-clause-needs c =
    let new = c.requirement.new.self in
    let one = plain_package c.args.one.now in
    let group = c.args.group.now in
    let fails : is_blank group ≡ false = sym c.is_blank.ensures ∙ c.if-is_blank.false in
    let offered = subst (λ found. IsGroupOffered new.rules new.reached.pool one (sets_in new.reached.pool found) group)
    c.in_default.is c.in_ok-requirement.ensures.offered in
    λ met. group_nowhere c.args.self.now.rules new.reached.pool one group (met fails)
    (subst (λ r. IsGroupOffered r new.reached.pool one [] group) c.in_ok-requirement.ensures.grown.rules offered)

pub returns-clause-needs : goal.returns-clause-needs
returns-clause-needs c =
    let old = c.args.self.now in
    let new = c.requirement.new.self in
    let one = plain_package c.args.one.now in
    let group = c.args.group.now in
    let requirements = c.args.requirements.now.items in
    let grown = c.in_ok-requirement.ensures.grown in
    let fails : is_blank group ≡ false = sym c.is_blank.ensures ∙ c.if-is_blank.false in
    let sets = sets_in new.reached.pool (Some c.in-Some.requirement) in
    let offered = subst (λ found. IsGroupOffered new.rules new.reached.pool one (sets_in new.reached.pool found) group)
    c.in-Some.is c.in_ok-requirement.ensures.offered in
    λ met. subst (AreDemanded old new one requirements) (sym c.in_ok-push_requirement.ensures)
    (demands_more old new grown.rules grown.later (λ r. IsThere r one) requirements
    (record { condition = None; requirement = c.in-Some.requirement })
    (group_demand old.rules new.reached.pool one group (met fails) c.in-Some.requirement
    (subst (λ r. IsGroupOffered r new.reached.pool one sets group) grown.rules offered)))
