use Rattle.std.proofs.Common.{◌≡◌, ◌∙◌, map, subst, sym}
use Rattle.std.proofs.lemmas.Result.{on_ok_weaker}
use Rattle.debian_provider.proofs.Words.{AreSetsHere, packages_in, plain_package, sets_in}
use Rattle.debian_provider.proofs.Offered.{grown_twice}
use Rattle.debian_provider.proofs.Wants.{another_demand, kept_more, kept_still, lost_still}
use Rattle.debian_provider.proofs.archive.Archive.add_another.Goals as goal

pub one_of-requires : goal.one_of-requires
one_of-requires c =
    subst (AreSetsHere c.sets_of_lost.new.self.reached.pool) (sym c.deref.ensures.value) c.in_ok-sets.ensures.here

pub returns-in-Some-clause-grown : goal.returns-in-Some-clause-grown
returns-in-Some-clause-grown c =
    on_ok_weaker c.push_requirement.result (λ pushed. grown_twice c.args.self.now c.sets_of_lost.new.self
    c.one_of.new.self c.in_ok-sets.ensures.grown c.in_ok-requirement.ensures.grown) c.push_requirement.ensures

pub returns-in-Some-clause-kept : goal.returns-in-Some-clause-kept
returns-in-Some-clause-kept c =
    let old = c.args.self.now in
    let mid = c.one_of.new.self in
    let few = map plain_package c.args.few.now.packages.now in
    let sets = c.in_ok-sets.sets.items in
    let grown = grown_twice old c.sets_of_lost.new.self mid c.in_ok-sets.ensures.grown
    c.in_ok-requirement.ensures.grown in
    on_ok_weaker c.push_requirement.result (λ pushed.
    kept_more few old mid grown c.args.requirements.now.items c.push_requirement.new.requirements.items _ pushed
    (another_demand few old.rules mid.reached.pool c.in-Some.requirement sets
    (subst (λ found. sets_in mid.reached.pool found ≡ sets) c.in-Some.is (c.in_ok-requirement.ensures.sets
    ∙ c.deref.ensures.value))
    (lost_still few old.rules c.sets_of_lost.new.self.reached.pool mid.reached.pool
    c.in_ok-requirement.ensures.grown.later
    (packages_in old.rules) sets c.in_ok-sets.ensures.lost))) c.push_requirement.ensures

pub returns-clause-grown : goal.returns-clause-grown
returns-clause-grown c =
    grown_twice c.args.self.now c.sets_of_lost.new.self c.one_of.new.self c.in_ok-sets.ensures.grown
    c.in_ok-requirement.ensures.grown

pub returns-clause-kept : goal.returns-clause-kept
returns-clause-kept c =
    let grown = grown_twice c.args.self.now c.sets_of_lost.new.self c.one_of.new.self c.in_ok-sets.ensures.grown
    c.in_ok-requirement.ensures.grown in
    kept_still (map plain_package c.args.few.now.packages.now) c.args.self.now c.one_of.new.self grown.rules grown.later
    c.args.requirements.now.items
