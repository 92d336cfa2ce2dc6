use Rattle.std.proofs.Common.{◌≡◌, ◌∙◌, ◌&&◌, map, subst, sym, true}
use Rattle.std.proofs.lemmas.Result.{on_ok_weaker}
use Rattle.debian_directory.specs.Answers.{has}
use Rattle.debian_provider.proofs.Words.{is_to_be_kept, IsKeepingMore, IsWantedBy, name_of, NameText, native_in}
use Rattle.debian_provider.proofs.Words.{packages_in, plain_package, request_in}
use Rattle.debian_provider.proofs.Offered.{grown_itself}
use Rattle.debian_provider.proofs.Wants.{kept_more, wanted_demand, wanted_kept}
use Rattle.debian_provider.proofs.archive.Archive.add_to_keep.Goals as goal

pub returns-then-not-is_to_stay-clause-grown : goal.returns-then-not-is_to_stay-clause-grown
returns-then-not-is_to_stay-clause-grown c = grown_itself c.args.self.now

pub returns-then-not-is_to_stay-clause-kept : goal.returns-then-not-is_to_stay-clause-kept
returns-then-not-is_to_stay-clause-kept c = λ in' kept. kept

pub returns-clause-grown : goal.returns-clause-grown
returns-clause-grown c =
    on_ok_weaker c.push_requirement.result (λ pushed. c.in_ok-requirement.ensures.grown) c.push_requirement.ensures

pub returns-clause-kept : goal.returns-clause-kept
returns-clause-kept c = λ in'.
    let old = c.args.self.now in
    let mid = c.requirement_of.new.self in
    let rules = old.rules in
    let one = c.args.one.now in
    let few = map plain_package c.args.few.now.packages.now in
    let step = c.in_ok-requirement.ensures in
    let must : (is_to_be_kept (request_in rules) (packages_in rules) (plain_package one)
    && has (native_in rules) few (name_of (native_in rules) (plain_package one))) ≡ true =
    sym c.is_to_stay.ensures ∙ c.if-not-is_to_stay.false in
    let wanted = subst (λ (n : NameText). IsWantedBy rules (IsKeepingMore few rules) n) (sym c.name_of-name.ensures)
    (wanted_kept few rules one in' must) in
    on_ok_weaker c.push_requirement.result (λ pushed.
    kept_more few old mid step.grown c.args.requirements.now.items c.push_requirement.new.requirements.items _ pushed
    (wanted_demand rules mid.reached.pool (IsKeepingMore few rules) _ wanted c.in_ok-requirement.requirement step.of))
    c.push_requirement.ensures
