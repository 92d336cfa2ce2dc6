use Rattle.std.proofs.Common.{map, subst, sym}
use Rattle.std.specs.Prelude.{IfOk, IfSome}
use Rattle.std.proofs.lemmas.Result.{IfOk-weaker}
use Rattle.debian_scenario.specs.Plain.{plain_package}
use Rattle.debian_provider.specs.Needs.{IsKeepingMore}
use Rattle.debian_provider.specs.Reading.{AreKept}
use Rattle.apt_solver.specs.Search.{FindsNoSuch}
use Rattle.apt_solver.proofs.Stays.{found_before}
use Rattle.apt_solver.proofs.solving.search_once.Goals as goal

pub returns-in_ok-requirements-in-Some-clause-kept : goal.returns-in_ok-requirements-in-Some-clause-kept
returns-in_ok-requirements-in-Some-clause-kept c =
    let old = c.args.archive.now in
    let new = c.requirements_to_keep.new.self in
    let few = map plain_package c.in-Some.few.now.packages.now in
    let step = c.in_ok-requirements-in-Some.ensures in
    subst (λ o. IfSome o (λ f. IfOk c.pick.result
    (FindsNoSuch (IsKeepingMore (map plain_package f.now.packages.now)) old.rules))) (sym c.in-Some.is)
    (IfOk-weaker c.pick.result _ _
    (found_before (IsKeepingMore few) old new (record { rules = step.rules; whole = λ whole. step.whole }))
    (c.pick.ensures.kept few (subst (AreKept few new) (sym c.deref.ensures.value) step.kept)))
