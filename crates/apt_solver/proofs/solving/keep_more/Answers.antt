use Rattle.std.proofs.Common.{◌∙◌, ap, map, sym}
use Rattle.std.proofs.lemmas.Result.{IfOk-weaker}
use Rattle.debian_scenario.specs.Plain.{plain_package}
use Rattle.debian_provider.specs.Growing.{native_in}
use Rattle.debian_provider.specs.Needs.{IsKeepingMore}
use Rattle.apt_solver.proofs.Stays.{found_before, stays_twice}
use Rattle.apt_solver.proofs.solving.keep_more.Goals as goal

pub search-requires-clause-whole : goal.search-requires-clause-whole
search-requires-clause-whole c = c.in_ok-wishes.ensures.whole c.requires.whole

pub search-requires-clause-native : goal.search-requires-clause-native
search-requires-clause-native c = c.requires.native ∙ ap native_in (sym c.in_ok-wishes.ensures.rules)

pub returns-clause-stays : goal.returns-clause-stays
returns-clause-stays c =
    IfOk-weaker c.search.result _ _
    (λ _ second. stays_twice c.args.archive.now c.wishes_to_keep.new.archive c.search.new.archive
    c.in_ok-wishes.ensures second) c.search.ensures.stays

pub returns-clause-none : goal.returns-clause-none
returns-clause-none c =
    IfOk-weaker c.search.result _ _
    (found_before (IsKeepingMore (map plain_package c.args.few.now.packages.now)) c.args.archive.now
    c.wishes_to_keep.new.archive c.in_ok-wishes.ensures)
    c.search.ensures.kept
