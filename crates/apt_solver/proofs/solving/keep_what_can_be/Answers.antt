use Rattle.std.proofs.lemmas.Result.{IfOk-weaker}
use Rattle.debian_provider.specs.Needs.{IsAnswer}
use Rattle.apt_solver.proofs.Stays.{found_before, stays_twice}
use Rattle.apt_solver.proofs.solving.keep_what_can_be.Goals as goal

pub search-requires-clause-whole : goal.search-requires-clause-whole
search-requires-clause-whole c = c.in_ok-wishes.ensures.whole c.requires

pub returns-clause-stays : goal.returns-clause-stays
returns-clause-stays c =
    IfOk-weaker c.search.result _ _
    (λ _ second. stays_twice c.args.archive.now c.wishes_to_keep.new.archive c.search.new.archive
    c.in_ok-wishes.ensures second) c.search.ensures.stays

pub returns-clause-none : goal.returns-clause-none
returns-clause-none c =
    IfOk-weaker c.search.result _ _
    (found_before IsAnswer c.args.archive.now c.wishes_to_keep.new.archive c.in_ok-wishes.ensures)
    c.search.ensures.none
