use Rattle.std.proofs.Common.{◌∙◌, ap, sym}
use Rattle.std.proofs.lemmas.Result.{IfOk-weaker}
use Rattle.debian_provider.specs.Growing.{native_in}
use Rattle.apt_solver.proofs.Stays.{stays_twice}
use Rattle.apt_solver.proofs.solving.keep_all.Goals as goal

pub search-requires-clause-whole : goal.search-requires-clause-whole
search-requires-clause-whole c = c.in_ok-wishes.ensures.whole c.requires.whole

pub search-requires-clause-native : goal.search-requires-clause-native
search-requires-clause-native c = c.requires.native ∙ ap native_in (sym c.in_ok-wishes.ensures.rules)

pub returns : goal.returns
returns c =
    IfOk-weaker c.search.result _ _
    (λ _ second. stays_twice c.args.archive.now c.wishes_beside.new.archive c.search.new.archive
    c.in_ok-wishes.ensures second) c.search.ensures.stays
