use Rattle.std.proofs.Common.{◌≡◌, subst, sym}
use Rattle.std.specs.Prelude.{IfSome}
use Rattle.debian_directory.specs.declared.rules.Rules.{Rules}
use Rattle.debian_provider.specs.Growing.{native_in}
use Rattle.apt_solver.proofs.Stays.{stays_itself, stays_twice}
use Rattle.apt_solver.proofs.solving.search.Goals as goal

pub loop-init : goal.loop-init
loop-init c = stays_itself c.args.archive.now

pub search_once-requires-clause-whole : goal.search_once-requires-clause-whole
search_once-requires-clause-whole c = c.loop.invariant.whole c.requires.whole

pub search_once-requires-clause-native : goal.search_once-requires-clause-native
search_once-requires-clause-native c =
    subst (λ (r : Rules). IfSome c.args.few (λ f. f.now.native.now ≡ native_in r)) (sym c.loop.invariant.rules)
    c.requires.native

pub loop-preserved : goal.loop-preserved
loop-preserved c =
    stays_twice c.args.archive.now c.loop.archive c.add.new.archive c.loop.invariant
    (stays_twice c.loop.archive c.search_once.new.archive c.add.new.archive c.in_ok-answer.ensures.stays
    c.in_ok-add.ensures)
