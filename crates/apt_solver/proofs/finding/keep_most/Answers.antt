use Rattle.std.proofs.Common.{◌∙◌}
use Rattle.apt_solver.proofs.Stays.{stays_itself, stays_twice}
use Rattle.apt_solver.proofs.finding.keep_most.Goals as goal

pub loop-init : goal.loop-init
loop-init c = record { stays = stays_itself c.args.archive.now; known = c.requires.known }

pub keep_more_than-requires-clause-whole : goal.keep_more_than-requires-clause-whole
keep_more_than-requires-clause-whole c = c.loop.invariant.stays.whole c.requires.whole

pub keep_more_than-requires-clause-rules : goal.keep_more_than-requires-clause-rules
keep_more_than-requires-clause-rules c = c.loop.invariant.stays.rules ∙ c.requires.rules

pub loop-preserved : goal.loop-preserved
loop-preserved c = record {
  stays = stays_twice c.args.archive.now c.loop.archive c.keep_more_than.new.archive c.loop.invariant.stays
      c.in_ok-answer.ensures.stays;
  known = c.in_ok-ordered-in-Picked.ensures;
}
