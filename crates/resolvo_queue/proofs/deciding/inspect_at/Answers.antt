use Rattle.std.proofs.lemmas.Grind.{common_steps}
use Rattle.std.proofs.Common.{ap, is_some, ◌∙◌, sym, arith}
use Rattle.resolvo_queue.proofs.Picks.Steps.{askable_here, dropped_asked, frontier_here, looked_asked, right_here}
use Rattle.resolvo_queue.proofs.deciding.inspect_at.Goals as goal

pub inspect-requires-clause-walkable : goal.inspect-requires-clause-walkable
inspect-requires-clause-walkable g c =
    (askable_here c.requires.decidable c.args.position c.requires.of c.index-clause.result.now
    c.index-clause.ensures).walkable

pub inspect-requires-clause-right : goal.inspect-requires-clause-right
inspect-requires-clause-right g c =
    right_here c.requires.decidable c.args.position c.requires.of c.index-clause.result.now c.index-clause.ensures

pub returns-in_err-found-clause-decidable : goal.returns-in_err-found-clause-decidable
returns-in_err-found-clause-decidable g c =
    looked_asked c.requires.decidable c.args.position c.requires.of c.index-clause.result.now c.index-clause.ensures
    c.inspect.new.requirements c.inspect.new.occurrences c.inspect.ensures.listed c.args.reader.now.walked
    c.inspect.new.reader.walked c.inspect.ensures.learns

pub returns-in-None-clause-frontier : goal.returns-in-None-clause-frontier
returns-in-None-clause-frontier g c =
    frontier_here c.requires.decidable c.args.position c.requires.of c.index-clause.result.now c.index-clause.ensures
    _ (sym c.in-None.is ∙ c.in_ok-found.ensures.eligible)

pub returns-in-None-clause-decidable : goal.returns-in-None-clause-decidable
returns-in-None-clause-decidable g c =
    dropped_asked c.requires.decidable c.args.position c.requires.of c.index-clause.result.now c.index-clause.ensures
    c.inspect.new.requirements c.inspect.new.occurrences c.inspect.ensures.listed c.args.reader.now.walked
    c.inspect.new.reader.walked c.inspect.ensures.learns
    c.remove.new.self c.remove.ensures.loses (c.in_ok-found.ensures.possible ∙ ap is_some c.in-None.is)

pub returns-in-Some-clause-frontier : goal.returns-in-Some-clause-frontier
returns-in-Some-clause-frontier g c =
    frontier_here c.requires.decidable c.args.position c.requires.of c.index-clause.result.now c.index-clause.ensures
    _ (sym c.in-Some.is ∙ c.in_ok-found.ensures.eligible)

pub returns-in-Some-clause-decidable : goal.returns-in-Some-clause-decidable
returns-in-Some-clause-decidable g c =
    looked_asked c.requires.decidable c.args.position c.requires.of c.index-clause.result.now c.index-clause.ensures
    c.inspect.new.requirements c.inspect.new.occurrences c.inspect.ensures.listed c.args.reader.now.walked
    c.inspect.new.reader.walked c.inspect.ensures.learns

pub returns-in_err-found-clause-walks : goal.returns-in_err-found-clause-walks
returns-in_err-found-clause-walks g c = grind (arith, common_steps)

pub returns-in-None-clause-walks : goal.returns-in-None-clause-walks
returns-in-None-clause-walks g c = grind (arith, common_steps)

pub returns-in-Some-clause-fewer : goal.returns-in-Some-clause-fewer
returns-in-Some-clause-fewer g c = grind (arith, common_steps)

pub returns-in-Some-clause-walks : goal.returns-in-Some-clause-walks
returns-in-Some-clause-walks g c = grind (arith, common_steps)
