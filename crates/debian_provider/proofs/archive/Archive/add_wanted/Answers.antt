use Rattle.std.proofs.lemmas.Result.{on_ok_weaker}
use Rattle.debian_provider.proofs.Words.{IsAnswer, plain_name}
use Rattle.debian_provider.proofs.Wants.{wanted_demand, wider_required}
use Rattle.debian_provider.proofs.archive.Archive.add_wanted.Goals as goal

pub returns : goal.returns
returns c = λ wanted.
    let old = c.args.self.now in
    let mid = c.requirement_of.new.self in
    let step = c.in_ok-requirement.ensures in
    on_ok_weaker c.push_requirement.result (λ pushed.
    wider_required old mid step.grown c.push_requirement.new.requirements _ pushed
    (wanted_demand old.rules mid.reached.pool (IsAnswer old.rules) (plain_name c.args.name) wanted
    c.in_ok-requirement.requirement step.of))
    c.push_requirement.ensures
