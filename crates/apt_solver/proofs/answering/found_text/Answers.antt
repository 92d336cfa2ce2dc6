use Rattle.std.proofs.Common.{subst}
use Rattle.std.proofs.lemmas.Result.{IfOk-weaker}
use Rattle.apt_solver.specs.Search.{IsFound}
use Rattle.apt_solver.proofs.Known.{none_said}
use Rattle.apt_solver.proofs.answering.found_text.Goals as goal

pub answer_caused-requires-clause-known : goal.answer_caused-requires-clause-known
answer_caused-requires-clause-known c = (subst (IsFound c.args.rules.now) c.in-Packages.is c.requires).0

pub answer_caused-requires-clause-none : goal.answer_caused-requires-clause-none
answer_caused-requires-clause-none c = (subst (IsFound c.args.rules.now) c.in-Packages.is c.requires).1

pub returns-in-NoAnswer : goal.returns-in-NoAnswer
returns-in-NoAnswer c =
    IfOk-weaker c.none_text.result _ _
    (λ said. none_said c.args.rules.now said.items _ (subst (IsFound c.args.rules.now) c.in-NoAnswer.is c.requires))
    c.none_text.ensures
