use Rattle.std.proofs.lemmas.Result.{IfOk-weaker}
use Rattle.std.proofs.Common.{◌≡◌, sym, subst}
use Rattle.clauses.specs.Clauses.{literals_of}
use Rattle.clauses.specs.Stored.{stored_in}
use Rattle.test_part_calls.specs.Truth.{RequiresSays}
use Rattle.test_part_calls.proofs.TruthLaws.{requires_says}
use Rattle.test_part_calls.proofs.clause_laws.literals_of_required.Goals as goal

pub returns : goal.returns
returns g c =
    let k = stored_in c.args.learnt.now c.args.lists.now c.args.disjunctions.now in
    IfOk-weaker c.literals.result (λ literals. literals.items ≡ literals_of k c.args.clause.now) (λ literals.
    RequiresSays k c.args.clause.now literals.items) (λ literals is.
    subst (λ ls. RequiresSays k c.args.clause.now ls) (sym is) (requires_says k c.args.clause.now))
    c.literals.ensures.ok
