use Rattle.resolvo_queue.proofs.Words.{clause_of, literals_in, refs_of, values_in}
use Rattle.resolvo_queue.specs.References.{rows_in}
use Rattle.resolvo_queue.proofs.Falsified.First.{falsified_met}
use Rattle.resolvo_queue.proofs.questions.FalsifiedQuestion.is_falsified.Goals as goal

pub returns-then-condition_holds : goal.returns-then-condition_holds
returns-then-condition_holds g c =
    let refs = refs_of g.I.Interner.universe c.args.self.now in
    falsified_met (values_in c.args.self.now.map.now) (literals_in refs) (rows_in refs)
    (clause_of c.args.clause.now) c.value.result c.in-Some-true.field-0
    c.condition_holds.result c.are_all_false.result c.value.ensures c.in-Some-true.is c.in-Some-true.field-0-test
    c.if-condition_holds.true c.condition_holds.ensures c.are_all_false.ensures
