use Rattle.std.proofs.Common.{List}
use Rattle.solutions.proofs.Words.{All, IsMet}
use Rattle.solutions.proofs.ReasonLemmas.{one_of_all}
use Rattle.solutions.proofs.encoding.Encoder.say_all.Invariants.{provided}
use Rattle.solutions.proofs.EncodingLemmas as L
use Rattle.solutions.proofs.encoding.Encoder.say_all.Goals as goal

pub loop-reason-init : goal.loop-reason-init
loop-reason-init g c =
    let p = provided g c.args.self.now.provider.now in
    L.still p (λ picked. All (IsMet p picked) c.args.reasons.now) c.args.theory.now.clauses.items

pub loop-reason-preserved : goal.loop-reason-preserved
loop-reason-preserved g c =
    let p = provided g c.args.self.now.provider.now in
    let reasons = c.args.reasons.now in
    let r = c.reason-item.result in
    let AreMet = λ (picked : List g.row.D-SolvableId.Denot). All (IsMet p picked) reasons in
    L.still_then p AreMet c.args.theory.now.clauses.items c.loop-reason.theory.clauses.items
    c.say.new.theory.clauses.items c.loop-reason.invariant
    (L.still_where p (λ picked. IsMet p picked r) AreMet c.loop-reason.theory.clauses.items
    c.say.new.theory.clauses.items
    (λ picked all. one_of_all (IsMet p picked) reasons c.loop-reason.reason-index r c.loop-reason-test.true
    c.reason-item.is all)
    c.in_ok-say.ensures)
