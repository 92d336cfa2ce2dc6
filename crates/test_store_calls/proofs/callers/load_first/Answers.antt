use Rattle.test_store_calls.proofs.Words.{gathered, reply_of, store_of}
use Rattle.test_store_calls.proofs.LoadLaws.{one_list_each}
use Rattle.test_store_calls.proofs.callers.load_first.Goals as goal

pub returns : goal.returns
returns g c =
    let store = store_of (gathered g.D.NameId.PartialEq.eq g.D.SolvableId.PartialEq.eq
    g.D.NameId.Slots.IdMap.is_too_large g.D.SolvableId.Slots.IdMap.is_too_large
    g.D.SolvableId.Set.IdSet.is_too_large g.D.NameId.SolverId.are_many g.D.Interner.universe
    g.D.DependencyProvider.answers) g.D.NameId.Scores.IdMap.value_at in
    one_list_each (store c.args.store.now) (store c.step.new.self) c.args.requirement
    (reply_of c.step.result) c.step.ensures.step c.requires
