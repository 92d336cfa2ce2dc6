use Rattle.std.proofs.Common.{◌≡◌, ◌≤◌, take, length, map, vec_len, vec_capacity}
use Rattle.resolvo_store.proofs.Words.{command_of, reply_of, Run, Store, store_of, StoreState}
use Rattle.resolvo_store.specs.Store.{gathered}
use Rattle.resolvo_store.proofs.store.ClauseStore.run.Given as goal

-- the abstract store
abbrev pub store : (g : goal.Over) →
    StoreState g.row.D.Denot g.row.D-NameId.Denot g.row.D-SolvableId.Denot g.row.D-NameId-Scores.Denot →
    Store g.row.D-NameId.Denot g.row.D-SolvableId.Denot
store g = store_of (gathered g.D.NameId.PartialEq.eq g.D.SolvableId.PartialEq.eq g.D.NameId.Slots.IdMap.is_too_large
    g.D.SolvableId.Slots.IdMap.is_too_large g.D.SolvableId.Set.IdSet.is_too_large g.D.NameId.SolverId.are_many
    g.D.Interner.universe g.D.DependencyProvider.answers) g.D.NameId.Scores.IdMap.value_at

abbrev pub invariant-loop-command : goal.invariant-loop-command
invariant-loop-command g l = record {
  ran : Run (store g l.fn.self) (map command_of (take l.command-index l.commands)) (map reply_of l.replies.items)
      (store g l.self);
  provider : l.self.provider ≡ l.fn.self.provider;
  len : vec_len l.replies ≡ l.command-index;
  room : length l.commands ≤ vec_capacity l.replies;
}
