use Rattle.std.proofs.Common.{◌+◌, ◌≤◌, length}
use Rattle.resolvo_store.specs.Store.{Store, StoreState, store_of, gathered}
use Rattle.script_text.specs.Lines.{lines as lines_of}
use Rattle.scripts.specs.Commands.{Ids, ids_at}
use Rattle.scripts.specs.Transcript.{HasCommand}
use Rattle.script_text.specs.Devices.{GoesWell}
use Rattle.scripts.proofs.TranscriptLemmas.{SoFar}
use Rattle.scripts.proofs.transcript.obey_lines.Given as goal

-- the abstract store
abbrev pub store : (g : goal.Over) →
    StoreState g.row.D.Denot g.row.D-NameId.Denot g.row.D-SolvableId.Denot g.row.D-NameId-Scores.Denot →
    Store g.row.D-NameId.Denot g.row.D-SolvableId.Denot
store g = store_of (gathered g.D.NameId.PartialEq.eq g.D.SolvableId.PartialEq.eq g.D.NameId.Slots.IdMap.is_too_large
    g.D.SolvableId.Slots.IdMap.is_too_large g.D.SolvableId.Set.IdSet.is_too_large g.D.NameId.SolverId.are_many
    g.D.Interner.universe g.D.DependencyProvider.answers) g.D.NameId.Scores.IdMap.value_at

-- what numbers stand for
abbrev pub named : (g : goal.Over) → Ids g.row.D-NameId.Denot g.row.D-SolvableId.Denot
named g = ids_at g.D.NameId.DenseIndex.limit g.D.NameId.DenseIndex.id_at g.D.SolvableId.DenseIndex.limit
    g.D.SolvableId.DenseIndex.id_at

abbrev pub invariant-loop-said : goal.invariant-loop-said
invariant-loop-said g l = record {
  fits : l.number + length l.rest ≤ l.before + length l.lines;
  so_far : SoFar (named g) (store g l.fn.store) l.before (lines_of l.lines)
      (g.W.Sink.contents l.fn.writer) l.fn.waiting.items
      (store g l.store) l.number (lines_of l.rest) (g.W.Sink.contents l.writer) l.waiting.items;
  writer : GoesWell g.W.Sink.writes g.W.Sink.fails l.fn.writer l.writer;
  command : HasCommand (named g) (lines_of l.rest) → HasCommand (named g) (lines_of l.lines);
}

abbrev pub decreases-loop-said : goal.decreases-loop-said
decreases-loop-said g l = length l.rest
