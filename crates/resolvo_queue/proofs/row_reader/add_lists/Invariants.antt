use Rattle.std.proofs.Common.{◌≡◌, take, flat_map}
use Rattle.resolvo_queue.specs.Occurrences.{GrowsWith, HasAll}
use Rattle.resolvo_queue.proofs.row_reader.add_lists.Given as goal

abbrev pub invariant-loop-list : goal.invariant-loop-list
invariant-loop-list g l = record {
  grows : GrowsWith l.requirement (flat_map (λ x. x.items) l.lists) l.initial.occurrences l.occurrences;
  all : HasAll l.requirement (flat_map (λ x. x.items) (take l.list-index l.lists)) l.occurrences;
  listed : l.occurrences.listed ≡ l.initial.occurrences.listed;
}
