use Rattle.std.proofs.Common.{◌≡◌, [], ◌∷◌, take, flat_map}
use Rattle.resolvo_queue.specs.Occurrences.{GrowsWith, HasAll}
use Rattle.resolvo_queue.proofs.row_reader.add_list.Given as goal

abbrev pub invariant-loop-variable : goal.invariant-loop-variable
invariant-loop-variable g l = record {
  grows : GrowsWith l.requirement (flat_map (λ v. v ∷ []) l.list) l.initial.occurrences l.occurrences;
  all : HasAll l.requirement (flat_map (λ v. v ∷ []) (take l.variable-index l.list)) l.occurrences;
  listed : l.occurrences.listed ≡ l.initial.occurrences.listed;
}
