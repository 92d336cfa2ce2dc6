use Rattle.std.proofs.Common.{◌+◌, ◌-◌, true, sym, subst, vec_len}
use Rattle.std.proofs.Math.ListN.{set}
use Rattle.resolvo_queue.proofs.Words.{AreFlagged}
use Rattle.resolvo_queue.proofs.Syncs.Flags.{flagged_grown, flagged_pushed}
use Rattle.resolvo_queue.proofs.noted_conditions.NotedConditions.note.Goals as goal
use Rattle.resolvo_queue.proofs.noted_conditions.NotedConditions.note.Goals.{then-index-len+in_ok-resize}
use Rattle.resolvo_queue.proofs.noted_conditions.NotedConditions.note.Goals.{else-index-len}

pub invariant_of-self-2 : goal.invariant_of-self-2
invariant_of-self-2 g c =
    let inside = c.self.inside in
    let now = c.if-index-len.self-inside in
    let room = c.args.disjunction + 1 in
    let before : AreFlagged now.disjunctions.items now.are_noted.items = elim c.if-index-len.branch [
      | then-index-len+in_ok-resize w ↦ subst (λ s. AreFlagged s.disjunctions.items s.are_noted.items)
          (sym w.self-inside-is) (subst (AreFlagged inside.disjunctions.items) (sym w.in_ok-resize.ensures.items)
          (flagged_grown inside.disjunctions.items inside.are_noted.items room (room - vec_len inside.are_noted)
          c.self.invariant))
      | else-index-len w ↦ subst (λ s. AreFlagged s.disjunctions.items s.are_noted.items) (sym w.self-inside-is)
          c.self.invariant
    ] in
    subst (λ xs. AreFlagged xs (set now.are_noted.items c.args.disjunction true)) (sym c.in_ok-push.ensures.items)
    (flagged_pushed now.disjunctions.items c.args.disjunction now.are_noted.items before)
